use Rattle.std.specs.Prelude.{Some}
use Rattle.std.proofs.Common.{refl}
use Rattle.game_tree.specs.View.{skeleton_of}
use Rattle.game_board.proofs.HalfLemmas.{grew}
use Rattle.game_board.proofs.half.Half.grow.Goals as goal

pub returns-in-Ok-clause-grown : goal.returns-in-Ok-clause-grown
returns-in-Ok-clause-grown g c =
    grew c.args.self.now (record { problem = c.args.self.now.problem; grown = c.grow.new.self; reach = Some c.args.version; noted = c.args.self.now.noted }) (skeleton_of c.args.paths.now.tree) c.args.version c.in-Ok.made refl refl refl c.in-Ok.ensures.grown c.grow.ensures.prefix c.in-Ok.ensures.few c.in-Ok.ensures.number
