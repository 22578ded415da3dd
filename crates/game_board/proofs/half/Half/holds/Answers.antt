use Rattle.game_tree.specs.View.{skeleton_of}
use Rattle.game_board.proofs.HalfLemmas.{newest_holds}
use Rattle.game_board.proofs.half.Half.holds.Goals as goal

pub returns : goal.returns
returns g c =
    newest_holds c.args.self.now (skeleton_of c.args.paths.now.tree) c.contains.result c.contains.ensures
