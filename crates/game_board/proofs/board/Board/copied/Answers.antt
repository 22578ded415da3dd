use Rattle.std.proofs.Common.{sym, subst}
use Rattle.game_tree.specs.Written.{WrittenSkeleton}
use Rattle.std.specs.Prelude.{Option, Some}
use Rattle.game_board.specs.Replies.{IsLook}
use Rattle.game_board.proofs.board.Board.copied.Goals as goal

pub returns : goal.returns
returns g c =
    subst (λ (w : WrittenSkeleton). IsLook g.D.Domain.SORT c.args.self.now c.args.side c.args.version (Some w)) (sym c.in_ok-copy.ensures) (subst (λ (o : Option WrittenSkeleton). IsLook g.D.Domain.SORT c.args.self.now c.args.side c.args.version o) c.in-Some.is c.look.ensures)

pub returns-in_default : goal.returns-in_default
returns-in_default g c =
    subst (λ (o : Option WrittenSkeleton). IsLook g.D.Domain.SORT c.args.self.now c.args.side c.args.version o) c.in_default.is c.look.ensures
