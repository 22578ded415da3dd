use Rattle.std.proofs.Common.{pos, arith, sym, subst}
use Rattle.lin_term.specs.Point.{AreWithin}
use Rattle.cube_elim.proofs.MorePoints.{within_push}
use Rattle.cube_elim.proofs.climb.with_zero.Goals as goal

pub from_parts-requires-clause-within : goal.from_parts-requires-clause-within
from_parts-requires-clause-within c =
    let w = subst AreWithin (sym c.in_ok-nums.ensures) c.nums.ensures.kept in
    subst AreWithin (sym c.in_ok-push.ensures.ok) (within_push c.in_ok-nums.nums (pos 0) w (omega arith))
