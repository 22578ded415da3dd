use Rattle.std.proofs.Common.{ℤ, ◌∷◌, [], ◌++◌, ◌∙◌, sym, subst, ap}
use Rattle.lin_term.specs.Point.{AreWithin}
use Rattle.lin_term.proofs.Terms.{word_of}
use Rattle.cube_elim.proofs.MorePoints.{within_push}
use Rattle.cube_elim.proofs.next.with_number.Goals as goal

pub from_parts-requires-clause-within : goal.from_parts-requires-clause-within
from_parts-requires-clause-within c =
    let w = subst AreWithin (sym c.in_ok-nums.ensures) c.nums.ensures.kept in
    let e = c.in_ok-push.ensures.ok ∙ ap (λ (y : ℤ). c.in_ok-nums.nums ++ y ∷ []) (word_of c.args.z c.requires) in
    subst AreWithin (sym e) (within_push c.in_ok-nums.nums c.args.z w c.requires)
