use Rattle.std.proofs.Common.{◌∙◌, sym, subst, w64, to_z, of_z}
use Rattle.lin_term.specs.Point.{AreWithin}
use Rattle.search_attack.proofs.Within.{within_more}
use Rattle.search_attack.proofs.offered.push_within.Goals as goal

pub returns : goal.returns
returns c =
    subst AreWithin (sym c.in_ok-push.ensures.ok)
    (within_more c.args.nums.now (to_z w64 (of_z w64 c.args.n)) c.requires (sym c.is_kept.ensures ∙ c.if-not-is_kept.false))
