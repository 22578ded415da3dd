use Rattle.std.specs.Prelude.{true}
use Rattle.norm_form.specs.Cap.{capped_maker}
use Rattle.lin_term.specs.declared.Lit.TheVariants.{AtLeast, Above}
use Rattle.norm_form.specs.Claim.{claimed}
use Rattle.norm_form.specs.declared.claim.Claim.TheVariants as claims
use Rattle.norm_form.proofs.Claiming.{negative_stops, zero_made, not_zero_made}
use Rattle.norm_form.proofs.claim.zero.Goals as goal

pub returns-then-truth : goal.returns-then-truth
returns-then-truth c =
    zero_made c.args.sort c.args.truth c.args.x c.in-Ok.minus c.into_row.result c.into_row-then-truth.result c.both.result c.if-truth.true c.into_row.ensures c.into_row-then-truth.ensures c.in-Ok.ensures.value.1
    (c.both.ensures (capped_maker.signed true c.args.sort (AtLeast c.into_row.result)) (capped_maker.signed true c.args.sort (AtLeast c.into_row-then-truth.result)) c.literal-a.ensures c.literal-b.ensures)

pub returns-else-truth : goal.returns-else-truth
returns-else-truth c =
    not_zero_made c.args.sort c.args.truth c.args.x c.in-Ok.minus c.into_row-else-truth.result c.into_row-else-truth-2.result c.both-else-truth.result c.if-truth.false c.into_row-else-truth.ensures c.into_row-else-truth-2.ensures c.in-Ok.ensures.value.1
    (c.both-else-truth.ensures (capped_maker.signed true c.args.sort (Above c.into_row-else-truth.result)) (capped_maker.signed true c.args.sort (Above c.into_row-else-truth-2.result)) c.literal-a-else-truth.ensures c.literal-b-else-truth.ensures)

pub returns-in-Err : goal.returns-in-Err
returns-in-Err c = negative_stops c.args.x (claimed claims.Zero c.args.sort c.args.truth c.args.x) c.in-Err.fault c.in-Err.ensures.kept c.in-Err.ensures.value
