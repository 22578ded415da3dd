use Rattle.std.proofs.Common.{subst, sym, []}
use Rattle.norm_form.specs.declared.branches.Case.{Case}
use Rattle.norm_form.specs.Cases.{put}
use Rattle.norm_form.specs.Claim.{claimed, stacked_on, AreStacked}
use Rattle.norm_form.proofs.claim.placed.Goals as goal

pub returns-in-Form : goal.returns-in-Form
returns-in-Form c =
    subst (λ (z : Case). AreStacked (put z (λ e x. claimed c.args.claim c.args.sort c.args.truth x) (stacked_on c.args.stack [])) c.with_formula.result) (sym c.in-Form.is)
    (c.with_formula.ensures (claimed c.args.claim c.args.sort c.args.truth c.in-Form.x) c.claimed.ensures)
