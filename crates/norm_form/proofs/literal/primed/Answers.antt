use Rattle.lin_term.specs.Literal.{prim}
use Rattle.lin_term.specs.Wide.{lit_numbers}
use Rattle.lin_form.proofs.Keeping.{past_none, past_some}
use Rattle.norm_form.proofs.literal.primed.Goals as goal

pub returns-in-Ok : goal.returns-in-Ok
returns-in-Ok c = (past_none (lit_numbers (prim c.args.sort c.args.lit)) c.in-Ok.ensures.0, c.in-Ok.ensures.1)

pub returns-in-Err-Fault : goal.returns-in-Err-Fault
returns-in-Err-Fault c = past_some (lit_numbers (prim c.args.sort c.args.lit)) c.in-Err-Fault.field-0-0.number (rw c.in-Err-Fault.field-0-is at c.in-Err-Fault.ensures)
