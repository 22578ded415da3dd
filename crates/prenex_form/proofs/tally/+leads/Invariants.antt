use Rattle.std.proofs.Common.{◌≡◌, drop}
use Rattle.norm_form.specs.View.{shapes_of}
use Rattle.prenex_form.specs.Pass.{any_leads}
use Rattle.prenex_form.proofs.tally.+leads.Given as goal

abbrev pub invariant-any_leads-loop-part : goal.invariant-any_leads-loop-part
invariant-any_leads-loop-part l = any_leads (shapes_of (drop l.part-index l.parts)) ≡ any_leads (shapes_of l.parts)
