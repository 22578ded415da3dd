use Rattle.std.proofs.Common.{◌∙◌, ◌∷◌, [], ap, sym}
use Rattle.term_table.specs.Known.{known_step}
use Rattle.term_table.proofs.KnownLemmas.{run-append}
use Rattle.term_table.proofs.working.worked_out.Goals as goal

pub loop-step-preserved : goal.loop-step-preserved
loop-step-preserved c = c.in_ok-take_step.ensures ∙ ap (known_step c.in-Some.step) c.loop-step.invariant ∙ sym (run-append c.loop-step.yielded (c.in-Some.step ∷ []) [])
