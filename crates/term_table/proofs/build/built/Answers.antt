use Rattle.std.proofs.Common.{◌∙◌, ◌∷◌, [], ap, sym}
use Rattle.term_table.specs.Steps.{stepped}
use Rattle.term_table.proofs.StepLemmas.{run-append}
use Rattle.term_table.proofs.build.built.Goals as goal

pub loop-step-preserved : goal.loop-step-preserved
loop-step-preserved c = c.in_ok-take_step.ensures ∙ ap (stepped c.in-Some.step) c.loop-step.invariant ∙ sym (run-append c.loop-step.yielded (c.in-Some.step ∷ []) [])
