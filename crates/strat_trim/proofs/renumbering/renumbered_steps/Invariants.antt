use Rattle.std.specs.Prelude.{map}
use Rattle.std.proofs.Common.{take, ◌≡◌}
use Rattle.strat_trim.specs.Renamed.{rename_step}
use Rattle.strat_trim.proofs.renumbering.renumbered_steps.Given as goal

abbrev pub invariant-loop-step : goal.invariant-loop-step
invariant-loop-step l = l.list ≡ map (rename_step l.paths l.nodes) (take l.step-index l.steps)
