use Rattle.std.proofs.Common.{◌≡◌, []}
use Rattle.term_table.specs.Steps.{run}
use Rattle.term_table.specs.Stack.{stacked}
use Rattle.term_table.proofs.build.built.Given as goal

abbrev pub invariant-loop-step : goal.invariant-loop-step
invariant-loop-step l = stacked l.stack.items ≡ run l.yielded []
