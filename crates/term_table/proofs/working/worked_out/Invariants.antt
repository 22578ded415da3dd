use Rattle.std.proofs.Common.{◌≡◌, []}
use Rattle.term_table.specs.Known.{known_run, turned}
use Rattle.term_table.proofs.working.worked_out.Given as goal

abbrev pub invariant-loop-step : goal.invariant-loop-step
invariant-loop-step l = turned l.stack.items ≡ known_run l.yielded []
