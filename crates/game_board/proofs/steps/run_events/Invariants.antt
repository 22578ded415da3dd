use Rattle.std.proofs.Common.{◌≡◌, ◌++◌}
use Rattle.game_board.specs.Running.{LeadsTo}
use Rattle.game_board.proofs.steps.run_events.Given as goal

abbrev pub invariant-loop-event : goal.invariant-loop-event
invariant-loop-event g l = LeadsTo g.D.Domain.SORT l.fn.problem l.fn.rounds l.yielded l.board × (l.fn.events.items ≡ l.yielded ++ l.event-iterator.rest.items)
