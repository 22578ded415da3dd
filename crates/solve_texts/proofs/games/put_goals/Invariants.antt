use Rattle.std.proofs.Common.{◌≡◌, ◌++◌, take}
use Rattle.solve_texts.specs.Journal.{goal_texts}
use Rattle.solve_texts.proofs.games.put_goals.Given as goal

abbrev pub invariant-loop-number : goal.invariant-loop-number
invariant-loop-number l = l.out.items ≡ l.fn.out.items ++ goal_texts 0 (take l.number l.prefixes) (take l.number l.outcomes)
