use Rattle.std.proofs.Common.{◌≡◌, drop}
use Rattle.strat_check.specs.Section.{turns_of, same_turns}
use Rattle.strat_check.proofs.turns.fit.Given as goal

-- what is left fits exactly where the whole does
abbrev pub invariant-loop-i : goal.invariant-loop-i
invariant-loop-i l = same_turns (drop l.i l.turns) (turns_of (drop l.i l.prefix)) ≡ same_turns l.turns (turns_of l.prefix)
