use Rattle.std.proofs.Common.{◌≡◌, ◌++◌, take, map}
use Rattle.strat_text.specs.Written as spelled
use Rattle.strat_text.proofs.writing.put_letters.Given as goal

abbrev pub invariant-loop-own : goal.invariant-loop-own
invariant-loop-own l = l.out.items ≡ l.fn.out.items ++ map spelled.letter (take l.own-index l.turns)
