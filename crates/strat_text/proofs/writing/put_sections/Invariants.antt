use Rattle.std.proofs.Common.{◌≡◌, ◌++◌, take}
use Rattle.strat_text.specs.Written as spelled
use Rattle.strat_text.proofs.writing.put_sections.Given as goal

abbrev pub invariant-loop-number : goal.invariant-loop-number
invariant-loop-number l = l.out.items ≡ l.fn.out.items ++ spelled.sections_from 0 (take l.number l.sections)
