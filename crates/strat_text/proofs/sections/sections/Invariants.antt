use Rattle.std.proofs.Common.{◌≡◌, ◌<◌, ◌^◌, ◌-◌}
use Rattle.std.specs.List.{AllByRecursion}
use Rattle.strat_words.specs.Many.{times}
use Rattle.strat_words.specs.View.{spot}
use Rattle.strat_text.specs.File as spec
use Rattle.strat_text.specs.Spelling.{line_of}
use Rattle.strat_words.proofs.Loops.{with_front}
use Rattle.strat_text.proofs.sections.sections.Given as goal

abbrev pub invariant-loop-number : goal.invariant-loop-number
invariant-loop-number l = record {
  so_far : with_front l.all (times (spec.section l.version) spec.next_number (l.count - l.number) l.number (spot l.rest)) ≡ times (spec.section l.version) spec.next_number l.count 0 (spot l.at);
  lines : AllByRecursion (λ y. line_of y < 2 ^ 63) l.all;
}
