use Rattle.std.proofs.Common.{◌≡◌, ◌≤◌, ◌+◌, ◌-◌, length}
use Rattle.strat_words.specs.Many.{many}
use Rattle.strat_words.specs.Spot.{begins_with_space}
use Rattle.strat_words.specs.View.{spot}
use Rattle.strat_text.specs.Line as spec
use Rattle.strat_words.proofs.Loops.{with_front}
use Rattle.strat_text.proofs.line.literals.Given as goal

abbrev pub invariant-loop-alloc : goal.invariant-loop-alloc
invariant-loop-alloc l = record {
  so_far : with_front l.all (many begins_with_space spec.any_literal spec.unchanged (length l.at.rest.now - length l.all) tt (spot l.rest)) ≡ spec.literals (spot l.at);
  within : length l.rest.rest.now + length l.all ≤ length l.at.rest.now;
}

abbrev pub decreases-loop-alloc : goal.decreases-loop-alloc
decreases-loop-alloc l = length l.rest.rest.now
