use Rattle.std.proofs.Common.{◌≡◌, ◌≤◌, ◌+◌, ◌-◌, length}
use Rattle.strat_words.specs.Many.{many}
use Rattle.strat_words.specs.Spot.{number_behind_space}
use Rattle.strat_words.specs.View.{spot}
use Rattle.strat_words.proofs.Loops.{with_front}
use Rattle.strat_text.specs.Line as spec
use Rattle.strat_text.proofs.form.terms.Given as goal

abbrev pub invariant-loop-rest : goal.invariant-loop-rest
invariant-loop-rest l = record {
  so_far : with_front l.all.items (many number_behind_space (spec.term l.limit) spec.low_behind (length l.at.rest.now - length l.all.items) l.low (spot l.rest)) ≡ spec.terms l.limit (spot l.at);
  within : length l.rest.rest.now + length l.all.items ≤ length l.at.rest.now;
}

abbrev pub decreases-loop-rest : goal.decreases-loop-rest
decreases-loop-rest l = length l.rest.rest.now
