use Rattle.std.proofs.Common.{◌≡◌, ◌≤◌, ◌+◌, ◌-◌, ◌*◌, ◌^◌}
use Rattle.strat_words.specs.Many.{times, state_behind}
use Rattle.strat_words.specs.View.{spot}
use Rattle.strat_text.specs.Proof as spec
use Rattle.strat_words.proofs.Loops.{with_front}
use Rattle.strat_text.proofs.proof.lines.Given as goal

abbrev pub invariant-loop : goal.invariant-loop
invariant-loop l = record {
  so_far : with_front l.all (times (spec.proof_line l.version) spec.open_behind (l.count - l.counter) l.waiting (spot l.rest)) ≡ times (spec.proof_line l.version) spec.open_behind l.count 1 (spot l.at);
  state : l.waiting ≡ state_behind spec.open_behind 1 l.all;
  within : l.waiting ≤ 1 + l.counter * 2 ^ 64;
}
