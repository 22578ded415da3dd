use Rattle.std.proofs.Common.{◌≡◌, reverse, length}
use Rattle.proof_idle.specs.Walk.{closed}
use Rattle.proof_idle.proofs.walk.close.Given as goal

abbrev pub invariant-loop-around : goal.invariant-loop-around
invariant-loop-around l = record {
  walk : closed (reverse l.walk.around.items) l.walk.used.items l.walk.least ≡ closed (reverse l.fn.walk.around.items) l.fn.walk.used.items l.fn.walk.least;
  skip : l.walk.skip ≡ 0;
}

abbrev pub decreases-loop-around : goal.decreases-loop-around
decreases-loop-around l = length l.walk.around.items
