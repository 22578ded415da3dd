use Rattle.std.proofs.Common.{◌≡◌, ◌≤◌, ◌*◌, ◌^◌, drop}
use Rattle.proof_idle.specs.Walk.{run, begin, standing}
use Rattle.proof_idle.proofs.walk.first_idle.Given as goal

abbrev pub invariant-loop-i : goal.invariant-loop-i
invariant-loop-i l = record {
  walk : run l.i (drop l.i l.proof) (standing l.walk.used.items l.walk.around.items l.walk.least l.walk.skip) ≡ run 0 l.proof begin;
  skip : l.walk.skip ≤ l.i * 2 ^ 64;
}
