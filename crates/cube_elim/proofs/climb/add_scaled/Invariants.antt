use Rattle.std.proofs.Common.{◌≡◌, ◌++◌, ◌*ℤ◌, pos, drop, map}
use Rattle.lin_term.specs.Wide.{first_past}
use Rattle.cube_elim.proofs.climb.add_scaled.Given as goal

abbrev pub invariant-loop-num : goal.invariant-loop-num
invariant-loop-num l = record {
  same : l.out ++ map (λ z. z *ℤ pos l.factor) (drop l.num-index l.nums) ≡ l.fn.out ++ map (λ z. z *ℤ pos l.factor) l.nums;
  past : first_past (map (λ z. z *ℤ pos l.factor) (drop l.num-index l.nums)) ≡ first_past (map (λ z. z *ℤ pos l.factor) l.nums);
}
