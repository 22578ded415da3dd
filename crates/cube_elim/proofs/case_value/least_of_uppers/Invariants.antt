use Rattle.std.specs.Prelude.{None, IfSome}
use Rattle.std.proofs.Common.{◌≡◌, ◌≤◌, ◌^◌, drop, nat_abs}
use Rattle.lin_term.specs.Linear.{Point}
use Rattle.cube_elim.specs.Determined.{least_upper}
use Rattle.cube_elim.specs.Values.{IsTrial}
use Rattle.cube_elim.proofs.case_value.least_of_uppers.Given as goal

abbrev pub invariant-loop-lit : goal.invariant-loop-lit
invariant-loop-lit l = record {
  value : (p : Point) → IsTrial l.var p l.trial → least_upper l.var l.best (drop l.lit-index l.cube) p ≡ least_upper l.var None l.cube p;
  kept : IfSome l.best (λ w. nat_abs w ≤ 2 ^ 125);
}
