use Rattle.std.proofs.Common.{◌≡◌, ◌++◌, drop, filter}
use Rattle.lin_term.specs.Wide.{first_past}
use Rattle.dom_core.specs.Elimination.{is_free, cube_numbers}
use Rattle.dom_rat.specs.Sums.{sums_of, all_sums}
use Rattle.dom_rat.proofs.fourier_motzkin.add_sums.Given as goal

abbrev pub invariant-loop-lit : goal.invariant-loop-lit
invariant-loop-lit l = record {
  same : l.out ++ sums_of l.var l.lower (drop l.lit-index l.cube) ≡ l.fn.out ++ sums_of l.var l.lower l.cube;
  past : first_past (cube_numbers (sums_of l.var l.lower (drop l.lit-index l.cube))) ≡ first_past (cube_numbers (sums_of l.var l.lower l.cube));
}
