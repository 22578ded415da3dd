use Rattle.std.proofs.Common.{◌≡◌, ◌++◌, drop, filter}
use Rattle.lin_term.specs.Wide.{first_past}
use Rattle.dom_core.specs.Elimination.{is_free, cube_numbers}
use Rattle.dom_rat.specs.Sums.{sums_of, all_sums}
use Rattle.dom_rat.proofs.fourier_motzkin.add_all_sums.Given as goal

abbrev pub invariant-loop-lit : goal.invariant-loop-lit
invariant-loop-lit l = record {
  same : l.out ++ all_sums l.var l.cube (drop l.lit-index l.cube) ≡ l.fn.out ++ all_sums l.var l.cube l.cube;
  past : first_past (cube_numbers (all_sums l.var l.cube (drop l.lit-index l.cube))) ≡ first_past (cube_numbers (all_sums l.var l.cube l.cube));
}
