use Rattle.std.proofs.Common.{◌≡◌, ◌++◌, drop}
use Rattle.lin_term.specs.Wide.{first_past}
use Rattle.dom_core.specs.Elimination.{free_case, cube_numbers}
use Rattle.dom_int.proofs.case.free_case.Given as goal

abbrev pub invariant-loop-lit : goal.invariant-loop-lit
invariant-loop-lit l = record {
  same : l.lits ++ free_case l.var (drop l.lit-index l.cube) l.k ≡ free_case l.var l.cube l.k;
  past : first_past (cube_numbers (free_case l.var (drop l.lit-index l.cube) l.k)) ≡ first_past (cube_numbers (free_case l.var l.cube l.k));
}
