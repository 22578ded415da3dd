use Rattle.std.proofs.Common.{◌≡◌, ◌++◌, drop}
use Rattle.std.specs.List.{flat_map}
use Rattle.lin_term.specs.declared.Sort.TheVariants.{Int}
use Rattle.lin_term.specs.Wide.{first_past}
use Rattle.dom_core.specs.Elimination.{cooper, cube_numbers, elimination_numbers}
use Rattle.dom_int.proofs.elimination.Elimination.all_built.Given as goal

abbrev pub invariant-loop-index : goal.invariant-loop-index
invariant-loop-index l = record {
  same : l.cubes ++ drop l.index (cooper l.self.cube l.self.variable) ≡ cooper l.self.cube l.self.variable;
  past : first_past (flat_map cube_numbers (drop l.index (cooper l.self.cube l.self.variable))) ≡ first_past (elimination_numbers Int l.self.cube l.self.variable);
}
