use Rattle.std.specs.List.{flat_map}
use Rattle.std.proofs.Common.{◌≡◌, drop}
use Rattle.lin_term.specs.declared.Sort.TheVariants.{Int}
use Rattle.lin_term.specs.Wide.{first_past}
use Rattle.dom_core.specs.Elimination.{cooper, cube_numbers, elimination_numbers}
use Rattle.cube_rules.specs.declared.Step.TheVariants.{Least}
use Rattle.cube_elim.proofs.Closings.{Refuting}
use Rattle.cube_elim.proofs.cases.+search.Given as goal

abbrev pub decreases-search : goal.decreases-search
decreases-search l = l.n

abbrev pub invariant-loop-index : goal.invariant-loop-index
invariant-loop-index l = record {
  refuting : Refuting l.var (Least l.var l.count) (cooper l.cube l.var) l.index l.fn.steps l.steps;
  past : first_past (flat_map cube_numbers (drop l.index (cooper l.cube l.var))) ≡ first_past (elimination_numbers Int l.cube l.var);
}
