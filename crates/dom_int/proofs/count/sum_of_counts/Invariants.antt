use Rattle.std.proofs.Common.{◌≡◌, ◌≤◌, drop, map, pos}
use Rattle.lin_term.specs.Form.{cap}
use Rattle.lin_term.specs.Wide.{first_past}
use Rattle.dom_core.specs.Elimination.{count_sums, last_of}
use Rattle.dom_int.proofs.count.sum_of_counts.Given as goal

abbrev pub invariant-loop-lit : goal.invariant-loop-lit
invariant-loop-lit l = record {
  kept : l.total ≤ cap;
  past : first_past (map pos (count_sums l.var l.n l.total (drop l.lit-index l.cube))) ≡ first_past (map pos (count_sums l.var l.n 0 l.cube));
  last : last_of l.total (count_sums l.var l.n l.total (drop l.lit-index l.cube)) ≡ last_of 0 (count_sums l.var l.n 0 l.cube);
}
