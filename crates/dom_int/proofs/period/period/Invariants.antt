use Rattle.std.proofs.Common.{◌≡◌, ◌≤◌, drop, map, pos}
use Rattle.lin_term.specs.Form.{cap}
use Rattle.lin_term.specs.Wide.{first_past}
use Rattle.dom_core.specs.Elimination.{partial_deltas, last_of, delta}
use Rattle.dom_int.proofs.period.period.Given as goal

abbrev pub invariant-loop-lit : goal.invariant-loop-lit
invariant-loop-lit l = record {
  least : 1 ≤ l.n;
  kept : l.n ≤ cap;
  past : first_past (map pos (partial_deltas l.n (drop l.lit-index l.cube) l.var)) ≡ first_past (map pos (partial_deltas 1 l.cube l.var));
  last : last_of l.n (partial_deltas l.n (drop l.lit-index l.cube) l.var) ≡ delta l.cube l.var;
}
