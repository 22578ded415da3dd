use Rattle.std.proofs.Common.{◌≡◌, ◌≤◌, ◌^◌, drop, nat_abs}
use Rattle.lin_term.specs.Form.{cap}
use Rattle.cube_elim.specs.Between.{highest, first_seen}
use Rattle.cube_elim.specs.Stored.{lits_of}
use Rattle.cube_elim.proofs.value.greatest_bound.Given as goal

abbrev pub invariant-loop-id : goal.invariant-loop-id
invariant-loop-id l = record {
  value : highest l.var l.trial l.best (lits_of l.lits (drop l.id-index l.ids)) ≡ highest l.var l.trial (first_seen l.var l.trial (lits_of l.lits l.ids)) (lits_of l.lits l.ids);
  size : nat_abs l.best.num ≤ 2 ^ 125;
  least : 1 ≤ l.best.div;
  kept : l.best.div ≤ cap;
}
