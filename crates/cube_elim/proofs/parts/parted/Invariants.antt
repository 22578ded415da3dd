use Rattle.std.proofs.Common.{◌≡◌, ◌++◌, drop, filter, length}
use Rattle.dom_core.specs.Elimination.{is_free, is_lower, is_upper}
use Rattle.cube_elim.specs.Stored.{lits_of, AreIn}
use Rattle.cube_elim.proofs.parts.parted.Given as goal

abbrev pub invariant-loop-id : goal.invariant-loop-id
invariant-loop-id l = record {
  free : lits_of l.lits l.parts.free ++ filter (is_free l.var) (lits_of l.lits (drop l.id-index l.ids)) ≡ filter (is_free l.var) (lits_of l.lits l.ids);
  lower : lits_of l.lits l.parts.lower ++ filter (is_lower l.var) (lits_of l.lits (drop l.id-index l.ids)) ≡ filter (is_lower l.var) (lits_of l.lits l.ids);
  upper : lits_of l.lits l.parts.upper ++ filter (is_upper l.var) (lits_of l.lits (drop l.id-index l.ids)) ≡ filter (is_upper l.var) (lits_of l.lits l.ids);
  free_in : AreIn (length l.lits) l.parts.free;
  lower_in : AreIn (length l.lits) l.parts.lower;
  upper_in : AreIn (length l.lits) l.parts.upper;
}
