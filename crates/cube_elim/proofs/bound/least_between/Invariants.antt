use Rattle.std.specs.Prelude.{None, IfSome}
use Rattle.std.proofs.Common.{◌≡◌, ◌≤◌, ◌^◌, drop, nat_abs}
use Rattle.cube_elim.specs.Between.{from_below}
use Rattle.cube_elim.specs.Stored.{lits_of}
use Rattle.cube_elim.proofs.bound.least_between.Given as goal

abbrev pub invariant-loop-id : goal.invariant-loop-id
invariant-loop-id l = record {
  value : from_below l.var l.trial l.best (lits_of l.lits (drop l.id-index l.ids)) ≡ from_below l.var l.trial None (lits_of l.lits l.ids);
  kept : IfSome l.best (λ w. nat_abs w ≤ 2 ^ 126);
}
