use Rattle.cube_elim.specs.Stored.{IsKept}
use Rattle.cube_elim.proofs.Adding.{RowAt}
use Rattle.cube_elim.proofs.sums.add_row.Given as goal

abbrev pub invariant-loop-upper : goal.invariant-loop-upper
invariant-loop-upper l = record {
  sums : RowAt l.var l.fn.store.lits l.store.lits l.lower l.uppers l.upper-index;
  kept : IsKept l.fn.store l.store;
}
