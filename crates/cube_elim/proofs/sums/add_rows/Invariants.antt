use Rattle.cube_elim.specs.Stored.{IsKept}
use Rattle.cube_elim.proofs.Adding.{RowsAt}
use Rattle.cube_elim.proofs.sums.add_rows.Given as goal

abbrev pub invariant-loop-lower : goal.invariant-loop-lower
invariant-loop-lower l = record {
  sums : RowsAt l.var l.fn.store.lits l.store.lits l.lowers l.uppers l.lower-index;
  kept : IsKept l.fn.store l.store;
}
