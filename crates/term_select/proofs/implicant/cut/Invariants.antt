use Rattle.std.specs.Prelude.{◌≡◌, take, length}
use Rattle.term_select.proofs.implicant.cut.Given as goal

abbrev pub invariant-loop-lits : goal.invariant-loop-lits
invariant-loop-lits l = take l.left l.lits ≡ take l.left l.fn.lits

abbrev pub decreases-loop-lits : goal.decreases-loop-lits
decreases-loop-lits l = length l.lits
