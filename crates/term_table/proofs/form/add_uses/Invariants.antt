use Rattle.std.proofs.Common.{◌≤◌, ℕ, List, length}
use Rattle.term_table.specs.Scale.{Scale}
use Rattle.term_table.proofs.FormLemmas.{Owes}
use Rattle.term_table.proofs.form.add_uses.Given as goal

abbrev pub invariant-loop-i : goal.invariant-loop-i
invariant-loop-i l = (l.i ≤ length l.uses.items) × ((s : Scale) (gs : List ℕ) → Owes s gs l.weight l.fn.uses.items l.uses.items l.part l.i)
