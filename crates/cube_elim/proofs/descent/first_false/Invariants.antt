use Rattle.std.specs.List.{AllByRecursion}
use Rattle.std.proofs.Common.{◌≡◌, false, take}
use Rattle.lin_term.specs.Truth.{truth_of}
use Rattle.cube_rules.specs.Lines.{is_false}
use Rattle.cube_elim.specs.Stored.{lits_of}
use Rattle.cube_elim.proofs.descent.first_false.Given as goal

abbrev pub invariant-loop-id : goal.invariant-loop-id
invariant-loop-id l = AllByRecursion (λ m. is_false (truth_of m) ≡ false) (lits_of l.lits (take l.id-index l.ids))
