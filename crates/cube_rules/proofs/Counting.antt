-- When the cases of an elimination are as a line says.
use Rattle.std.specs.Prelude.{ℕ, ◌≡◌, ℤ, pos, Bool, true, false, ◌&&◌, nat_eq, is_none, Option, Some, List, ◌++◌, map, length}
use Rattle.std.specs.List.{flat_map}
use Rattle.std.proofs.Common.{ap, ◌∙◌, refl}
use Rattle.lin_term.specs.declared.Sort.TheVariants.{Int}
use Rattle.lin_term.specs.declared.Lit.{Lit}
use Rattle.lin_term.specs.Wide.{first_past}
use Rattle.lin_term.proofs.Capping.{past-append_some}
use Rattle.dom_core.specs.Elimination.{cooper, delta, partial_deltas, count_sums, cube_numbers, elimination_numbers}
use Rattle.cube_rules.specs.Lines.{is_least}

pub and_no : (b : Bool) → (b && false) ≡ false
and_no true = refl
and_no false = refl

-- with a number past the cap it is none
pub least_past : (c : List Lit) (v k : ℕ) (w : ℤ) → first_past (elimination_numbers Int c v) ≡ Some w → is_least v k c ≡ false
least_past c v k w h = ap (λ (o : Option ℤ). nat_eq (length (cooper c v)) k && is_none o) h ∙ and_no (nat_eq (length (cooper c v)) k)

-- also where one of the first numbers is, before any case is built
pub least_past_first : (c : List Lit) (v k : ℕ) (w : ℤ) → first_past (map pos (partial_deltas 1 c v) ++ map pos (count_sums v (delta c v) 0 c)) ≡ Some w → is_least v k c ≡ false
least_past_first c v k w h =
    least_past c v k w (past-append_some (map pos (partial_deltas 1 c v) ++ map pos (count_sums v (delta c v) 0 c)) (flat_map cube_numbers (cooper c v)) w h)
