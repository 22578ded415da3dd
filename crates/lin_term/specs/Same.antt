-- Rows, literals and moves compared number by number.
use Rattle.std.specs.Prelude.{ℕ, ℤ, Bool, true, false, ◌&&◌, nat_eq, List, [], ◌∷◌}
use Rattle.std.specs.Ordering.{int_eq}
use Rattle.lin_term.specs.Form.{Form}
use Rattle.lin_term.specs.Move.{Move}
use Rattle.lin_term.specs.declared.lit.Lit.{Lit}
use Rattle.lin_term.specs.declared.lit.Lit.TheVariants.{AtLeast, Above, Divides, NotDivides}

abbrev pub same_terms : List (ℕ × ℤ) → List (ℕ × ℤ) → Bool
same_terms [] [] = true
same_terms [] (u ∷ us) = false
same_terms (t ∷ ts) [] = false
same_terms (t ∷ ts) (u ∷ us) = nat_eq t.0 u.0 && int_eq t.1 u.1 && same_terms ts us

abbrev pub same_form : Form → Form → Bool
same_form f g = same_terms f.terms g.terms && int_eq f.constant g.constant

abbrev pub same_literal : Lit → Lit → Bool
same_literal (AtLeast f) (AtLeast g) = same_form f g
same_literal (AtLeast f) (Above g) = false
same_literal (AtLeast f) (Divides e g) = false
same_literal (AtLeast f) (NotDivides e g) = false
same_literal (Above f) (AtLeast g) = false
same_literal (Above f) (Above g) = same_form f g
same_literal (Above f) (Divides e g) = false
same_literal (Above f) (NotDivides e g) = false
same_literal (Divides d f) (AtLeast g) = false
same_literal (Divides d f) (Above g) = false
same_literal (Divides d f) (Divides e g) = nat_eq d e && same_form f g
same_literal (Divides d f) (NotDivides e g) = false
same_literal (NotDivides d f) (AtLeast g) = false
same_literal (NotDivides d f) (Above g) = false
same_literal (NotDivides d f) (Divides e g) = false
same_literal (NotDivides d f) (NotDivides e g) = nat_eq d e && same_form f g

abbrev pub same_move : Move → Move → Bool
same_move m n = same_form m.numer n.numer && nat_eq m.div n.div
