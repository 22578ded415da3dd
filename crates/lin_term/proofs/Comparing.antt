-- Rows, literals and moves compared number by number are the same exactly where they are equal.
use Rattle.std.specs.Prelude.{ℕ, ◌≡◌, ℤ, ◌&&◌, nat_eq, List, [], ◌∷◌, Decides}
use Rattle.std.specs.Ordering.{int_eq}
use Rattle.std.proofs.Common.{ap, ap₂, refl}
use Rattle.std.proofs.lemmas.Bool.Decides.{Decides-and, Decides-like, Decides-eqb, Decides-int_eq}
use Rattle.lin_term.specs.declared.lit.Lit.{Lit}
use Rattle.lin_term.specs.declared.lit.Lit.TheVariants.{AtLeast, Above, Divides, NotDivides}
use Rattle.lin_term.specs.Form.{Form}
use Rattle.lin_term.specs.Literal.{form_of}
use Rattle.lin_term.specs.Move.{Move}
use Rattle.lin_term.specs.Same.{same_terms, same_form, same_literal, same_move}

-- two lists of terms are the same where each number is
pub terms_decide : (ts us : List (ℕ × ℤ)) → Decides (same_terms ts us) (ts ≡ us)
terms_decide [] [] = (λ e. refl, λ e. refl)
terms_decide [] (u ∷ us) = (λ e. absurd (cc), λ e. absurd (cc))
terms_decide (t ∷ ts) [] = (λ e. absurd (cc), λ e. absurd (cc))
terms_decide (t ∷ ts) (u ∷ us) =
    Decides-like (same_terms (t ∷ ts) (u ∷ us))
    (λ h. ap₂ (λ (x : ℕ × ℤ) (xs : List (ℕ × ℤ)). x ∷ xs) (ap₂ (λ (i : ℕ) (z : ℤ). let x : ℕ × ℤ = (i, z) in x) h.0.0 h.0.1) h.1)
    (λ e. let first : t ≡ u = cc in let rest : ts ≡ us = cc in ((ap (λ (x : ℕ × ℤ). x.0) first, ap (λ (x : ℕ × ℤ). x.1) first), rest))
    (Decides-and (nat_eq t.0 u.0 && int_eq t.1 u.1) (same_terms ts us) (Decides-and (nat_eq t.0 u.0) (int_eq t.1 u.1) (Decides-eqb t.0 u.0) (Decides-int_eq t.1 u.1)) (terms_decide ts us))

pub form_decides : (f g : Form) → Decides (same_form f g) (f ≡ g)
form_decides f g =
    Decides-like (same_form f g)
    (λ h. ap₂ (λ (ts : List (ℕ × ℤ)) (c : ℤ). let x : Form = record { terms = ts; constant = c } in x) h.0 h.1)
    (λ e. (ap (λ (x : Form). x.terms) e, ap (λ (x : Form). x.constant) e))
    (Decides-and (same_terms f.terms g.terms) (int_eq f.constant g.constant) (terms_decide f.terms g.terms) (Decides-int_eq f.constant g.constant))

abbrev modulus_of : Lit → ℕ
modulus_of (AtLeast f) = 0
modulus_of (Above f) = 0
modulus_of (Divides d f) = d
modulus_of (NotDivides d f) = d

at_least_decides : (f g : Form) → Decides (same_form f g) (AtLeast f ≡ AtLeast g)
at_least_decides f g = Decides-like (same_form f g) (λ h. ap AtLeast h) (λ e. ap form_of e) (form_decides f g)

above_decides : (f g : Form) → Decides (same_form f g) (Above f ≡ Above g)
above_decides f g = Decides-like (same_form f g) (λ h. ap Above h) (λ e. ap form_of e) (form_decides f g)

modulus_decides : (d e : ℕ) (f g : Form) → Decides (nat_eq d e && same_form f g) ((d ≡ e) × (f ≡ g))
modulus_decides d e f g = Decides-and (nat_eq d e) (same_form f g) (Decides-eqb d e) (form_decides f g)

divides_decides : (d e : ℕ) (f g : Form) → Decides (nat_eq d e && same_form f g) (Divides d f ≡ Divides e g)
divides_decides d e f g = Decides-like (nat_eq d e && same_form f g) (λ h. ap₂ Divides h.0 h.1) (λ k. (ap modulus_of k, ap form_of k)) (modulus_decides d e f g)

not_divides_decides : (d e : ℕ) (f g : Form) → Decides (nat_eq d e && same_form f g) (NotDivides d f ≡ NotDivides e g)
not_divides_decides d e f g = Decides-like (nat_eq d e && same_form f g) (λ h. ap₂ NotDivides h.0 h.1) (λ k. (ap modulus_of k, ap form_of k)) (modulus_decides d e f g)

-- literals are the same exactly where they are equal as written
pub literal_decides : (l k : Lit) → Decides (same_literal l k) (l ≡ k)
literal_decides (AtLeast f) (AtLeast g) = at_least_decides f g
literal_decides (AtLeast f) (Above g) = (λ e. absurd (cc), λ e. absurd (cc))
literal_decides (AtLeast f) (Divides e g) = (λ e. absurd (cc), λ e. absurd (cc))
literal_decides (AtLeast f) (NotDivides e g) = (λ e. absurd (cc), λ e. absurd (cc))
literal_decides (Above f) (AtLeast g) = (λ e. absurd (cc), λ e. absurd (cc))
literal_decides (Above f) (Above g) = above_decides f g
literal_decides (Above f) (Divides e g) = (λ e. absurd (cc), λ e. absurd (cc))
literal_decides (Above f) (NotDivides e g) = (λ e. absurd (cc), λ e. absurd (cc))
literal_decides (Divides d f) (AtLeast g) = (λ e. absurd (cc), λ e. absurd (cc))
literal_decides (Divides d f) (Above g) = (λ e. absurd (cc), λ e. absurd (cc))
literal_decides (Divides d f) (Divides e g) = divides_decides d e f g
literal_decides (Divides d f) (NotDivides e g) = (λ e. absurd (cc), λ e. absurd (cc))
literal_decides (NotDivides d f) (AtLeast g) = (λ e. absurd (cc), λ e. absurd (cc))
literal_decides (NotDivides d f) (Above g) = (λ e. absurd (cc), λ e. absurd (cc))
literal_decides (NotDivides d f) (Divides e g) = (λ e. absurd (cc), λ e. absurd (cc))
literal_decides (NotDivides d f) (NotDivides e g) = not_divides_decides d e f g

pub move_decides : (m n : Move) → Decides (same_move m n) (m ≡ n)
move_decides m n =
    Decides-like (same_move m n)
    (λ h. ap₂ (λ (f : Form) (d : ℕ). let x : Move = record { numer = f; div = d } in x) h.0 h.1)
    (λ e. (ap (λ (x : Move). x.numer) e, ap (λ (x : Move). x.div) e))
    (Decides-and (same_form m.numer n.numer) (nat_eq m.div n.div) (form_decides m.numer n.numer) (Decides-eqb m.div n.div))
