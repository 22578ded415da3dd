-- Moves whose numbers need not be within the cap, brought to lowest form.
use Rattle.std.specs.Prelude.{ℕ, zero, suc, ◌*◌, ◌/◌, ◌≤◌, ◌≡◌, ◌^◌, ℤ, pos, ◌+ℤ◌, ◌*ℤ◌, ◌≤ℤ◌, nat_abs, false, true, None, Some, Err, List, [], ◌∷◌, ◌++◌}
use Rattle.std.proofs.Common.{arith, ap, ap₂, ◌∙◌, sym, subst, refl}
use Rattle.lin_term.specs.Form.{Form, AreTerms}
use Rattle.lin_term.specs.Linear.{Sort, Rat, Int, floor_div}
use Rattle.lin_term.specs.Literal.{gcd, gcd_terms, quotient, quotient_terms}
use Rattle.lin_term.specs.Move.{Move, move_divisor, lowest, IsLowest}
use Rattle.lin_term.specs.Definition.{move_numbers, upper_literal, lower_literal, spare_node}
use Rattle.lin_term.specs.Blend.{sum_terms}
use Rattle.lin_term.specs.Items.{CappedTerms}
use Rattle.lin_term.specs.Settle.{sum_form}
use Rattle.lin_term.specs.Wide.{Capped, coefficients, first_past, form_numbers, lit_numbers, fits}
use Rattle.lin_term.specs.WideMove.{wide_form, wide_start}
use Rattle.lin_term.specs.declared.fault.Short.{Short}
use Rattle.lin_term.specs.declared.fault.Short.TheVariants as short
use Rattle.lin_term.specs.declared.fault.Wide.{Wide}
use Rattle.lin_term.proofs.Ascending.{Ascend, are_from, quotient_ascend}
use Rattle.lin_term.proofs.Capping.{past-within, past-past, past-append_some, within_from, past_from}
use Rattle.lin_term.proofs.Fractions.{floor_whole}
use Rattle.lin_term.proofs.Lowering.{move_with, divisor_pos, divisor_of_div, divisor_of_terms, divisor_in_rat, divisor_in_int, lowest_again}
use Rattle.lin_term.proofs.PrimitiveLemmas.{whole_div}
use Rattle.lin_term.proofs.Settling.{sum_ascend}
use Rattle.lin_term.proofs.Summing.{sum_form_all}

-- the divisor as it is worked out
pub wide_divisor_is : (s : Sort) (f : Form) (d n : ℕ) → 1 ≤ d → n ≡ gcd (wide_start s (nat_abs f.constant) d) (gcd_terms f.terms) → n ≡ move_divisor s (move_with f d)
wide_divisor_is Rat f d n o e = divisor_in_rat d (nat_abs f.constant) n f.terms o e
wide_divisor_is Int f d n o e = divisor_in_int d n f.terms o e

-- the divided terms are a row's where they fit
pub wide_are : (s : Sort) (p : ℤ) (ls : List (ℕ × ℤ)) (q : ℤ) (rs : List (ℕ × ℤ)) (x : ℕ) (c : ℤ) (d g : ℕ) → AreTerms 0 ls → AreTerms 0 rs → g ≡ move_divisor s (move_with (sum_form p ls q rs x c) d) → first_past (coefficients (quotient_terms (sum_terms p ls q rs x) g)) ≡ None → AreTerms 0 (quotient_terms (sum_terms p ls q rs x) g)
wide_are s p ls q rs x c d g a b e f =
    let m : Move = move_with (sum_form p ls q rs x c) d in
    are_from 0 _ (subst (λ (n : ℕ). Ascend 0 (quotient_terms (sum_terms p ls q rs x) n)) (sym e) (quotient_ascend 0 (sum_terms p ls q rs x) (move_divisor s m) (divisor_pos s m) (divisor_of_terms s m) (sum_ascend p ls q rs x a b))) f

-- the divisor of the lowest form
pub wide_div : (s : Sort) (f : Form) (d g n : ℤ) → pos 1 ≤ℤ d → g ≡ pos (move_divisor s (move_with f (nat_abs d))) → n ≡ floor_div d (nat_abs g) → n ≡ pos (lowest s (move_with f (nat_abs d))).div
wide_div s f d g n o e h =
    h ∙ floor_whole d (nat_abs g) o ∙ ap (λ (k : ℤ). pos (nat_abs d / nat_abs k)) e

pub wide_div_some : (s : Sort) (m : Move) → 1 ≤ m.div → 1 ≤ (lowest s m).div
wide_div_some s m o =
    some (m.div / move_divisor s m) (whole_div (move_divisor s m) m.div (divisor_pos s m) (divisor_of_div s m))
  where
    some : (q : ℕ) → move_divisor s m * q ≡ m.div → 1 ≤ q
    some zero e = absurd (omega arith)
    some (suc q) e = omega arith

pub wide_div_past : (s : Sort) (m : Move) (n : ℤ) → n ≡ pos (lowest s m).div → fits n ≡ false → first_past (move_numbers s (lowest s m)) ≡ Some n
wide_div_past s m n e h =
    past-past (pos (lowest s m).div) (form_numbers (lowest s m).numer ++ (lit_numbers (upper_literal s (lowest s m) spare_node) ++ lit_numbers (lower_literal s (lowest s m) spare_node))) (past_from (pos (lowest s m).div) (ap fits (sym e) ∙ h)) ∙ ap Some (sym e)

-- the numbers behind those of the form
abbrev rest_of_numbers : Sort → Move → List ℤ
rest_of_numbers s m = lit_numbers (upper_literal s m spare_node) ++ lit_numbers (lower_literal s m spare_node)

-- a number of the form that does not fit is named
pub wide_form_past : (s : Sort) (m : Move) (n : ℤ) (fault : Short Wide) → n ≡ pos (lowest s m).div → fits n ≡ true → Capped {A = Form} (form_numbers (lowest s m).numer) (lowest s m).numer (Err fault) → Capped {A = Move} (move_numbers s (lowest s m)) (lowest s m) (Err fault)
wide_form_past s m n (short.Fault w) e h k =
    past-within (pos (lowest s m).div) (form_numbers (lowest s m).numer ++ rest_of_numbers s (lowest s m)) (within_from (pos (lowest s m).div) (ap fits (sym e) ∙ h))
    ∙ past-append_some (form_numbers (lowest s m).numer) (rest_of_numbers s (lowest s m)) w.number k
wide_form_past s m n short.Memory e h k = tt

pub wide_terms_past : (s : Sort) (m : Move) (n : ℤ) (fault : Short Wide) → n ≡ pos (lowest s m).div → fits n ≡ true → CappedTerms (quotient_terms m.numer.terms (move_divisor s m)) (Err fault) → Capped {A = Move} (move_numbers s (lowest s m)) (lowest s m) (Err fault)
wide_terms_past s m n (short.Fault w) e h k =
    wide_form_past s m n (short.Fault w) e h (past-append_some (coefficients (quotient_terms m.numer.terms (move_divisor s m))) ((lowest s m).numer.constant ∷ []) w.number k)
wide_terms_past s m n short.Memory e h k = tt

-- the move that is made is the lowest form
pub wide_made : (s : Sort) (m : Move) (r : Form) (ts : List (ℕ × ℤ)) (c n : ℤ) (g : ℕ) (k : ℕ) → g ≡ move_divisor s m → ts ≡ quotient_terms m.numer.terms g → c ≡ floor_div m.numer.constant g → r ≡ record { terms = ts; constant = c } → n ≡ pos (lowest s m).div → k ≡ nat_abs n → move_with r k ≡ lowest s m
wide_made s m r ts c n g k e h i j l o =
    ap₂ move_with
    (j ∙ ap₂ with h i ∙ ap (quotient m.numer) e)
    (o ∙ ap nat_abs l)
  where
    with : List (ℕ × ℤ) → ℤ → Form
    with us z = record { terms = us; constant = z }

pub wide_lowest_is : (s : Sort) (m n : Move) → m ≡ lowest s n → IsLowest s m
wide_lowest_is s m n e = subst (λ (x : Move). IsLowest s x) (sym e) (lowest_again s n)

-- the sum that is worked out, with the constant that is added
pub wide_form_as : (p : ℤ) (f : Form) (q : ℤ) (g : Form) (x : ℕ) (ls rs : List (ℕ × ℤ)) (a b c k : ℤ) → 2 ^ 20 ≤ x → ls ≡ f.terms → rs ≡ g.terms → AreTerms 0 rs → a ≡ f.constant → b ≡ g.constant → k ≡ (p *ℤ a +ℤ q *ℤ b) +ℤ c → sum_form p ls q rs x k ≡ wide_form p f q g c
wide_form_as p f q g x ls rs a b c k h e i r l n o =
    ap₂ (λ (us vs : List (ℕ × ℤ)). sum_form p us q vs x k) e i
    ∙ (ap₂ with (ap (λ (y : Form). y.terms) (sum_form_all p f q g x (p *ℤ f.constant +ℤ q *ℤ g.constant) h (subst (λ (us : List (ℕ × ℤ)). AreTerms 0 us) i r) refl)) (o ∙ ap₂ (λ (y z : ℤ). (p *ℤ y +ℤ q *ℤ z) +ℤ c) l n))
  where
    with : List (ℕ × ℤ) → ℤ → Form
    with us z = record { terms = us; constant = z }
