-- Sums of inequalities in primitive form.
use Rattle.std.specs.Prelude.{ℕ, ◌+◌, ◌≤◌, ◌≡◌, ◌≢◌, ◌^◌, ℤ, ◌+ℤ◌, ◌*ℤ◌, Bool, true, false, ◌||◌, Some, Result, Ok, Err, IfOk, List, [], ◌∷◌, eqb}
use Rattle.std.proofs.Common.{arith, refl, subst, sym, ap, ap₂, ◌∙◌}
use Rattle.std.proofs.lemmas.Bool.{cond-false, ne_eqb}
use Rattle.lin_term.specs.Form.{AreTerms}
use Rattle.lin_term.specs.Linear.{Sort, Rat, Int, Form, plus, times, plus_terms, times_terms}
use Rattle.lin_term.specs.Literal.{Lit, AtLeast, Above, Divides, NotDivides, form_of, prim, divisor, IsPrimitive}
use Rattle.lin_term.specs.PutIn.{without}
use Rattle.lin_term.specs.Sum.{IsInequality, is_strict, inequality_with, MayBe, Combined, combine_fault}
use Rattle.lin_term.specs.Wide.{Capped, form_numbers, lit_numbers, first_past}
use Rattle.lin_term.specs.Settle.{sum_form, settled}
use Rattle.lin_term.proofs.Lowest.{prim_again}
use Rattle.lin_term.specs.declared.fault.Short.{Short}
use Rattle.lin_term.specs.declared.fault.Short.TheVariants as short
use Rattle.lin_term.specs.declared.fault.Wide.{Wide}
use Rattle.lin_term.specs.declared.combining.CombineFault.TheVariants as fault

pub may_be : (s : Sort) (l : Lit) → IsPrimitive s l → MayBe s (is_strict l)
may_be Rat l p = tt
may_be Int (AtLeast f) p = tt
may_be Int (Above f) p = absurd p.0
may_be Int (Divides d f) p = tt
may_be Int (NotDivides d f) p = tt

pub may_either : (s : Sort) (a b : Bool) → MayBe s a → MayBe s b → MayBe s (a || b)
may_either Rat a b p q = tt
may_either Int true b p q = absurd p
may_either Int false b p q = q

pub prim_inequality : (s : Sort) (b : Bool) (f : Form) → MayBe s b → prim s (inequality_with b f) ≡ inequality_with b (settled s f)
prim_inequality Rat true f m = refl
prim_inequality Rat false f m = refl
prim_inequality Int true f m = absurd m
prim_inequality Int false f m = refl

pub inequality_numbers : (b : Bool) (f : Form) → lit_numbers (inequality_with b f) ≡ form_numbers f
inequality_numbers true f = refl
inequality_numbers false f = refl

pub inequality_form : (b : Bool) (f : Form) → form_of (inequality_with b f) ≡ f
inequality_form true f = refl
inequality_form false f = refl

-- a variable that is not there is not left out
pub without_none : (n : ℕ) (ts : List (ℕ × ℤ)) (x : ℕ) → 2 ^ 20 ≤ x → AreTerms n ts → without ts x ≡ ts
without_none n [] x h a = refl
without_none n (t ∷ ts) x h a =
    cond-false (eqb t.0 x) (without ts x) (t ∷ without ts x) (ne_eqb t.0 x (λ e. absurd (omega (arith, a.1))))
    ∙ ap (λ (us : List (ℕ × ℤ)). t ∷ us) (without_none (t.0 + 1) ts x h a.4)

pub sum_form_all : (p : ℤ) (f : Form) (q : ℤ) (g : Form) (x : ℕ) (c : ℤ) → 2 ^ 20 ≤ x → AreTerms 0 g.terms → c ≡ p *ℤ f.constant +ℤ q *ℤ g.constant → sum_form p f.terms q g.terms x c ≡ plus (times p f) (times q g)
sum_form_all p f q g x c h a e =
    ap₂ (λ (ts : List (ℕ × ℤ)) (z : ℤ). sum_of_terms ts z) (without_none 0 g.terms x h a) e
  where
    sum_of_terms : List (ℕ × ℤ) → ℤ → Form
    sum_of_terms ts z = record { terms = plus_terms (times_terms p f.terms) (times_terms q ts); constant = z }

-- what is proved of the row, said of the literal
pub combined_ok : (s : Sort) (b : Bool) (f : Form) (g : ℕ) (r : Form) → MayBe s b → g ≡ divisor s f → Capped {A = Form} (form_numbers (settled s f)) (settled s f) (Ok r) → Combined s (inequality_with b f) g (Ok (inequality_with b r))
combined_ok s b f g r m e h = (
  e ∙ ap (divisor s) (sym (inequality_form b f)),
  ap (λ (l : Lit). first_past (lit_numbers l)) (prim_inequality s b f m) ∙ ap first_past (inequality_numbers b (settled s f)) ∙ h.0,
  ap (inequality_with b) h.1 ∙ sym (prim_inequality s b f m),
)

pub combined_wide : (s : Sort) (b : Bool) (f : Form) (g : ℕ) (n : ℤ) → MayBe s b → g ≡ divisor s f → first_past (form_numbers (settled s f)) ≡ Some n → Combined s (inequality_with b f) g (Err (fault.Wide n))
combined_wide s b f g n m e h = (
  e ∙ ap (divisor s) (sym (inequality_form b f)),
  ap (λ (l : Lit). first_past (lit_numbers l)) (prim_inequality s b f m) ∙ ap first_past (inequality_numbers b (settled s f)) ∙ h,
)

pub combined_divisor : (s : Sort) (b : Bool) (f : Form) (g : ℕ) → g ≢ divisor s f → Combined s (inequality_with b f) g (Err fault.Divisor)
combined_divisor s b f g h = λ e. h (e ∙ ap (divisor s) (inequality_form b f))

pub combined_err : (s : Sort) (b : Bool) (f : Form) (g : ℕ) (e : Short Wide) → MayBe s b → g ≡ divisor s f → Capped {A = Form} (form_numbers (settled s f)) (settled s f) (Err e) → Combined s (inequality_with b f) g (Err (combine_fault e))
combined_err s b f g (short.Fault w) m e h = combined_wide s b f g w.number m e h
combined_err s b f g short.Memory m e h = tt

pub sum_form_as : (p : ℤ) (a : Lit) (q : ℤ) (b : Lit) (x : ℕ) (ls rs : List (ℕ × ℤ)) (c : ℤ) → 2 ^ 20 ≤ x → ls ≡ (form_of a).terms → rs ≡ (form_of b).terms → AreTerms 0 rs → c ≡ p *ℤ (form_of a).constant +ℤ q *ℤ (form_of b).constant → sum_form p ls q rs x c ≡ plus (times p (form_of a)) (times q (form_of b))
sum_form_as p a q b x ls rs c h e f r k =
    ap₂ (λ (l m : List (ℕ × ℤ)). sum_form p l q m x c) e f
    ∙ sum_form_all p (form_of a) q (form_of b) x c h (subst (λ (ts : List (ℕ × ℤ)). AreTerms 0 ts) f r) k

-- the primitive form of row >= 0 is a primitive inequality
pub made_primitive : (s : Sort) (f : Form) → IsPrimitive s (prim s (AtLeast f))
made_primitive Rat f = (tt, prim_again Rat (AtLeast f))
made_primitive Int f = (tt, prim_again Int (AtLeast f))

pub made_inequality : (s : Sort) (f : Form) → IsInequality (prim s (AtLeast f))
made_inequality Rat f = tt
made_inequality Int f = tt

pub made_answer : (s : Sort) (f : Form) (r : Result Lit (Short Wide)) → Capped (lit_numbers (prim s (AtLeast f))) (prim s (AtLeast f)) r → IfOk r (λ l. IsPrimitive s l)
made_answer s f (Ok l) h = subst (λ (m : Lit). IsPrimitive s m) (sym h.1) (made_primitive s f)
made_answer s f (Err e) h = tt
