-- A term over a divisor put into a literal.
use Rattle.std.specs.Prelude.{ℕ, zero, suc, ◌+◌, ◌*◌, ◌≤◌, ◌≡◌, ◌≢◌, ℤ, pos, negsuc, ◌+ℤ◌, ◌*ℤ◌, ◌≤ℤ◌, nat_abs, Bool, true, false, cond, eqb, None, List, [], ◌∷◌, ◌-ℤ◌, neg_ℤ}
use Rattle.std.proofs.Common.{arith, ap, ap₂, ◌∙◌, sym, refl, eqb-true}
use Rattle.std.proofs.lemmas.Int.{ints}
use Rattle.lin_term.specs.Form.{Form, AreTerms, IsRow, cap}
use Rattle.lin_term.specs.Linear.{Sort, Rat, Int, plus_terms}
use Rattle.lin_term.specs.Move.{Move}
use Rattle.lin_term.specs.Literal.{Lit, AtLeast, Above, Divides, NotDivides, form_of, IsOf, prim, modulus_of, residue_form}
use Rattle.lin_term.specs.Primable.{IsPrimable}
use Rattle.lin_term.specs.PutIn.{coef, put_form, put_raw, occurs, put_lit, substituted}
use Rattle.lin_term.specs.PutWith.{put_with}
use Rattle.lin_term.specs.Settle.{sum_form, settled}
use Rattle.lin_term.specs.Wide.{first_past, lit_numbers, form_numbers}
use Rattle.lin_term.proofs.Capping.{row_fits, past-within}
use Rattle.lin_term.proofs.Coefficients.{coef_past}
use Rattle.lin_term.proofs.Dividing.{abs_product}
use Rattle.lin_term.proofs.Residues.{with_constant}
use Rattle.lin_term.proofs.Negating.{plus_none}

pub with_is : (f : Form) (x : ℕ) (c a : ℤ) (ts rs : List (ℕ × ℤ)) (z k : ℤ) → rs ≡ f.terms → k ≡ c *ℤ z +ℤ a *ℤ f.constant → sum_form c ts a rs x k ≡ put_with f x c a (with_constant ts z)
with_is f x c a ts rs z k e h = ap₂ (λ (us : List (ℕ × ℤ)) (y : ℤ). sum_form c ts a us x y) e h

pub whole_abs : (a : ℤ) → pos 1 ≤ℤ a → a ≡ pos (nat_abs a)
whole_abs (pos n) h = refl
whole_abs (negsuc n) h = absurd (omega (arith, ints))

pub modulus_is : (a : ℤ) (d : ℕ) → pos 1 ≤ℤ a → nat_abs (a *ℤ pos d) ≡ nat_abs a * d
modulus_is (pos n) d h = abs_product n (pos d)
modulus_is (negsuc n) d h = absurd (omega (arith, ints))

pub modulus_least : (a : ℤ) (d : ℕ) → pos 1 ≤ℤ a → 1 ≤ d → pos 1 ≤ℤ (a *ℤ pos d)
modulus_least (pos zero) d h o = absurd (omega (arith, ints))
modulus_least (pos (suc n)) zero h o = absurd (omega arith)
modulus_least (pos (suc n)) (suc d) h o = omega (arith, ints)
modulus_least (negsuc n) d h o = absurd (omega (arith, ints))

pub with_coef : (f : Form) (x : ℕ) (c a : ℤ) (t : Form) → c ≡ coef f.terms x → pos 1 ≤ℤ a → put_with f x c a t ≡ put_form f x (nat_abs a) t
with_coef f x c a t e o = ap₂ (λ (y z : ℤ). put_with f x y z t) e (whole_abs a o)

-- a row's variable occurs exactly where its coefficient is not 0
pub absent : (n : ℕ) (ts : List (ℕ × ℤ)) (x : ℕ) → AreTerms n ts → coef ts x ≡ pos 0 → occurs ts x ≡ false
absent n [] x a e = refl
absent n (t ∷ ts) x a e = by (eqb t.0 x) refl e (λ h. absent (t.0 + 1) ts x a.4 h)
  where
    by : (b : Bool) → eqb t.0 x ≡ b → cond b (t.1 +ℤ coef ts x) (coef ts x) ≡ pos 0 → (coef ts x ≡ pos 0 → occurs ts x ≡ false) → cond b true (occurs ts x) ≡ false
    by true q e k =
        let z = coef_past (t.0 + 1) ts x (let s = eqb-true t.0 x q in omega arith) a.4 in
        absurd (a.2 (let u : t.1 ≡ pos 0 = omega (arith, ints) in u))
    by false q e k = k e

pub present : (ts : List (ℕ × ℤ)) (x : ℕ) → coef ts x ≢ pos 0 → occurs ts x ≡ true
present [] x n = absurd (n refl)
present (t ∷ ts) x n = by (eqb t.0 x) n (λ h. present ts x h)
  where
    by : (b : Bool) → cond b (t.1 +ℤ coef ts x) (coef ts x) ≢ pos 0 → (coef ts x ≢ pos 0 → occurs ts x ≡ true) → cond b true (occurs ts x) ≡ true
    by true n k = refl
    by false n k = k n

pub put_absent : (s : Sort) (x a : ℕ) (t : Form) (l : Lit) → occurs (form_of l).terms x ≡ false → put_lit s x a t l ≡ l
put_absent s x a t l e = ap (λ (b : Bool). cond b (prim s (put_raw x a t l)) l) e

pub put_present : (s : Sort) (x a : ℕ) (t : Form) (l : Lit) → occurs (form_of l).terms x ≡ true → put_lit s x a t l ≡ prim s (put_raw x a t l)
put_present s x a t l e = ap (λ (b : Bool). cond b (prim s (put_raw x a t l)) l) e

-- a literal's own numbers fit
pub lit_fits : (s : Sort) (l : Lit) → IsRow (form_of l) → IsPrimable s l → first_past (lit_numbers l) ≡ None
lit_fits s (AtLeast f) r p = row_fits f r
lit_fits s (Above f) r p = row_fits f r
lit_fits Rat (Divides d f) r p = absurd p
lit_fits Rat (NotDivides d f) r p = absurd p
lit_fits Int (Divides d f) r p = past-within (pos d) (form_numbers f) p.1 ∙ row_fits f r
lit_fits Int (NotDivides d f) r p = past-within (pos d) (form_numbers f) p.1 ∙ row_fits f r

-- the literals of a sort, in primitive form
pub prim_least : (s : Sort) (f : Form) → prim s (AtLeast f) ≡ AtLeast (settled s f)
prim_least Rat f = refl
prim_least Int f = refl

pub prim_strict : (s : Sort) (f g : Form) → IsOf s (Above g) → prim s (Above f) ≡ Above (settled s f)
prim_strict Rat f g o = refl
prim_strict Int f g o = absurd o

pub prim_divides : (s : Sort) (d e : ℕ) (f g : Form) → IsOf s (Divides e g) → prim s (Divides d f) ≡ Divides (modulus_of d f) (residue_form d f)
prim_divides Rat d e f g o = absurd o
prim_divides Int d e f g o = refl

pub prim_not_divides : (s : Sort) (d e : ℕ) (f g : Form) → IsOf s (NotDivides e g) → prim s (NotDivides d f) ≡ NotDivides (modulus_of d f) (residue_form d f)
prim_not_divides Rat d e f g o = absurd o
prim_not_divides Int d e f g o = refl

-- over the integers a modulus is within the cap
pub primable_divides : (s : Sort) (d : ℕ) (f : Form) → IsPrimable s (Divides d f) → (1 ≤ d) × (d ≤ cap)
primable_divides Rat d f p = absurd p
primable_divides Int d f p = p

pub primable_not : (s : Sort) (d : ℕ) (f : Form) → IsPrimable s (NotDivides d f) → (1 ≤ d) × (d ≤ cap)
primable_not Rat d f p = absurd p
primable_not Int d f p = p

-- a move less a residue, as it is worked out
pub less_is : (s : Sort) (l : Lit) (x : ℕ) (m : Move) (r n : ℕ) (ts : List (ℕ × ℤ)) (z : ℤ) → n ≡ m.div → ts ≡ m.numer.terms → AreTerms 0 ts → z ≡ m.numer.constant -ℤ pos r → put_lit s x n (with_constant ts z) l ≡ substituted s l x m r
less_is s l x m r n ts z e h a k =
    ap₂ (λ (i : ℕ) (f : Form). put_lit s x i f l) e
    (ap₂ with_constant (sym (plus_none 0 ts a) ∙ ap (λ (us : List (ℕ × ℤ)). plus_terms us []) h) (k ∙ (let q : m.numer.constant -ℤ pos r ≡ m.numer.constant +ℤ neg_ℤ (pos r) = omega (arith, ints) in q)))
