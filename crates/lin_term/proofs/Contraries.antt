-- The negation of a primitive literal: it is primitive, and its negation is the literal.
use Rattle.std.specs.Prelude.{ℕ, ◌+◌, ◌≡◌, ◌≢◌, ℤ, pos, negsuc, ◌+ℤ◌, ◌-ℤ◌, ◌*ℤ◌, nat_abs, List, [], ◌∷◌}
use Rattle.std.proofs.Common.{arith, ap, ap₂, ◌∙◌, sym, subst, refl}
use Rattle.std.proofs.lemmas.Int.{ints}
use Rattle.lin_term.specs.Form.{Form, AreTerms}
use Rattle.lin_term.specs.Linear.{Sort, Rat, Int, times_terms, times}
use Rattle.lin_term.specs.Literal.{Lit, AtLeast, Above, Divides, NotDivides, form_of, IsOf, IsPrimitive, gcd, gcd_terms, or_one, divisor, quotient, whole_form, minus_one, sign_of, opposite, prim, neg}
use Rattle.lin_term.proofs.Residues.{with_constant, own_modulus, own_modulus_not}
use Rattle.lin_term.proofs.PrimitiveLemmas.{modulus_one}
use Rattle.lin_term.proofs.Negating.{negate-cons, negate_are, plus_none}
use Rattle.lin_term.proofs.Lowest.{quotient_one, prim_again, rat_one, whole_one}
use Rattle.lin_term.proofs.Defining.{gcd_negated}

of_sort : (s : Sort) (l : Lit) → IsOf s l → IsOf s (neg s l)
of_sort Rat (AtLeast f) o = tt
of_sort Rat (Above f) o = tt
of_sort Rat (Divides d f) o = absurd o
of_sort Rat (NotDivides d f) o = absurd o
of_sort Int (AtLeast f) o = tt
of_sort Int (Above f) o = absurd o
of_sort Int (Divides d f) o = modulus_one d f o
of_sort Int (NotDivides d f) o = modulus_one d f o

pub prim_neg : (s : Sort) (l : Lit) → prim s (neg s l) ≡ neg s l
prim_neg s l = prim_again s (opposite s l)

pub neg_primitive : (s : Sort) (l : Lit) → IsPrimitive s l → IsPrimitive s (neg s l)
neg_primitive s l p = (of_sort s l p.0, prim_neg s l)

-- ---- twice negated

nonzero_minus : (z : ℤ) → z ≢ pos 0 → pos 0 -ℤ z ≢ pos 0
nonzero_minus z h e = h (let s : z ≡ pos 0 = omega (arith, ints) in s)

twice_terms : (n : ℕ) (ts : List (ℕ × ℤ)) → AreTerms n ts → times_terms (negsuc 0) (times_terms (negsuc 0) ts) ≡ ts
twice_terms n [] a = refl
twice_terms n (t ∷ ts) a =
    ap (times_terms (negsuc 0)) (negate-cons t ts a.2)
    ∙ negate-cons (t.0, pos 0 -ℤ t.1) (times_terms (negsuc 0) ts) (nonzero_minus t.1 a.2)
    ∙ ap₂ (λ (z : ℤ) (us : List (ℕ × ℤ)). (t.0, z) ∷ us) (let s : pos 0 -ℤ (pos 0 -ℤ t.1) ≡ t.1 = omega (arith, ints) in s) (twice_terms (t.0 + 1) ts a.4)

twice : (f : Form) → AreTerms 0 f.terms → times (negsuc 0) (times (negsuc 0) f) ≡ f
twice f a =
    ap₂ with_constant (twice_terms 0 f.terms a) (let s : negsuc 0 *ℤ (negsuc 0 *ℤ f.constant) ≡ f.constant = omega (arith, ints) in s)

minus_divisor : (f : Form) → divisor Rat (times (negsuc 0) f) ≡ divisor Rat f
minus_divisor f =
    ap or_one (ap₂ (λ (a b : ℕ). gcd a b) (let s : nat_abs (negsuc 0 *ℤ f.constant) ≡ nat_abs f.constant = omega (arith, ints) in s) (gcd_negated f.terms))

minus_kept : (f : Form) → divisor Rat f ≡ 1 → quotient (times (negsuc 0) f) (divisor Rat (times (negsuc 0) f)) ≡ times (negsuc 0) f
minus_kept f e = ap (λ (n : ℕ). quotient (times (negsuc 0) f) n) (minus_divisor f ∙ e) ∙ quotient_one (times (negsuc 0) f)

rat_divisor : (f : Form) → quotient f (divisor Rat f) ≡ f → divisor Rat f ≡ 1
rat_divisor f e = sym (ap (divisor Rat) e) ∙ rat_one f

twice_at_least : (f : Form) → AreTerms 0 f.terms → quotient f (divisor Rat f) ≡ f → neg Rat (neg Rat (AtLeast f)) ≡ AtLeast f
twice_at_least f a e =
    let d = rat_divisor f e in
    ap (λ (g : Form). neg Rat (Above g)) (minus_kept f d)
    ∙ ap (λ (g : Form). AtLeast g) (minus_kept (times (negsuc 0) f) (minus_divisor f ∙ d) ∙ twice f a)

twice_above : (f : Form) → AreTerms 0 f.terms → quotient f (divisor Rat f) ≡ f → neg Rat (neg Rat (Above f)) ≡ Above f
twice_above f a e =
    let d = rat_divisor f e in
    ap (λ (g : Form). neg Rat (AtLeast g)) (minus_kept f d)
    ∙ ap (λ (g : Form). Above g) (minus_kept (times (negsuc 0) f) (minus_divisor f ∙ d) ∙ twice f a)

-- over the integers: without variables the constant is 0 or -1
twice_constant : (c : ℤ) → sign_of c ≡ c → neg Int (neg Int (AtLeast (with_constant [] c))) ≡ AtLeast (with_constant [] c)
twice_constant (pos n) e = subst (λ (z : ℤ). neg Int (neg Int (AtLeast (with_constant [] z))) ≡ AtLeast (with_constant [] z)) e refl
twice_constant (negsuc n) e = subst (λ (z : ℤ). neg Int (neg Int (AtLeast (with_constant [] z))) ≡ AtLeast (with_constant [] z)) e refl

abbrev against : ℕ × ℤ → List (ℕ × ℤ) → ℤ → Form
against t ts c = with_constant ((t.0, pos 0 -ℤ t.1) ∷ times_terms (negsuc 0) ts) ((pos 0 -ℤ c) -ℤ pos 1)

less_one_is : (t : ℕ × ℤ) (ts : List (ℕ × ℤ)) (c : ℤ) → AreTerms 0 (t ∷ ts) → minus_one (times (negsuc 0) (with_constant (t ∷ ts) c)) ≡ against t ts c
less_one_is t ts c a =
    ap₂ with_constant (plus_none 0 (times_terms (negsuc 0) (t ∷ ts)) (negate_are 0 (t ∷ ts) a) ∙ negate-cons t ts a.2)
    (let s : negsuc 0 *ℤ c +ℤ negsuc 0 ≡ (pos 0 -ℤ c) -ℤ pos 1 = omega (arith, ints) in s)

against_one : (t : ℕ × ℤ) (ts : List (ℕ × ℤ)) → AreTerms 0 (t ∷ ts) → or_one (gcd_terms (t ∷ ts)) ≡ 1 → or_one (gcd_terms ((t.0, pos 0 -ℤ t.1) ∷ times_terms (negsuc 0) ts)) ≡ 1
against_one t ts a e = ap (λ (us : List (ℕ × ℤ)). or_one (gcd_terms us)) (sym (negate-cons t ts a.2)) ∙ ap or_one (gcd_negated (t ∷ ts)) ∙ e

neg_whole : (t : ℕ × ℤ) (ts : List (ℕ × ℤ)) (c : ℤ) → AreTerms 0 (t ∷ ts) → or_one (gcd_terms (t ∷ ts)) ≡ 1 → neg Int (AtLeast (with_constant (t ∷ ts) c)) ≡ AtLeast (against t ts c)
neg_whole t ts c a e =
    ap (λ (f : Form). AtLeast (whole_form f)) (less_one_is t ts c a)
    ∙ ap (λ (f : Form). AtLeast f) (ap (quotient (against t ts c)) (against_one t ts a e) ∙ quotient_one (against t ts c))

twice_whole : (ts : List (ℕ × ℤ)) (c : ℤ) → AreTerms 0 ts → whole_form (with_constant ts c) ≡ with_constant ts c → neg Int (neg Int (AtLeast (with_constant ts c))) ≡ AtLeast (with_constant ts c)
twice_whole [] c a e = twice_constant c (ap (λ (f : Form). f.constant) e)
twice_whole (t ∷ ts) c a e =
    let o : or_one (gcd_terms (t ∷ ts)) ≡ 1 = sym (ap (λ (f : Form). or_one (gcd_terms f.terms)) e) ∙ whole_one (t ∷ ts) in
    let t' : ℕ × ℤ = (t.0, pos 0 -ℤ t.1) in
    let ts' : List (ℕ × ℤ) = times_terms (negsuc 0) ts in
    let a' : AreTerms 0 (t' ∷ ts') = subst (λ (us : List (ℕ × ℤ)). AreTerms 0 us) (negate-cons t ts a.2) (negate_are 0 (t ∷ ts) a) in
    ap (neg Int) (neg_whole t ts c a o)
    ∙ neg_whole t' ts' ((pos 0 -ℤ c) -ℤ pos 1) a' (against_one t ts a o)
    ∙ ap (λ (f : Form). AtLeast f) (ap₂ with_constant (ap₂ (λ (z : ℤ) (us : List (ℕ × ℤ)). (t.0, z) ∷ us) (let s : pos 0 -ℤ (pos 0 -ℤ t.1) ≡ t.1 = omega (arith, ints) in s) (twice_terms (t.0 + 1) ts a.4)) (let s : (pos 0 -ℤ ((pos 0 -ℤ c) -ℤ pos 1)) -ℤ pos 1 ≡ c = omega (arith, ints) in s))

-- the negation's negation is the literal
pub neg_neg : (s : Sort) (l : Lit) → IsPrimitive s l → AreTerms 0 (form_of l).terms → neg s (neg s l) ≡ l
neg_neg Rat (AtLeast f) p a = twice_at_least f a (ap form_of p.1)
neg_neg Rat (Above f) p a = twice_above f a (ap form_of p.1)
neg_neg Rat (Divides d f) p a = absurd p.0
neg_neg Rat (NotDivides d f) p a = absurd p.0
neg_neg Int (AtLeast f) p a = twice_whole f.terms f.constant a (ap form_of p.1)
neg_neg Int (Above f) p a = absurd p.0
neg_neg Int (Divides d f) p a =
    ap (neg Int) (ap₂ (λ (n : ℕ) (g : Form). NotDivides n g) (own_modulus Int d f p) (ap form_of p.1)) ∙ p.1
neg_neg Int (NotDivides d f) p a =
    ap (neg Int) (ap₂ (λ (n : ℕ) (g : Form). Divides n g) (own_modulus_not Int d f p) (ap form_of p.1)) ∙ p.1
