-- A bound and a number more, and the middle of two bounds, as sums of multiples of rows.
use Rattle.std.specs.Prelude.{ℕ, zero, suc, ◌+◌, ◌<◌, ◌≤◌, ◌≡◌, ◌≢◌, ◌^◌, ℤ, pos, negsuc, ◌+ℤ◌, ◌*ℤ◌, neg_ℤ, nat_abs, Bool, true, false, cond, eqb, ltb, Result, Ok, Err, IfOk, List, [], ◌∷◌}
use Rattle.std.proofs.Common.{arith, ap, ap₂, ◌∙◌, sym, subst, refl, eqb-true, ltb-true, ltb-false}
use Rattle.std.proofs.lemmas.Int.{ints}
use Rattle.std.proofs.lemmas.Bool.{cond_both}
use Rattle.lin_term.specs.declared.Sort.{Sort}
use Rattle.lin_term.specs.declared.Sort.TheVariants.{Rat}
use Rattle.lin_term.specs.declared.Lit.{Lit}
use Rattle.lin_term.specs.declared.Memory.{Memory}
use Rattle.lin_term.specs.declared.Short.{Short}
use Rattle.lin_term.specs.declared.Wide.{Wide}
use Rattle.lin_term.specs.Form.{Form, AreTerms}
use Rattle.lin_term.specs.Linear.{put_front, put, plus_terms, times_terms}
use Rattle.lin_term.specs.Literal.{form_of}
use Rattle.lin_term.specs.Move.{Move, lowest}
use Rattle.lin_term.specs.Definition.{move_numbers}
use Rattle.lin_term.specs.PutIn.{coef, without, rest_of}
use Rattle.lin_term.specs.Replaced.{replaced}
use Rattle.lin_term.specs.Wide.{Capped}
use Rattle.lin_term.specs.WideMove.{wide_form}
use Rattle.lin_term.proofs.Ascending.{Ascend, ascend_from, without_ascend}
use Rattle.lin_term.proofs.Ring.{mul_assoc_ℤ, mul_neg_ℤ, neg_mul_ℤ}
use Rattle.dom_core.specs.Elimination.{size_at}
use Rattle.dom_core.specs.Pick.{lower_bound, upper_bound, middle}
use Rattle.dom_core.specs.Bound.{shifted_lower, shifted_upper}
use Rattle.dom_core.proofs.Reducing.{Lacks, without_lacks}

abbrev form_with : List (ℕ × ℤ) → ℤ → Form
form_with ts z = record { terms = ts; constant = z }

-- ---- a row without a variable

-- there is none from 2^20 on
none_beyond : (n : ℕ) (ts : List (ℕ × ℤ)) (x : ℕ) → 2 ^ 20 ≤ x → AreTerms n ts → coef ts x ≡ pos 0
none_beyond n [] x h a = refl
none_beyond n (t ∷ ts) x h a = by (eqb t.0 x) refl (none_beyond (t.0 + 1) ts x h a.4)
  where
    by : (b : Bool) → eqb t.0 x ≡ b → coef ts x ≡ pos 0 → cond b (t.1 +ℤ coef ts x) (coef ts x) ≡ pos 0
    by true q z = let e = eqb-true t.0 x q in let l = a.1 in absurd (omega (arith, e, l, h))
    by false q z = z

pub few_where : (x : ℕ) (l : Lit) (ts : List (ℕ × ℤ)) → ts ≡ (form_of l).terms → AreTerms 0 ts → 1 ≤ size_at x l → x < 2 ^ 20
few_where x l ts e a o = by (ltb x (2 ^ 20)) refl
  where
    by : (b : Bool) → ltb x (2 ^ 20) ≡ b → x < 2 ^ 20
    by true q = ltb-true x (2 ^ 20) q
    by false q =
        let z : coef (form_of l).terms x ≡ pos 0 = ap (λ (us : List (ℕ × ℤ)). coef us x) (sym e) ∙ none_beyond 0 ts x (ltb-false x (2 ^ 20) q) a in
        let n : size_at x l ≡ 0 = ap (λ (y : ℤ). nat_abs y) z in
        absurd (omega (arith, n, o))

put_zero : (x : ℕ) (ts : List (ℕ × ℤ)) → Lacks x ts → put x (pos 0) ts ≡ ts
put_zero x [] h = refl
put_zero x (t ∷ ts) h =
    cond_both (ltb x t.0) (t ∷ ts) (cond (ltb t.0 x) (t ∷ put x (pos 0) ts) (put_front x (pos 0 +ℤ t.1) ts)) (λ us. us ≡ t ∷ ts)
    (λ e. refl)
    (λ e. cond_both (ltb t.0 x) (t ∷ put x (pos 0) ts) (put_front x (pos 0 +ℤ t.1) ts) (λ us. us ≡ t ∷ ts)
    (λ f. ap (λ us. t ∷ us) (put_zero x ts h.1))
    (λ f. absurd (h.0 (omega (arith, ltb-false x t.0 e, ltb-false t.0 x f)))))

taken_out : (f g r : Form) (x : ℕ) → g ≡ f → r ≡ replaced g x (pos 0) → r ≡ rest_of f x
taken_out f g r x q e =
    e ∙ ap (λ (h : Form). replaced h x (pos 0)) q ∙ ap (λ ts. form_with ts f.constant) (put_zero x (without f.terms x) (without_lacks x f.terms))

pub rest_taken : (answer : Result Form Memory) (l : Lit) (g : Form) (x : ℕ) → g ≡ form_of l → IfOk answer (λ r. r ≡ replaced g x (pos 0)) → IfOk answer (λ r. r ≡ rest_of (form_of l) x)
rest_taken (Ok r) l g x q h = taken_out (form_of l) g r x q h
rest_taken (Err e) l g x q h = tt

-- ---- multiples

zero_times : (z : ℤ) → pos 0 *ℤ z ≡ pos 0
zero_times z = omega (arith, ints)

times_zero : (z : ℤ) → z *ℤ pos 0 ≡ pos 0
times_zero z = omega (arith, ints)

one_times : (z : ℤ) → pos 1 *ℤ z ≡ z
one_times z = omega (arith, ints)

times_none : (ts : List (ℕ × ℤ)) → times_terms (pos 0) ts ≡ []
times_none [] = refl
times_none (t ∷ ts) = ap (λ (z : ℤ). put_front t.0 z (times_terms (pos 0) ts)) (zero_times t.1) ∙ times_none ts

front_is : (i : ℕ) (z : ℤ) (ts : List (ℕ × ℤ)) → z ≢ pos 0 → put_front i z ts ≡ (i, z) ∷ ts
front_is i (pos zero) ts h = absurd (h refl)
front_is i (pos (suc n)) ts h = refl
front_is i (negsuc n) ts h = refl

times_same : (n : ℕ) (ts : List (ℕ × ℤ)) → Ascend n ts → times_terms (pos 1) ts ≡ ts
times_same n [] a = refl
times_same n (t ∷ ts) a =
    ap₂ (λ (z : ℤ) (us : List (ℕ × ℤ)). put_front t.0 z us) (one_times t.1) (times_same (t.0 + 1) ts a.3) ∙ front_is t.0 t.1 ts a.2

times_front : (k z : ℤ) (i : ℕ) (ts : List (ℕ × ℤ)) → times_terms k (put_front i z ts) ≡ put_front i (k *ℤ z) (times_terms k ts)
times_front k (pos zero) i ts = sym (ap (λ (y : ℤ). put_front i y (times_terms k ts)) (times_zero k))
times_front k (pos (suc n)) i ts = refl
times_front k (negsuc n) i ts = refl

times_twice : (k j : ℤ) (ts : List (ℕ × ℤ)) → times_terms k (times_terms j ts) ≡ times_terms (k *ℤ j) ts
times_twice k j [] = refl
times_twice k j (t ∷ ts) =
    times_front k (j *ℤ t.1) t.0 (times_terms j ts) ∙ ap₂ (λ (z : ℤ) (us : List (ℕ × ℤ)). put_front t.0 z us) (sym (mul_assoc_ℤ k j t.1)) (times_twice k j ts)

-- ---- moves

lower_form : (x : ℕ) (l : Lit) (k : ℕ) (z c : ℤ) (g : Form) → c ≡ pos k +ℤ pos (size_at x l) *ℤ z → wide_form (negsuc 0) (rest_of (form_of l) x) (pos 0) g c ≡ (shifted_lower x l k z).numer
lower_form x l k z c g e =
    ap₂ form_with (ap (λ us. plus_terms (times_terms (negsuc 0) (without (form_of l).terms x)) us) (times_none g.terms)) (sums (form_of l).constant g.constant (pos (size_at x l) *ℤ z) e)
  where
    sums : (r y w : ℤ) → c ≡ pos k +ℤ w → (negsuc 0 *ℤ r +ℤ pos 0 *ℤ y) +ℤ c ≡ (pos k +ℤ negsuc 0 *ℤ r) +ℤ w
    sums r y w e = omega (arith, ints)

upper_form : (x : ℕ) (l : Lit) (z c : ℤ) (g : Form) → AreTerms 0 (form_of l).terms → c ≡ pos (size_at x l) *ℤ z → wide_form (pos 1) (rest_of (form_of l) x) (pos 0) g c ≡ (shifted_upper x l z).numer
upper_form x l z c g r e =
    ap₂ form_with (ap₂ (λ ts us. plus_terms ts us) (times_same 0 (without (form_of l).terms x) (without_ascend 0 (form_of l).terms x (ascend_from 0 (form_of l).terms r))) (times_none g.terms)) (sums (form_of l).constant g.constant (pos (size_at x l) *ℤ z) e)
  where
    sums : (r y w : ℤ) → c ≡ w → (pos 1 *ℤ r +ℤ pos 0 *ℤ y) +ℤ c ≡ r +ℤ w
    sums r y w e = omega (arith, ints)

middle_form : (x : ℕ) (l u : Lit) → wide_form (neg_ℤ (pos (size_at x u))) (rest_of (form_of l) x) (pos (size_at x l)) (rest_of (form_of u) x) (pos 0) ≡ (middle (lower_bound Rat x l) (upper_bound x u)).numer
middle_form x l u =
    let b : ℤ = pos (size_at x u) in
    let others : List (ℕ × ℤ) = times_terms (pos (size_at x l)) (without (form_of u).terms x) in
    ap₂ form_with
    (ap (λ ts. plus_terms ts others) (ap (λ (z : ℤ). times_terms z (without (form_of l).terms x)) (by_minus b) ∙ sym (times_twice b (negsuc 0) (without (form_of l).terms x))))
    (sums b (form_of l).constant (pos (size_at x l) *ℤ (form_of u).constant))
  where
    by_minus : (b : ℤ) → neg_ℤ b ≡ b *ℤ negsuc 0
    by_minus b = omega (arith, ints)

    turned : (r : ℤ) → pos 0 +ℤ negsuc 0 *ℤ r ≡ neg_ℤ r
    turned r = omega (arith, ints)

    sums : (b r w : ℤ) → (neg_ℤ b *ℤ r +ℤ w) +ℤ pos 0 ≡ b *ℤ (pos 0 +ℤ negsuc 0 *ℤ r) +ℤ w
    sums b r w =
        let p = neg_mul_ℤ b r in
        let q = ap (λ (z : ℤ). b *ℤ z) (turned r) ∙ mul_neg_ℤ b r in
        omega (arith, ints)

-- a move made of equal parts
abbrev pub move_of : Form → ℕ → Move
move_of f d = record { numer = f; div = d }

abbrev pub MakesLowest : Sort → Move → Result Move (Short Wide) → Type 0
MakesLowest s m answer = Capped (move_numbers s (lowest s m)) (lowest s m) answer

pub lower_made : (s : Sort) (x : ℕ) (l : Lit) (r : Form) (p q c : ℤ) (d : ℕ) (k : ℕ) (z : ℤ) (answer : Result Move (Short Wide)) → r ≡ rest_of (form_of l) x → p ≡ negsuc 0 → q ≡ pos 0 → d ≡ size_at x l → c ≡ pos k +ℤ pos (size_at x l) *ℤ z → MakesLowest s (move_of (wide_form p r q r c) d) answer → MakesLowest s (shifted_lower x l k z) answer
lower_made s x l r p q c d k z answer er ep eq ed e h =
    let f : wide_form p r q r c ≡ (shifted_lower x l k z).numer = ap₂ (λ (u v : ℤ). wide_form u r v r c) ep eq ∙ ap (λ (g : Form). wide_form (negsuc 0) g (pos 0) r c) er ∙ lower_form x l k z c r e in
    subst (λ (m : Move). MakesLowest s m answer) (ap₂ move_of f ed) h

pub upper_made : (s : Sort) (x : ℕ) (l : Lit) (r : Form) (p q c : ℤ) (d : ℕ) (z : ℤ) (answer : Result Move (Short Wide)) → AreTerms 0 (form_of l).terms → r ≡ rest_of (form_of l) x → p ≡ pos 1 → q ≡ pos 0 → d ≡ size_at x l → c ≡ pos (size_at x l) *ℤ z → MakesLowest s (move_of (wide_form p r q r c) d) answer → MakesLowest s (shifted_upper x l z) answer
upper_made s x l r p q c d z answer w er ep eq ed e h =
    let f : wide_form p r q r c ≡ (shifted_upper x l z).numer = ap₂ (λ (u v : ℤ). wide_form u r v r c) ep eq ∙ ap (λ (g : Form). wide_form (pos 1) g (pos 0) r c) er ∙ upper_form x l z c r w e in
    subst (λ (m : Move). MakesLowest s m answer) (ap₂ move_of f ed) h

pub middle_made : (x : ℕ) (l u : Lit) (f g : Form) (p q c : ℤ) (d : ℕ) (answer : Result Move (Short Wide)) → f ≡ rest_of (form_of l) x → g ≡ rest_of (form_of u) x → p ≡ neg_ℤ (pos (size_at x u)) → q ≡ pos (size_at x l) → c ≡ pos 0 → d ≡ (middle (lower_bound Rat x l) (upper_bound x u)).div → MakesLowest Rat (move_of (wide_form p f q g c) d) answer → MakesLowest Rat (middle (lower_bound Rat x l) (upper_bound x u)) answer
middle_made x l u f g p q c d answer ef eg ep eq ec ed h =
    let w : wide_form p f q g c ≡ (middle (lower_bound Rat x l) (upper_bound x u)).numer =
    ap₂ (λ (y z : ℤ). wide_form y f z g c) ep eq ∙ ap₂ (λ (i j : Form). wide_form (neg_ℤ (pos (size_at x u))) i (pos (size_at x l)) j c) ef eg
    ∙ ap (λ (z : ℤ). wide_form (neg_ℤ (pos (size_at x u))) (rest_of (form_of l) x) (pos (size_at x l)) (rest_of (form_of u) x) z) ec ∙ middle_form x l u in
    subst (λ (m : Move). MakesLowest Rat m answer) (ap₂ move_of w ed) h
