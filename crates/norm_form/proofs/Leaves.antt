-- Normal forms are classical, and what the leaves say.
use Rattle.std.specs.Prelude.{ℕ, zero, suc, ◌*◌, ◌%◌, ◌≡◌, ◌≤◌, ℤ, pos, negsuc, ◌+ℤ◌, ◌*ℤ◌, nat_abs, ◌≤ℤ◌, ◌<ℤ◌, List, [], ◌∷◌, ⊤, Bool, true, false, not}
use Rattle.std.proofs.Common.{arith, ap, ap₂, ◌∙◌, sym, subst, refl, mul-le-mul}
use Rattle.std.proofs.lemmas.Int.{ints}
use Rattle.lin_term.specs.declared.Sort.{Sort}
use Rattle.lin_term.specs.declared.Sort.TheVariants.{Rat, Int}
use Rattle.lin_term.specs.declared.Lit.{Lit}
use Rattle.lin_term.specs.declared.Lit.TheVariants.{AtLeast, Above, Divides, NotDivides}
use Rattle.lin_term.specs.Linear.{Form, Point, Value, IsPoint, dot, dot_terms, extend}
use Rattle.lin_term.specs.Literal.{Holds, IsOf, form_of, prim, neg}
use Rattle.lin_term.proofs.Holding.{one_den, stable_literal}
use Rattle.lin_term.proofs.PrimitiveLemmas.{modulus_one, prim_from, prim_to, neg_apart, neg_from}
use Rattle.lin_term.proofs.Ring.{nonneg_from_mul, pos_from_mul, nonneg_mul, pos_mul, nonneg_across, pos_across}
use Rattle.norm_form.specs.Normal.{Normal, one_lit, each_of, some_of, for_all, there_is, Normals, no_part, part, TrueN, AllTrue}
use Rattle.lin_truth.specs.Truth.{Same}
use Rattle.lin_truth.specs.Value.{Yes}
use Rattle.lin_form.specs.Lin.{Lin}
use Rattle.norm_form.specs.Norm.{leaf, leaf_by, closed, closed_truth, is_nonneg, is_positive, is_zero, signed}
use Rattle.norm_form.proofs.Forms.{Gives, value_den, over_zero, den_over}

-- the truth of a formula, or of its negation
abbrev pub Sign : Bool → Type 0 → Type 0
Sign true A = A
Sign false A = ¬ A

pub same_refl : {A : Type 0} → Same A A
same_refl {A} = (λ x. x, λ x. x)

pub same_trans : {A B C : Type 0} → Same A B → Same B C → Same A C
same_trans {A} {B} {C} f g = (λ x. g.0 (f.0 x), λ x. f.1 (g.1 x))

pub same_sign : (q : Bool) {A B : Type 0} → Same A B → Same (Sign q A) (Sign q B)
same_sign true {A} {B} f = f
same_sign false {A} {B} f = (λ n x. n (f.1 x), λ n x. n (f.0 x))

mutual
  pub stable_normal : (n : Normal) (s : Sort) (p : Point) → ¬ (¬ TrueN n s p) → TrueN n s p
  stable_normal (one_lit l) s p h = stable_literal l p h
  stable_normal (each_of ns) s p h = stable_each ns s p h
  stable_normal (some_of ns) s p h = λ k. h (λ x. x k)
  stable_normal (for_all n) s p h = λ v i. stable_normal n s (extend p v) (λ k. h (λ x. k (x v i)))
  stable_normal (there_is n) s p h = λ k. h (λ x. x k)

  pub stable_each : (ns : Normals) (s : Sort) (p : Point) → ¬ (¬ AllTrue ns s p) → AllTrue ns s p
  stable_each no_part s p h = tt
  stable_each (part n ns) s p h = (stable_normal n s p (λ k. h (λ x. k x.0)), stable_each ns s p (λ k. h (λ x. k x.1)))

-- ---- literals

nonneg_is : (z : ℤ) → Same (pos 0 ≤ℤ z) (Yes (is_nonneg z))
nonneg_is (pos n) = (λ h. tt, λ h. omega (arith, ints))
nonneg_is (negsuc n) = (λ h. absurd (omega (arith, ints)), λ h. absurd h)

positive_is : (z : ℤ) → Same (pos 0 <ℤ z) (Yes (is_positive z))
positive_is (pos zero) = (λ h. absurd (omega (arith, ints)), λ h. absurd h)
positive_is (pos (suc n)) = (λ h. tt, λ h. omega (arith, ints))
positive_is (negsuc n) = (λ h. absurd (omega (arith, ints)), λ h. absurd h)

closed_is : (b : Bool) (s : Sort) (p : Point) → Same (Yes b) (TrueN (closed b) s p)
closed_is true s p = (λ h. tt, λ h. tt)
closed_is false s p = (λ h. absurd h, λ h. h tt)

pub closed_same : (q : Bool) (s : Sort) (p : Point) → Same (Sign q ⊤) (TrueN (closed q) s p)
closed_same true s p = (λ h. tt, λ h. tt)
closed_same false s p = (λ h. absurd (h tt), λ h. absurd (h tt))

pub closed_not : (q : Bool) (s : Sort) (p : Point) → Same (Sign q ⊥) (TrueN (closed (not q)) s p)
closed_not true s p = (λ h. absurd h, λ h. h tt)
closed_not false s p = (λ h. tt, λ h k. k)

constant_sign : (s : Sort) (p : Point) (c : ℤ) → IsPoint s p → Same (pos 0 ≤ℤ (pos 0 +ℤ c *ℤ pos p.den)) (pos 0 ≤ℤ c)
constant_sign s p c i =
    let o = den_over s p i in
    let e : pos 0 +ℤ c *ℤ pos p.den ≡ c *ℤ pos p.den = omega (arith, ints) in
    (λ h. nonneg_from_mul c (pos p.den) o (subst (λ (z : ℤ). pos 0 ≤ℤ z) e h), λ h. subst (λ (z : ℤ). pos 0 ≤ℤ z) (sym e) (nonneg_mul c (pos p.den) h (omega (arith, ints))))

constant_positive : (s : Sort) (p : Point) (c : ℤ) → IsPoint s p → Same (pos 0 <ℤ (pos 0 +ℤ c *ℤ pos p.den)) (pos 0 <ℤ c)
constant_positive s p c i =
    let o = den_over s p i in
    let e : pos 0 +ℤ c *ℤ pos p.den ≡ c *ℤ pos p.den = omega (arith, ints) in
    (λ h. pos_from_mul c (pos p.den) o (subst (λ (z : ℤ). pos 0 <ℤ z) e h), λ h. subst (λ (z : ℤ). pos 0 <ℤ z) (sym e) (pos_mul c (pos p.den) h o))

test_is : (b : ℕ) → Same (b ≡ 0) (Yes (is_zero b))
test_is zero = (λ h. tt, λ h. refl)
test_is (suc b) = (λ h. absurd (omega arith), λ h. absurd h)

not_is : (b : Bool) → Same (¬ Yes b) (Yes (not b))
not_is true = (λ h. h tt, λ h. absurd h)
not_is false = (λ h. tt, λ h k. k)

same_not : {A B : Type 0} → Same A B → Same (¬ A) (¬ B)
same_not {A} {B} f = same_sign false f

divides_closed : (d : ℕ) (p : Point) → p.den ≡ 1 → (z : ℤ) → Same (nat_abs (pos 0 +ℤ z *ℤ pos p.den) % (d * p.den) ≡ 0) (nat_abs z % d ≡ 0)
divides_closed d p e z =
    let a : pos 0 +ℤ z *ℤ pos 1 ≡ z = omega (arith, ints) in
    let x : nat_abs (pos 0 +ℤ z *ℤ pos p.den) % (d * p.den) ≡ nat_abs z % d =
    ap (λ (n : ℕ). nat_abs (pos 0 +ℤ z *ℤ pos n) % (d * n)) e ∙ ap₂ (λ (y : ℤ) (n : ℕ). nat_abs y % n) a (let o : d * 1 ≡ d = omega arith in o) in
    (λ h. sym x ∙ h, λ h. x ∙ h)

-- a literal that may stand in a problem of the sort, or an inequality
abbrev pub Plain : Sort → Lit → Type 0
Plain s (AtLeast f) = ⊤
Plain s (Above f) = ⊤
Plain s (Divides d f) = IsOf s (Divides d f)
Plain s (NotDivides d f) = IsOf s (NotDivides d f)

closed_dot : (f : Form) (p : Point) → f.terms ≡ [] → dot f p ≡ pos 0 +ℤ f.constant *ℤ pos p.den
closed_dot f p e = ap (λ (ts : List (ℕ × ℤ)). dot_terms ts p.nums +ℤ f.constant *ℤ pos p.den) e

closed_holds : (s : Sort) (p : Point) (l : Lit) → IsPoint s p → Plain s l → (form_of l).terms ≡ [] → Same (Holds l p) (Yes (closed_truth l))
closed_holds s p (AtLeast f) i o e =
    let d = closed_dot f p e in
    let c = constant_sign s p f.constant i in
    same_trans (λ h. c.0 (subst (λ (z : ℤ). pos 0 ≤ℤ z) d h), λ h. subst (λ (z : ℤ). pos 0 ≤ℤ z) (sym d) (c.1 h)) (nonneg_is f.constant)
closed_holds s p (Above f) i o e =
    let d = closed_dot f p e in
    let c = constant_positive s p f.constant i in
    same_trans (λ h. c.0 (subst (λ (z : ℤ). pos 0 <ℤ z) d h), λ h. subst (λ (z : ℤ). pos 0 <ℤ z) (sym d) (c.1 h)) (positive_is f.constant)
closed_holds Rat p (Divides d f) i o e = absurd o
closed_holds Rat p (NotDivides d f) i o e = absurd o
closed_holds Int p (Divides d f) i o e =
    let x = ap (λ (z : ℤ). nat_abs z % (d * p.den)) (closed_dot f p e) in
    let c = divides_closed d p i f.constant in
    same_trans (λ h. c.0 (sym x ∙ h), λ h. x ∙ c.1 h) (test_is (nat_abs f.constant % d))
closed_holds Int p (NotDivides d f) i o e =
    let x = ap (λ (z : ℤ). nat_abs z % (d * p.den)) (closed_dot f p e) in
    let c = divides_closed d p i f.constant in
    same_trans (same_not (same_trans (λ h. c.0 (sym x ∙ h), λ h. x ∙ c.1 h) (test_is (nat_abs f.constant % d)))) (not_is (is_zero (nat_abs f.constant % d)))

leaf_with : (ts : List (ℕ × ℤ)) (s : Sort) (p : Point) (l : Lit) → IsPoint s p → Plain s l → (form_of l).terms ≡ ts → Same (Holds l p) (TrueN (leaf_by ts l) s p)
leaf_with [] s p l i o e = same_trans (closed_holds s p l i o e) (closed_is (closed_truth l) s p)
leaf_with (t ∷ ts) s p l i o e = (λ h. h, λ h. h)

pub leaf_same : (s : Sort) (p : Point) (l : Lit) → IsPoint s p → Plain s l → Same (Holds l p) (TrueN (leaf l) s p)
leaf_same s p l i o = leaf_with (form_of l).terms s p l i o refl

pub plain_prim : (s : Sort) (l : Lit) → Plain s l → Plain s (prim s l) × IsOf s (prim s l)
plain_prim Rat (AtLeast f) o = (tt, tt)
plain_prim Rat (Above f) o = (tt, tt)
plain_prim Rat (Divides d f) o = absurd o
plain_prim Rat (NotDivides d f) o = absurd o
plain_prim Int (AtLeast f) o = (tt, tt)
plain_prim Int (Above f) o = (tt, tt)
plain_prim Int (Divides d f) o = (modulus_one d f o, modulus_one d f o)
plain_prim Int (NotDivides d f) o = (modulus_one d f o, modulus_one d f o)

plain_neg : (s : Sort) (l : Lit) → IsOf s l → Plain s (neg s l)
plain_neg Rat (AtLeast f) o = tt
plain_neg Rat (Above f) o = tt
plain_neg Rat (Divides d f) o = absurd o
plain_neg Rat (NotDivides d f) o = absurd o
plain_neg Int (AtLeast f) o = tt
plain_neg Int (Above f) o = tt
plain_neg Int (Divides d f) o = modulus_one d f o
plain_neg Int (NotDivides d f) o = modulus_one d f o

pub signed_same : (q : Bool) (s : Sort) (p : Point) (l : Lit) → IsPoint s p → Plain s l → Same (Sign q (Holds l p)) (TrueN (signed q s l) s p)
signed_same true s p l i o =
    same_trans (prim_to s l p i, prim_from s l p i) (leaf_same s p (prim s l) i (plain_prim s l o).0)
signed_same false s p l i o =
    let k = plain_prim s l o in
    same_trans
    (λ n. neg_from s (prim s l) p k.1 i (λ h. n (prim_from s l p i h)), λ h x. neg_apart s (prim s l) p k.1 i h (prim_to s l p i x))
    (leaf_same s p (neg s (prim s l)) i (plain_neg s (prim s l) k.1))

one_product : (a b : ℕ) → 1 ≤ a → 1 ≤ b → 1 ≤ a * b
one_product a b h k = mul-le-mul h k

-- ---- the sign of a form is that of its value

pub sign_at_least : (s : Sort) (x : Lin) (p : Point) (v : Value) → IsPoint s p → Gives s x p v → Same (pos 0 ≤ℤ v.num) (Holds (AtLeast x.form) p)
sign_at_least s x p v i a =
    let vd = over_zero v.den (value_den s v a.valued) in
    let xd = over_zero (x.den * p.den) (one_product x.den p.den a.whole (one_den s p i)) in (
      λ h. nonneg_across v.num (dot x.form p) (pos (x.den * p.den)) (pos v.den) xd vd (sym a.is) h,
      λ h. nonneg_across (dot x.form p) v.num (pos v.den) (pos (x.den * p.den)) vd xd a.is h,
    )

pub sign_above : (s : Sort) (x : Lin) (p : Point) (v : Value) → IsPoint s p → Gives s x p v → Same (pos 0 <ℤ v.num) (Holds (Above x.form) p)
sign_above s x p v i a =
    let vd = over_zero v.den (value_den s v a.valued) in
    let xd = over_zero (x.den * p.den) (one_product x.den p.den a.whole (one_den s p i)) in (
      λ h. pos_across v.num (dot x.form p) (pos (x.den * p.den)) (pos v.den) xd vd (sym a.is) h,
      λ h. pos_across (dot x.form p) v.num (pos v.den) (pos (x.den * p.den)) vd xd a.is h,
    )
