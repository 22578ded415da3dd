-- The value of a form at a point with another value for one variable.
use Rattle.std.specs.Prelude.{ℕ, zero, suc, ◌*◌, ◌≡◌, ◌≢◌, ℤ, pos, negsuc, ◌+ℤ◌, ◌*ℤ◌, Bool, true, false, cond, nat_eq, eqb, ltb, List, [], ◌∷◌, ◌++◌, length}
use Rattle.std.proofs.Common.{arith, ap, ◌∙◌, sym, refl, eqb-true, ltb-false}
use Rattle.std.proofs.lemmas.Int.{ints}
use Rattle.std.proofs.lemmas.Bool.{cond_both, eqb-false}
use Rattle.lin_term.specs.Form.{Form}
use Rattle.lin_term.specs.declared.Sort.TheVariants.{Int}
use Rattle.lin_term.specs.Linear.{Point, Value, IsPoint, at, dot_terms, dot, put_front, put, plus_terms, plus, times_terms, times, scale_all, extend}
use Rattle.lin_term.specs.PutIn.{coef, without, rest_of, occurs}
use Rattle.lin_term.proofs.Ring.{distrib_ℤ, distrib_right_ℤ, mul_assoc_ℤ}
use Rattle.lin_term.proofs.Dots.{at-scale_all, length-scale_all}
use Rattle.lin_term.proofs.PrimitiveLemmas.{one_times}
use Rattle.dom_core.specs.Cube.{set_at, assign}

-- ---- coefficients

coef-put_front : (i : ℕ) (a : ℤ) (ts : List (ℕ × ℤ)) (x : ℕ) → coef (put_front i a ts) x ≡ cond (nat_eq i x) (a +ℤ coef ts x) (coef ts x)
coef-put_front i (pos zero) ts x = by (eqb i x)
  where
    by : (b : Bool) → coef ts x ≡ cond b (pos zero +ℤ coef ts x) (coef ts x)
    by true = omega (arith, ints)
    by false = refl
coef-put_front i (pos (suc n)) ts x = refl
coef-put_front i (negsuc n) ts x = refl

cond_plus : (b : Bool) (a z : ℤ) → cond b (a +ℤ z) z ≡ cond b a (pos 0) +ℤ z
cond_plus true a z = refl
cond_plus false a z = omega (arith, ints)

coef-put : (i : ℕ) (a : ℤ) (ts : List (ℕ × ℤ)) (x : ℕ) → coef (put i a ts) x ≡ cond (nat_eq i x) a (pos 0) +ℤ coef ts x
coef-put i a [] x = coef-put_front i a [] x ∙ cond_plus (nat_eq i x) a (pos 0)
coef-put i a (t ∷ ts) x =
    let P : List (ℕ × ℤ) → Type 0 = λ us. coef us x ≡ cond (nat_eq i x) a (pos 0) +ℤ coef (t ∷ ts) x in
    cond_both (ltb i t.0) (put_front i a (t ∷ ts)) (cond (ltb t.0 i) (t ∷ put i a ts) (put_front i (a +ℤ t.1) ts)) P
    (λ e. coef-put_front i a (t ∷ ts) x ∙ cond_plus (nat_eq i x) a (coef (t ∷ ts) x))
    (λ e. cond_both (ltb t.0 i) (t ∷ put i a ts) (put_front i (a +ℤ t.1) ts) P
    (λ f. under (nat_eq i x) (nat_eq t.0 x) (coef-put i a ts x))
    (λ f. let s : i ≡ t.0 = omega (arith, ltb-false i t.0 e, ltb-false t.0 i f) in
    coef-put_front i (a +ℤ t.1) ts x ∙ same (nat_eq i x) ∙ ap (λ (b : Bool). cond (nat_eq i x) a (pos 0) +ℤ cond b (t.1 +ℤ coef ts x) (coef ts x)) (ap (λ (j : ℕ). nat_eq j x) s)))
  where
    under : (b c : Bool) → coef (put i a ts) x ≡ cond b a (pos 0) +ℤ coef ts x → cond c (t.1 +ℤ coef (put i a ts) x) (coef (put i a ts) x) ≡ cond b a (pos 0) +ℤ cond c (t.1 +ℤ coef ts x) (coef ts x)
    under true true h = omega (arith, ints)
    under true false h = h
    under false true h = omega (arith, ints)
    under false false h = h

    same : (b : Bool) → cond b ((a +ℤ t.1) +ℤ coef ts x) (coef ts x) ≡ cond b a (pos 0) +ℤ cond b (t.1 +ℤ coef ts x) (coef ts x)
    same true = omega (arith, ints)
    same false = omega (arith, ints)

coef-plus_terms : (ss ts : List (ℕ × ℤ)) (x : ℕ) → coef (plus_terms ss ts) x ≡ coef ss x +ℤ coef ts x
coef-plus_terms [] ts x = omega (arith, ints)
coef-plus_terms (s ∷ ss) ts x = coef-put s.0 s.1 (plus_terms ss ts) x ∙ by (nat_eq s.0 x) (coef-plus_terms ss ts x)
  where
    by : (b : Bool) → coef (plus_terms ss ts) x ≡ coef ss x +ℤ coef ts x → cond b s.1 (pos 0) +ℤ coef (plus_terms ss ts) x ≡ cond b (s.1 +ℤ coef ss x) (coef ss x) +ℤ coef ts x
    by true h = omega (arith, ints)
    by false h = omega (arith, ints)

pub coef-plus : (f g : Form) (x : ℕ) → coef (plus f g).terms x ≡ coef f.terms x +ℤ coef g.terms x
coef-plus f g x = coef-plus_terms f.terms g.terms x

coef-times_terms : (k : ℤ) (ts : List (ℕ × ℤ)) (x : ℕ) → coef (times_terms k ts) x ≡ k *ℤ coef ts x
coef-times_terms k [] x = omega (arith, ints)
coef-times_terms k (t ∷ ts) x = coef-put_front t.0 (k *ℤ t.1) (times_terms k ts) x ∙ by (nat_eq t.0 x) (coef-times_terms k ts x)
  where
    by : (b : Bool) → coef (times_terms k ts) x ≡ k *ℤ coef ts x → cond b (k *ℤ t.1 +ℤ coef (times_terms k ts) x) (coef (times_terms k ts) x) ≡ k *ℤ cond b (t.1 +ℤ coef ts x) (coef ts x)
    by true h = let d = distrib_ℤ k t.1 (coef ts x) in omega (arith, ints)
    by false h = h

pub coef-times : (k : ℤ) (f : Form) (x : ℕ) → coef (times k f).terms x ≡ k *ℤ coef f.terms x
coef-times k f x = coef-times_terms k f.terms x

-- without x the coefficient of x is 0
pub coef-without : (ts : List (ℕ × ℤ)) (x : ℕ) → coef (without ts x) x ≡ pos 0
coef-without [] x = refl
coef-without (t ∷ ts) x = by (nat_eq t.0 x) refl (coef-without ts x)
  where
    by : (b : Bool) → nat_eq t.0 x ≡ b → coef (without ts x) x ≡ pos 0 → coef (cond b (without ts x) (t ∷ without ts x)) x ≡ pos 0
    by true e h = h
    by false e h = ap (λ (b : Bool). cond b (t.1 +ℤ coef (without ts x) x) (coef (without ts x) x)) e ∙ h

pub coef-absent : (ts : List (ℕ × ℤ)) (x : ℕ) → occurs ts x ≡ false → coef ts x ≡ pos 0
coef-absent [] x e = refl
coef-absent (t ∷ ts) x e = by (nat_eq t.0 x) e (λ u. coef-absent ts x u)
  where
    by : (b : Bool) → cond b true (occurs ts x) ≡ false → (occurs ts x ≡ false → coef ts x ≡ pos 0) → cond b (t.1 +ℤ coef ts x) (coef ts x) ≡ pos 0
    by true e k = absurd (cc)
    by false e k = k e

-- ---- the values of a point

at-set_at_same : (nums : List ℤ) (x : ℕ) (z : ℤ) → at (set_at nums x z) x ≡ z
at-set_at_same [] zero z = refl
at-set_at_same [] (suc x) z = at-set_at_same [] x z
at-set_at_same (y ∷ ys) zero z = refl
at-set_at_same (y ∷ ys) (suc x) z = at-set_at_same ys x z

at-set_at_other : (nums : List ℤ) (x i : ℕ) (z : ℤ) → i ≢ x → at (set_at nums x z) i ≡ at nums i
at-set_at_other [] zero zero z n = absurd (n refl)
at-set_at_other [] zero (suc i) z n = refl
at-set_at_other [] (suc x) zero z n = refl
at-set_at_other [] (suc x) (suc i) z n = at-set_at_other [] x i z (λ e. n (ap suc e))
at-set_at_other (y ∷ ys) zero zero z n = absurd (n refl)
at-set_at_other (y ∷ ys) zero (suc i) z n = refl
at-set_at_other (y ∷ ys) (suc x) zero z n = refl
at-set_at_other (y ∷ ys) (suc x) (suc i) z n = at-set_at_other ys x i z (λ e. n (ap suc e))

at-assign_same : (p : Point) (x : ℕ) (v : Value) → at (assign p x v).nums x ≡ v.num *ℤ pos p.den
at-assign_same p x v = at-set_at_same (scale_all (pos v.den) p.nums) x (v.num *ℤ pos p.den)

at-assign_other : (p : Point) (x : ℕ) (v : Value) (i : ℕ) → i ≢ x → at (assign p x v).nums i ≡ at p.nums i *ℤ pos v.den
at-assign_other p x v i n =
    at-set_at_other (scale_all (pos v.den) p.nums) x i (v.num *ℤ pos p.den) n ∙ at-scale_all (pos v.den) p.nums i

-- ---- the value of a form

split_terms : (ts : List (ℕ × ℤ)) (x : ℕ) (nums : List ℤ) → dot_terms ts nums ≡ coef ts x *ℤ at nums x +ℤ dot_terms (without ts x) nums
split_terms [] x nums = omega (arith, ints)
split_terms (t ∷ ts) x nums = by (eqb t.0 x) refl (split_terms ts x nums)
  where
    by : (b : Bool) → eqb t.0 x ≡ b → dot_terms ts nums ≡ coef ts x *ℤ at nums x +ℤ dot_terms (without ts x) nums → dot_terms (t ∷ ts) nums ≡ cond b (t.1 +ℤ coef ts x) (coef ts x) *ℤ at nums x +ℤ dot_terms (cond b (without ts x) (t ∷ without ts x)) nums
    by true e h =
        let s : t.1 *ℤ at nums t.0 ≡ t.1 *ℤ at nums x = ap (λ (j : ℕ). t.1 *ℤ at nums j) (eqb-true t.0 x e) in
        let d = distrib_right_ℤ t.1 (coef ts x) (at nums x) in
        omega (arith, ints)
    by false e h = omega (arith, ints)

-- x's part, and the rest
pub split_dot : (f : Form) (x : ℕ) (p : Point) → dot f p ≡ coef f.terms x *ℤ at p.nums x +ℤ dot (rest_of f x) p
split_dot f x p = let s = split_terms f.terms x p.nums in omega (arith, ints)

pub dot_free : (f : Form) (x : ℕ) (p : Point) → coef f.terms x ≡ pos 0 → dot f p ≡ dot (rest_of f x) p
dot_free f x p c = let s = split_dot f x p in let z = ap (λ (k : ℤ). k *ℤ at p.nums x) c in omega (arith, ints)

rest-assign : (ts : List (ℕ × ℤ)) (p : Point) (v : Value) (x : ℕ) → dot_terms (without ts x) (assign p x v).nums ≡ dot_terms (without ts x) p.nums *ℤ pos v.den
rest-assign [] p v x = omega (arith, ints)
rest-assign (t ∷ ts) p v x = by (eqb t.0 x) refl (rest-assign ts p v x)
  where
    by : (b : Bool) → eqb t.0 x ≡ b → dot_terms (without ts x) (assign p x v).nums ≡ dot_terms (without ts x) p.nums *ℤ pos v.den → dot_terms (cond b (without ts x) (t ∷ without ts x)) (assign p x v).nums ≡ dot_terms (cond b (without ts x) (t ∷ without ts x)) p.nums *ℤ pos v.den
    by true e h = h
    by false e h =
        let a = ap (λ (z : ℤ). t.1 *ℤ z) (at-assign_other p x v t.0 (eqb-false t.0 x e)) in
        let m = mul_assoc_ℤ t.1 (at p.nums t.0) (pos v.den) in
        let d = distrib_right_ℤ (t.1 *ℤ at p.nums t.0) (dot_terms (without ts x) p.nums) (pos v.den) in
        omega (arith, ints)

pub dot-assign : (f : Form) (p : Point) (v : Value) (x : ℕ) → dot f (assign p x v) ≡ coef f.terms x *ℤ (v.num *ℤ pos p.den) +ℤ dot (rest_of f x) p *ℤ pos v.den
dot-assign f p v x =
    let s = split_dot f x (assign p x v) in
    let n = ap (λ (z : ℤ). coef f.terms x *ℤ z) (at-assign_same p x v) in
    let r = rest-assign f.terms p v x in
    let d = distrib_right_ℤ (dot_terms (without f.terms x) p.nums) (f.constant *ℤ pos p.den) (pos v.den) in
    let m = mul_assoc_ℤ f.constant (pos p.den) (pos v.den) in
    let e : f.constant *ℤ (pos p.den *ℤ pos v.den) ≡ f.constant *ℤ pos (p.den * v.den) = ap (λ (z : ℤ). f.constant *ℤ z) (let u : pos p.den *ℤ pos v.den ≡ pos (p.den * v.den) = omega (arith, ints) in u) in
    omega (arith, ints)

pub dot-assign_free : (f : Form) (p : Point) (v : Value) (x : ℕ) → coef f.terms x ≡ pos 0 → dot f (assign p x v) ≡ dot f p *ℤ pos v.den
dot-assign_free f p v x e =
    let a = dot-assign f p v x in
    let b = dot_free f x p e in
    let c = ap (λ (z : ℤ). z *ℤ (v.num *ℤ pos p.den)) e in
    let d = ap (λ (z : ℤ). z *ℤ pos v.den) b in
    omega (arith, ints)

-- ---- whole values

abbrev pub whole : ℤ → Value
whole y = record { num = y; den = 1 }

pub dot-whole : (f : Form) (e : Point) (y : ℤ) (x : ℕ) → IsPoint Int e → dot f (assign e x (whole y)) ≡ coef f.terms x *ℤ y +ℤ dot (rest_of f x) e
dot-whole f e y x i =
    let d = dot-assign f e (whole y) x in
    let o = ap (λ (z : ℤ). coef f.terms x *ℤ z) (one_times y e.den i) in
    let r : dot (rest_of f x) e *ℤ pos 1 ≡ dot (rest_of f x) e = omega (arith, ints) in
    omega (arith, ints)

-- the point's own value changes nothing
pub dot-own : (f : Form) (e : Point) (x : ℕ) → IsPoint Int e → dot f (assign e x (whole (at e.nums x))) ≡ dot f e
dot-own f e x i = dot-whole f e (at e.nums x) x i ∙ sym (split_dot f x e)

pub whole_point : (e : Point) (y : ℤ) (x : ℕ) → IsPoint Int e → (assign e x (whole y)).den ≡ 1
whole_point e y x i = omega arith

-- ---- the next variable

set_last : (xs : List ℤ) (x : ℕ) (z : ℤ) → length xs ≡ x → set_at xs x z ≡ xs ++ z ∷ []
set_last [] zero z l = refl
set_last [] (suc x) z l = absurd (omega arith)
set_last (y ∷ ys) zero z l = absurd (omega arith)
set_last (y ∷ ys) (suc x) z l = ap (λ (zs : List ℤ). y ∷ zs) (set_last ys x z (omega arith))

-- a value at the end is a value at its place
pub assign_last : (p : Point) (x : ℕ) (v : Value) → length p.nums ≡ x → assign p x v ≡ extend p v
assign_last p x v l =
    ap (λ (zs : List ℤ). let q : Point = record { den = p.den * v.den; nums = zs } in q)
    (set_last (scale_all (pos v.den) p.nums) x (v.num *ℤ pos p.den) (length-scale_all (pos v.den) p.nums ∙ l))
