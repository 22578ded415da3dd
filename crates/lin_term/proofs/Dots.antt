-- The value of a form that is made of others.
use Rattle.std.specs.Prelude.{ℕ, zero, suc, ◌+◌, ◌<◌, ◌≡◌, ℤ, pos, negsuc, ◌+ℤ◌, ◌*ℤ◌, List, [], ◌∷◌, length, get_or, ltb, cond}
use Rattle.std.proofs.Common.{arith, ap, ◌∙◌, refl, ltb-false, length-append}
use Rattle.std.proofs.lemmas.Int.{ints}
use Rattle.std.proofs.lemmas.Bool.{cond_both}
use Rattle.std.proofs.lemmas.List.{get_or_append_left, get_or_push}
use lib.IntN.{*ℤ_comm}
use Rattle.lin_term.specs.Linear.{Form, Point, Value, at, dot_terms, dot, put_front, put, plus_terms, plus, times_terms, times, constant_form, variable_form, BelowTerms, Below, rename_terms, rename, scale_all, extend}
use Rattle.lin_term.proofs.Ring.{distrib_ℤ, distrib_right_ℤ, mul_assoc_ℤ}

pub dot-put_front : (i : ℕ) (a : ℤ) (ts : List (ℕ × ℤ)) (nums : List ℤ) → dot_terms (put_front i a ts) nums ≡ a *ℤ at nums i +ℤ dot_terms ts nums
dot-put_front i (pos zero) ts nums = omega (arith, ints)
dot-put_front i (pos (suc n)) ts nums = refl
dot-put_front i (negsuc n) ts nums = refl

-- the third case of `put`, where the variable is there
put_same : (i : ℕ) (a : ℤ) (t : ℕ × ℤ) (ts : List (ℕ × ℤ)) (nums : List ℤ) → i ≡ t.0 → dot_terms (put_front i (a +ℤ t.1) ts) nums ≡ a *ℤ at nums i +ℤ dot_terms (t ∷ ts) nums
put_same i a t ts nums e =
    let h = dot-put_front i (a +ℤ t.1) ts nums in
    let d = distrib_right_ℤ a t.1 (at nums i) in
    let s : t.1 *ℤ at nums i ≡ t.1 *ℤ at nums t.0 = ap (λ (j : ℕ). t.1 *ℤ at nums j) e in
    omega (arith, ints)

pub dot-put : (i : ℕ) (a : ℤ) (ts : List (ℕ × ℤ)) (nums : List ℤ) → dot_terms (put i a ts) nums ≡ a *ℤ at nums i +ℤ dot_terms ts nums
dot-put i a [] nums = dot-put_front i a [] nums
dot-put i a (t ∷ ts) nums =
    let P : List (ℕ × ℤ) → Type 0 = λ us. dot_terms us nums ≡ a *ℤ at nums i +ℤ dot_terms (t ∷ ts) nums in
    cond_both (ltb i t.0) (put_front i a (t ∷ ts)) (cond (ltb t.0 i) (t ∷ put i a ts) (put_front i (a +ℤ t.1) ts)) P
    (λ e. dot-put_front i a (t ∷ ts) nums)
    (λ e. cond_both (ltb t.0 i) (t ∷ put i a ts) (put_front i (a +ℤ t.1) ts) P
    (λ f. let h = dot-put i a ts nums in omega (arith, ints))
    (λ f. put_same i a t ts nums (omega (arith, ltb-false i t.0 e, ltb-false t.0 i f))))

pub dot-plus_terms : (ss ts : List (ℕ × ℤ)) (nums : List ℤ) → dot_terms (plus_terms ss ts) nums ≡ dot_terms ss nums +ℤ dot_terms ts nums
dot-plus_terms [] ts nums = omega (arith, ints)
dot-plus_terms (s ∷ ss) ts nums =
    let h = dot-plus_terms ss ts nums in let k = dot-put s.0 s.1 (plus_terms ss ts) nums in omega (arith, ints)

pub dot-plus : (f g : Form) (p : Point) → dot (plus f g) p ≡ dot f p +ℤ dot g p
dot-plus f g p =
    let h = dot-plus_terms f.terms g.terms p.nums in
    let d = distrib_right_ℤ f.constant g.constant (pos p.den) in
    omega (arith, ints)

pub dot-times_terms : (k : ℤ) (ts : List (ℕ × ℤ)) (nums : List ℤ) → dot_terms (times_terms k ts) nums ≡ k *ℤ dot_terms ts nums
dot-times_terms k [] nums = omega (arith, ints)
dot-times_terms k (t ∷ ts) nums =
    let h = dot-times_terms k ts nums in
    let f = dot-put_front t.0 (k *ℤ t.1) (times_terms k ts) nums in
    let d = distrib_ℤ k (t.1 *ℤ at nums t.0) (dot_terms ts nums) in
    let a = mul_assoc_ℤ k t.1 (at nums t.0) in
    omega (arith, ints)

pub dot-times : (k : ℤ) (f : Form) (p : Point) → dot (times k f) p ≡ k *ℤ dot f p
dot-times k f p =
    let h = dot-times_terms k f.terms p.nums in
    let d = distrib_ℤ k (dot_terms f.terms p.nums) (f.constant *ℤ pos p.den) in
    let a = mul_assoc_ℤ k f.constant (pos p.den) in
    omega (arith, ints)

pub dot-constant_form : (c : ℤ) (p : Point) → dot (constant_form c) p ≡ c *ℤ pos p.den
dot-constant_form c p = omega (arith, ints)

pub dot-variable_form : (k : ℤ) (i : ℕ) (p : Point) → dot (variable_form k i) p ≡ k *ℤ at p.nums i
dot-variable_form k i p = let h = dot-put_front i k [] p.nums in omega (arith, ints)

-- ---- a form read at other variables

-- the variables below n have at e the values that the names have at p
pub record Agree (names : List ℕ) (e p : Point) : Type 0 where
  pub same : (i : ℕ) → i < length names → at e.nums i *ℤ pos p.den ≡ at p.nums (get_or names i 0) *ℤ pos e.den

pub dot-rename_terms : (names : List ℕ) (e p : Point) → Agree names e p → (ts : List (ℕ × ℤ)) → BelowTerms (length names) ts → dot_terms ts e.nums *ℤ pos p.den ≡ dot_terms (rename_terms names ts) p.nums *ℤ pos e.den
dot-rename_terms names e p a [] b = omega (arith, ints)
dot-rename_terms names e p a (t ∷ ts) b =
    let h = dot-rename_terms names e p a ts b.1 in
    let s = ap (λ (x : ℤ). t.1 *ℤ x) (a.same t.0 b.0) in
    let d = distrib_right_ℤ (t.1 *ℤ at e.nums t.0) (dot_terms ts e.nums) (pos p.den) in
    let d' = distrib_right_ℤ (t.1 *ℤ at p.nums (get_or names t.0 0)) (dot_terms (rename_terms names ts) p.nums) (pos e.den) in
    let m = mul_assoc_ℤ t.1 (at e.nums t.0) (pos p.den) in
    let m' = mul_assoc_ℤ t.1 (at p.nums (get_or names t.0 0)) (pos e.den) in
    omega (arith, ints)

pub dot-rename : (names : List ℕ) (e p : Point) → Agree names e p → (f : Form) → Below (length names) f → dot f e *ℤ pos p.den ≡ dot (rename names f) p *ℤ pos e.den
dot-rename names e p a f b =
    let h = dot-rename_terms names e p a f.terms b in
    let d = distrib_right_ℤ (dot_terms f.terms e.nums) (f.constant *ℤ pos e.den) (pos p.den) in
    let d' = distrib_right_ℤ (dot_terms (rename_terms names f.terms) p.nums) (f.constant *ℤ pos p.den) (pos e.den) in
    let m = mul_assoc_ℤ f.constant (pos e.den) (pos p.den) in
    let m' = mul_assoc_ℤ f.constant (pos p.den) (pos e.den) in
    let c = ap (λ (x : ℤ). f.constant *ℤ x) (*ℤ_comm (pos e.den) (pos p.den)) in
    omega (arith, ints)

-- ---- one more value

pub length-scale_all : (k : ℤ) (xs : List ℤ) → length (scale_all k xs) ≡ length xs
length-scale_all k [] = refl
length-scale_all k (x ∷ xs) = ap suc (length-scale_all k xs)

pub at-scale_all : (k : ℤ) (xs : List ℤ) (i : ℕ) → at (scale_all k xs) i ≡ at xs i *ℤ k
at-scale_all k [] i = omega (arith, ints)
at-scale_all k (x ∷ xs) zero = refl
at-scale_all k (x ∷ xs) (suc i) = at-scale_all k xs i

pub length-extend : (p : Point) (v : Value) → length (extend p v).nums ≡ length p.nums + 1
length-extend p v =
    length-append (scale_all (pos v.den) p.nums) ((v.num *ℤ pos p.den) ∷ []) ∙ ap (λ (n : ℕ). n + 1) (length-scale_all (pos v.den) p.nums)

pub at-extend_old : (p : Point) (v : Value) (i : ℕ) → i < length p.nums → at (extend p v).nums i ≡ at p.nums i *ℤ pos v.den
at-extend_old p v i h =
    get_or_append_left (scale_all (pos v.den) p.nums) ((v.num *ℤ pos p.den) ∷ []) (pos 0) i (omega (arith, length-scale_all (pos v.den) p.nums)) ∙ at-scale_all (pos v.den) p.nums i

pub at-extend_new : (p : Point) (v : Value) → at (extend p v).nums (length p.nums) ≡ v.num *ℤ pos p.den
at-extend_new p v =
    get_or_push (scale_all (pos v.den) p.nums) (v.num *ℤ pos p.den) (pos 0) (length p.nums) (length-scale_all (pos v.den) p.nums)
