-- The values of literals at a trial point, and their sizes.
use Rattle.std.specs.Prelude.{ℕ, zero, suc, ◌+◌, ◌*◌, ◌<◌, ◌≤◌, ◌≡◌, ◌^◌, ℤ, pos, negsuc, ◌-ℤ◌, ◌*ℤ◌, nat_abs, List, [], ◌∷◌, length, get_or}
use Rattle.std.proofs.Common.{arith, ap, ◌∙◌, sym, mul-le-mul}
use Rattle.std.proofs.lemmas.Int.{ints}
use Rattle.lin_term.specs.Form.{Form, AreTerms, cap}
use Rattle.lin_term.specs.declared.Lit.{Lit}
use Rattle.lin_term.specs.Linear.{Point, at, dot, dot_terms, floor_div}
use Rattle.lin_term.specs.Literal.{form_of}
use Rattle.lin_term.specs.Point.{AreWithin}
use Rattle.lin_term.specs.PutIn.{coef, rest_of}
use Rattle.lin_term.proofs.Points.{at_within, few_terms}
use Rattle.dom_core.specs.Elimination.{size_at}
use Rattle.dom_core.proofs.Assigning.{whole, dot-whole, assign_last}
use Rattle.cube_elim.specs.Determined.{lower_value, upper_value}
use Rattle.cube_elim.specs.Values.{IsTrial}
use Rattle.cube_elim.proofs.SoundCases.{dot-above_bound}
use Rattle.cube_elim.proofs.SoundPoints.{extend_whole}

times_none : (z : ℤ) → z *ℤ pos 0 ≡ pos 0
times_none z = omega (arith, ints)

trial_dot : (f : Form) (x : ℕ) (p t : Point) → IsTrial x p t → dot f t ≡ dot (rest_of f x) p
trial_dot f x p t i =
    let a = ap (λ (q : Point). dot f q) (i.trial ∙ sym (extend_whole p (pos 0) i.whole) ∙ sym (assign_last p x (whole (pos 0)) i.count)) in
    let b = dot-whole f p (pos 0) x i.whole in
    let c = times_none (coef f.terms x) in
    omega (arith, ints)

pub lower_same : (x : ℕ) (l : Lit) (k : ℕ) (p t : Point) → IsTrial x p t → floor_div (pos k -ℤ dot (form_of l) t) (size_at x l) ≡ lower_value x l k p
lower_same x l k p t i =
    ap (λ (z : ℤ). floor_div (pos k -ℤ z) (size_at x l)) (trial_dot (form_of l) x p t i)
    ∙ ap (λ (z : ℤ). floor_div z (size_at x l)) (sym (dot-above_bound x l k p i.whole))

pub upper_same : (x : ℕ) (l : Lit) (p t : Point) → IsTrial x p t → floor_div (dot (form_of l) t) (size_at x l) ≡ upper_value x l p
upper_same x l p t i = ap (λ (z : ℤ). floor_div z (size_at x l)) (trial_dot (form_of l) x p t i)

-- ---- sizes

abs_mul : (a b : ℤ) → nat_abs (a *ℤ b) ≡ nat_abs a * nat_abs b
abs_mul (pos a) (pos b) = omega (arith, ints)
abs_mul (pos a) (negsuc b) = omega (arith, ints)
abs_mul (negsuc a) (pos b) = omega (arith, ints)
abs_mul (negsuc a) (negsuc b) = omega (arith, ints)

product_small : (a b : ℤ) → nat_abs a ≤ cap → nat_abs b ≤ cap → nat_abs (a *ℤ b) ≤ 2 ^ 104
product_small a b h k = let m = mul-le-mul h k in let e = abs_mul a b in omega arith

terms_small : (n : ℕ) (ts : List (ℕ × ℤ)) (nums : List ℤ) → AreTerms n ts → AreWithin nums → nat_abs (dot_terms ts nums) ≤ length ts * 2 ^ 104
terms_small n [] nums a w = omega arith
terms_small n (t ∷ ts) nums a w =
    let p = product_small t.1 (at nums t.0) a.3 (at_within nums t.0 w) in
    let h = terms_small (t.0 + 1) ts nums a.4 w in
    omega (arith, ints)

pub dot_small : (f : Form) (p : Point) → AreTerms 0 f.terms → nat_abs f.constant ≤ cap → AreWithin p.nums → p.den ≤ cap → nat_abs (dot f p) ≤ 2 ^ 125
dot_small f p a c w d =
    let t = terms_small 0 f.terms p.nums a w in
    let few = few_terms f.terms a in
    let k = product_small f.constant (pos p.den) c d in
    omega (arith, ints)

-- the variable of a term
pub term_below : (n : ℕ) (ts : List (ℕ × ℤ)) (i : ℕ) (d : ℕ × ℤ) → i < length ts → AreTerms n ts → (get_or ts i d).0 < 2 ^ 20
term_below n [] i d h a = absurd (omega arith)
term_below n (t ∷ ts) zero d h a = a.1
term_below n (t ∷ ts) (suc i) d h a = term_below (t.0 + 1) ts i d (omega arith) a.4
