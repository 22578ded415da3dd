-- The period of a cube's divisibilities, and literals whose variable moves by whole periods.
use Prim.Native.Nat.{◌∣◌}
use Rattle.std.specs.Prelude.{ℕ, zero, suc, ◌*◌, ◌/◌, ◌%◌, ◌≤◌, ◌≡◌, ℤ, pos, negsuc, ◌+ℤ◌, ◌-ℤ◌, ◌*ℤ◌, ◌≤ℤ◌, neg_ℤ, nat_abs, List, [], ◌∷◌, ⊤}
use Rattle.std.specs.List.{AllByRecursion}
use Rattle.std.proofs.Common.{arith, ap, ◌∙◌, sym, subst}
use Rattle.std.proofs.lemmas.Int.{ints}
use Rattle.std.proofs.lemmas.Nat.Gcd.{dvd_trans, dvd_refl, mod-eq-zero_of_dvd}
use Rattle.std.proofs.Math.Nat.{mul-le-mul, eq-zero_of_zero-dvd, dvd_of_mod-eq-zero, mul-dvd-mul, mul-dvd-mul_left, dvd-mul_left, dvd-mul_right, dvd-mul_right_of_dvd, mul_assoc, mul_left_comm}
use Rattle.lin_term.specs.Form.{Form}
use Rattle.lin_term.specs.declared.Sort.TheVariants.{Int}
use Rattle.lin_term.specs.declared.Lit.{Lit}
use Rattle.lin_term.specs.declared.Lit.TheVariants.{AtLeast, Above, Divides, NotDivides}
use Rattle.lin_term.specs.Linear.{Point, IsPoint, dot}
use Rattle.lin_term.specs.Literal.{Holds, gcd}
use Rattle.lin_term.specs.PutIn.{coef, rest_of}
use Rattle.lin_term.proofs.Ring.{ring, mul_neg_ℤ}
use Rattle.lin_term.proofs.Dividing.{abs_product, abs_sub_divides, one_den_mod}
use Rattle.lin_term.proofs.PrimitiveLemmas.{gcd_is, whole_div}
use Rattle.dom_core.specs.Cube.{assign, IsCube}
use Rattle.dom_core.specs.Elimination.{next_delta, partial_deltas, last_of, delta}
use Rattle.dom_core.proofs.Assigning.{whole, whole_point, dot-whole}

pub gcd_pos : (a b : ℕ) → 1 ≤ a → 1 ≤ gcd a b
gcd_pos a b o = one (gcd a b) (gcd_is a b).0
  where
    one : (g : ℕ) → g ∣ a → 1 ≤ g
    one zero h = let e = eq-zero_of_zero-dvd h in absurd (omega arith)
    one (suc g) h = omega arith

pub next_facts : (n d b : ℕ) → 1 ≤ n → 1 ≤ d → (n ∣ n * ((d / gcd d b) / gcd n (d / gcd d b))) × (d ∣ b * (n * ((d / gcd d b) / gcd n (d / gcd d b)))) × (1 ≤ n * ((d / gcd d b) / gcd n (d / gcd d b)))
next_facts n d b on od =
    let g = gcd_is d b in
    let og = one d (gcd d b) od g.0 in
    let dg = whole_div (gcd d b) d og g.0 in
    let om = two (gcd d b) (d / gcd d b) (subst (λ (k : ℕ). 1 ≤ k) (sym dg) od) in
    let h = gcd_is n (d / gcd d b) in
    let oh = one n (gcd n (d / gcd d b)) on h.0 in
    let nh = whole_div (gcd n (d / gcd d b)) n oh h.0 in
    let mh = whole_div (gcd n (d / gcd d b)) (d / gcd d b) oh h.1 in
    let oq = two (gcd n (d / gcd d b)) ((d / gcd d b) / gcd n (d / gcd d b)) (subst (λ (k : ℕ). 1 ≤ k) (sym mh) om) in
    facts n d b (gcd d b) (d / gcd d b) (gcd n (d / gcd d b)) (n / gcd n (d / gcd d b)) ((d / gcd d b) / gcd n (d / gcd d b)) on oq g.1 dg nh mh
  where
    one : (d g : ℕ) → 1 ≤ d → g ∣ d → 1 ≤ g
    one d zero o h = let e = eq-zero_of_zero-dvd h in absurd (omega arith)
    one d (suc g) o h = omega arith

    two : (g q : ℕ) → 1 ≤ g * q → 1 ≤ q
    two g zero h = absurd (omega arith)
    two g (suc q) h = omega arith

    facts : (n d b g m h n' q : ℕ) → 1 ≤ n → 1 ≤ q → g ∣ b → g * m ≡ d → h * n' ≡ n → h * q ≡ m → (n ∣ n * q) × (d ∣ b * (n * q)) × (1 ≤ n * q)
    facts n d b g m h n' q on oq gb gm hn hq =
        let e : n' * m ≡ n * q = ap (λ (k : ℕ). n' * k) (sym hq) ∙ move h n' q ∙ ap (λ (k : ℕ). k * q) hn in
        let f : m ∣ n * q = subst (λ (k : ℕ). m ∣ k) e (dvd-mul_left m n') in
        (dvd-mul_right n q, subst (λ (k : ℕ). k ∣ b * (n * q)) gm (mul-dvd-mul g m gb f), mul-le-mul on oq)
      where
        move : (h n' q : ℕ) → n' * (h * q) ≡ (h * n') * q
        move h n' q = mul_left_comm n' h q ∙ sym (mul_assoc h n' q)

abs_mul : (a b : ℤ) → nat_abs (a *ℤ b) ≡ nat_abs a * nat_abs b
abs_mul (pos a) b = abs_product a b
abs_mul (negsuc a) (pos zero) = omega (arith, ints)
abs_mul (negsuc a) (pos (suc b)) = omega (arith, ints)
abs_mul (negsuc a) (negsuc b) = omega (arith, ints)

-- each divisibility comes again after n
abbrev pub Period : ℕ → ℕ → Lit → Type 0
Period n x (AtLeast f) = ⊤
Period n x (Above f) = ⊤
Period n x (Divides d f) = d ∣ (nat_abs (coef f.terms x) * n)
Period n x (NotDivides d f) = d ∣ (nat_abs (coef f.terms x) * n)

last_facts : (n : ℕ) (c : List Lit) (x : ℕ) → 1 ≤ n → IsCube Int c → (n ∣ last_of n (partial_deltas n c x)) × (1 ≤ last_of n (partial_deltas n c x)) × AllByRecursion (Period (last_of n (partial_deltas n c x)) x) c
last_facts n [] x o k = (dvd_refl n, o, tt)
last_facts n (AtLeast f ∷ c) x o k = let r = last_facts n c x o k.1 in (r.0, r.1, (tt, r.2))
last_facts n (Above f ∷ c) x o k = absurd k.0
last_facts n (Divides d f ∷ c) x o k =
    let s = next_facts n d (nat_abs (coef f.terms x)) o k.0 in
    let r = last_facts (next_delta n d (coef f.terms x)) c x s.2 k.1 in
    (dvd_trans n s.0 r.0, r.1, (dvd_trans d s.1 (mul-dvd-mul_left (next_delta n d (coef f.terms x)) (nat_abs (coef f.terms x)) r.0), r.2))
last_facts n (NotDivides d f ∷ c) x o k =
    let s = next_facts n d (nat_abs (coef f.terms x)) o k.0 in
    let r = last_facts (next_delta n d (coef f.terms x)) c x s.2 k.1 in
    (dvd_trans n s.0 r.0, r.1, (dvd_trans d s.1 (mul-dvd-mul_left (next_delta n d (coef f.terms x)) (nat_abs (coef f.terms x)) r.0), r.2))

-- delta is a period, and 1 or more
pub delta_period : (c : List Lit) (x : ℕ) → IsCube Int c → (1 ≤ delta c x) × AllByRecursion (Period (delta c x) x) c
delta_period c x k = let r = last_facts 1 c x (omega arith) k in (r.1, r.2)

-- ---- a literal whose variable moves by whole periods

divides_moved : (d n : ℕ) (c r y z q : ℤ) → d ∣ (nat_abs c * n) → y ≡ z +ℤ pos n *ℤ q → nat_abs (c *ℤ y +ℤ r) % d ≡ 0 → nat_abs (c *ℤ z +ℤ r) % d ≡ 0
divides_moved d n c r y z q p e h =
    let w : d ∣ nat_abs ((c *ℤ pos n) *ℤ q) = subst (λ (k : ℕ). d ∣ k) (sym (abs_mul (c *ℤ pos n) q ∙ ap (λ (k : ℕ). k * nat_abs q) (abs_mul c (pos n)))) (dvd-mul_right_of_dvd d p (nat_abs q)) in
    let u = abs_sub_divides d (c *ℤ y +ℤ r) ((c *ℤ pos n) *ℤ q) (dvd_of_mod-eq-zero d h) w in
    mod-eq-zero_of_dvd d (subst (λ (k : ℤ). d ∣ nat_abs k) (ap (λ (k : ℤ). (c *ℤ k +ℤ r) -ℤ (c *ℤ pos n) *ℤ q) e ∙ same c (pos n) r z q) u)
  where
    same : (c n r z q : ℤ) → (c *ℤ (z +ℤ n *ℤ q) +ℤ r) -ℤ (c *ℤ n) *ℤ q ≡ c *ℤ z +ℤ r
    same c n r z q = simp ring (omega (arith, ints))

back : (n : ℕ) (y z q : ℤ) → y ≡ z +ℤ pos n *ℤ q → z ≡ y +ℤ pos n *ℤ neg_ℤ q
back n y z q e = let m = mul_neg_ℤ (pos n) q in omega (arith, ints)

-- an inequality holds with the value z
abbrev pub Bounded : ℕ → ℤ → Point → Lit → Type 0
Bounded x z e (AtLeast f) = pos 0 ≤ℤ (coef f.terms x *ℤ z +ℤ dot (rest_of f x) e)
Bounded x z e (Above f) = ⊥
Bounded x z e (Divides d f) = ⊤
Bounded x z e (NotDivides d f) = ⊤

mod_whole : (d : ℕ) (f : Form) (e : Point) (y : ℤ) (x : ℕ) → IsPoint Int e → nat_abs (dot f (assign e x (whole y))) % (d * (assign e x (whole y)).den) ≡ nat_abs (coef f.terms x *ℤ y +ℤ dot (rest_of f x) e) % d
mod_whole d f e y x i =
    one_den_mod (dot f (assign e x (whole y))) d (assign e x (whole y)).den (whole_point e y x i) ∙ ap (λ (z : ℤ). nat_abs z % d) (dot-whole f e y x i)

pub lit_moved : (x n : ℕ) (y z q : ℤ) (e : Point) (l : Lit) → IsPoint Int e → y ≡ z +ℤ pos n *ℤ q → Period n x l → Holds l (assign e x (whole y)) → Bounded x z e l → Holds l (assign e x (whole z))
lit_moved x n y z q e (AtLeast f) i eq p s k = subst (λ (w : ℤ). pos 0 ≤ℤ w) (sym (dot-whole f e z x i)) k
lit_moved x n y z q e (Above f) i eq p s k = absurd k
lit_moved x n y z q e (Divides d f) i eq p s k =
    mod_whole d f e z x i ∙ divides_moved d n (coef f.terms x) (dot (rest_of f x) e) y z q p eq (sym (mod_whole d f e y x i) ∙ s)
lit_moved x n y z q e (NotDivides d f) i eq p s k =
    λ h. s (mod_whole d f e y x i ∙ divides_moved d n (coef f.terms x) (dot (rest_of f x) e) z y (neg_ℤ q) p (back n y z q eq) (sym (mod_whole d f e z x i) ∙ h))
