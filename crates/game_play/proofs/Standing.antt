-- The values of a play, in lowest terms, beside a point with one denominator.
use Rattle.std.specs.Prelude.{ℕ, zero, suc, ◌*◌, ◌/◌, ◌≤◌, ◌≡◌, ℤ, pos, negsuc, ◌+ℤ◌, ◌*ℤ◌, nat_abs, List, [], ◌∷◌, ◌++◌, ⊤}
use Rattle.std.proofs.Common.{arith, ap, ap₂, ◌∙◌, sym, subst, refl}
use Rattle.std.proofs.lemmas.Int.{ints}
use Rattle.lin_term.specs.declared.Sort.{Sort}
use Rattle.lin_term.specs.declared.Sort.TheVariants.{Rat, Int}
use Rattle.lin_term.specs.Linear.{Form, Point, Value, IsPoint, IsValue, at, dot_terms, dot, scale_all, extend, floor_div}
use Rattle.lin_term.specs.Literal.{gcd}
use Rattle.lin_term.specs.Fraction.{lowest_value}
use Rattle.lin_term.specs.Move.{Move, move_value}
use Rattle.lin_term.proofs.Ring.{ring, cancel_right_ℤ, nonneg_mul, pos_mul}
use Rattle.lin_term.proofs.PrimitiveLemmas.{gcd_is, floor_exact, floor_bounds, whole_div}
use Rattle.lin_term.proofs.Fractions.{value_with, divisor_some, lowest_by, lowest_some}
use Rattle.dom_core.proofs.Putting.{floor_unique}
use Rattle.game_play.specs.Worth.{whole, value_at, product_with, sum_with, sum_worth, row_worth, quotient_with, move_worth}

-- the value is n/d, and its denominator is 1 or more
abbrev pub Stands : Value → ℤ → ℕ → Type 0
Stands v n d = (v.num *ℤ pos d ≡ n *ℤ pos v.den) × (1 ≤ v.den)

reduced : (m : ℤ) (e : ℕ) (n : ℤ) (d g : ℕ) (f : ℤ) (q : ℕ) → 1 ≤ g → pos g *ℤ f ≡ m → g * q ≡ e → m *ℤ pos d ≡ n *ℤ pos e → f *ℤ pos d ≡ n *ℤ pos q
reduced m e n d g f q s a b h =
    let x : (f *ℤ pos d) *ℤ pos g ≡ (pos g *ℤ f) *ℤ pos d = simp ring in
    let y : n *ℤ (pos g *ℤ pos q) ≡ (n *ℤ pos q) *ℤ pos g = simp ring in
    cancel_right_ℤ (f *ℤ pos d) (n *ℤ pos q) (pos g) (omega (arith, ints))
    (x ∙ ap (λ (z : ℤ). z *ℤ pos d) a ∙ h ∙ ap (λ (k : ℕ). n *ℤ pos k) (sym b) ∙ y)

pub lowest_stands : (m : ℤ) (e : ℕ) (n : ℤ) (d : ℕ) → 1 ≤ e → m *ℤ pos d ≡ n *ℤ pos e → Stands (lowest_value (value_with m e)) n d
lowest_stands m e n d o h =
    let g : ℕ = gcd e (nat_abs m) in
    let k = gcd_is e (nat_abs m) in
    let s = divisor_some e (nat_abs m) o in
    subst (λ (v : Value). Stands v n d) (lowest_by m e g o refl)
    (reduced m e n d g (floor_div m g) (e / g) s (floor_exact m g s k.1) (whole_div g e s k.0) h, lowest_some m e g o refl)

some_product : (a b : ℕ) → 1 ≤ a → 1 ≤ b → 1 ≤ a * b
some_product zero b p q = absurd (omega arith)
some_product (suc a) zero p q = absurd (omega arith)
some_product (suc a) (suc b) p q = omega arith

-- ---- rows

-- the value of each variable
abbrev pub EachStands : ℕ → List ℤ → List Value → Type 0
EachStands d [] [] = ⊤
EachStands d [] (v ∷ vs) = ⊥
EachStands d (n ∷ ns) [] = ⊥
EachStands d (n ∷ ns) (v ∷ vs) = Stands v n d × EachStands d ns vs

zero_stands : (d : ℕ) → Stands (whole (pos 0)) (pos 0) d
zero_stands d = (omega (arith, ints), omega arith)

at_stands : (d : ℕ) (ns : List ℤ) (vs : List Value) (i : ℕ) → EachStands d ns vs → Stands (value_at vs i) (at ns i) d
at_stands d [] [] i h = zero_stands d
at_stands d [] (v ∷ vs) i h = absurd h
at_stands d (n ∷ ns) [] i h = absurd h
at_stands d (n ∷ ns) (v ∷ vs) zero h = h.0
at_stands d (n ∷ ns) (v ∷ vs) (suc i) h = at_stands d ns vs i h.1

product_cross : (a m n d e : ℤ) → m *ℤ d ≡ n *ℤ e → (a *ℤ m) *ℤ d ≡ (a *ℤ n) *ℤ e
product_cross a m n d e h =
    let x : (a *ℤ m) *ℤ d ≡ a *ℤ (m *ℤ d) = simp ring in
    let y : a *ℤ (n *ℤ e) ≡ (a *ℤ n) *ℤ e = simp ring in
    x ∙ ap (λ (z : ℤ). a *ℤ z) h ∙ y

product_stands : (a : ℤ) (v : Value) (n : ℤ) (d : ℕ) → Stands v n d → Stands (product_with a v) (a *ℤ n) d
product_stands a v n d h = lowest_stands (a *ℤ v.num) v.den (a *ℤ n) d h.1 (product_cross a v.num n (pos d) (pos v.den) h.0)

sum_cross : (m n k l d e f : ℤ) → m *ℤ d ≡ n *ℤ e → k *ℤ d ≡ l *ℤ f → (m *ℤ f +ℤ k *ℤ e) *ℤ d ≡ (n +ℤ l) *ℤ (e *ℤ f)
sum_cross m n k l d e f h g =
    let x : (m *ℤ f +ℤ k *ℤ e) *ℤ d ≡ (m *ℤ d) *ℤ f +ℤ (k *ℤ d) *ℤ e = simp ring in
    let y : (n *ℤ e) *ℤ f +ℤ (l *ℤ f) *ℤ e ≡ (n +ℤ l) *ℤ (e *ℤ f) = simp ring in
    x ∙ ap₂ (λ (u w : ℤ). u *ℤ f +ℤ w *ℤ e) h g ∙ y

sum_stands : (u v : Value) (n l : ℤ) (d : ℕ) → Stands u n d → Stands v l d → Stands (sum_with u v) (n +ℤ l) d
sum_stands u v n l d h g =
    lowest_stands (u.num *ℤ pos v.den +ℤ v.num *ℤ pos u.den) (u.den * v.den) (n +ℤ l) d (some_product u.den v.den h.1 g.1)
    (sum_cross u.num n v.num l (pos d) (pos u.den) (pos v.den) h.0 g.0)

terms_stand : (d : ℕ) (ns : List ℤ) (vs : List Value) (sum : Value) (n : ℤ) (ts : List (ℕ × ℤ)) → EachStands d ns vs → Stands sum n d → Stands (sum_worth vs sum ts) (dot_terms ts ns +ℤ n) d
terms_stand d ns vs sum n [] e h = subst (λ (z : ℤ). Stands sum z d) (let z : n ≡ pos 0 +ℤ n = omega (arith, ints) in z) h
terms_stand d ns vs sum n (t ∷ ts) e h =
    let p = product_with t.1 (value_at vs t.0) in
    let s = sum_stands sum p n (t.1 *ℤ at ns t.0) d h (product_stands t.1 (value_at vs t.0) (at ns t.0) d (at_stands d ns vs t.0 e)) in
    subst (λ (z : ℤ). Stands (sum_worth vs (sum_with sum p) ts) z d)
    (let z : dot_terms ts ns +ℤ (n +ℤ t.1 *ℤ at ns t.0) ≡ (t.1 *ℤ at ns t.0 +ℤ dot_terms ts ns) +ℤ n = omega (arith, ints) in z)
    (terms_stand d ns vs (sum_with sum p) (n +ℤ t.1 *ℤ at ns t.0) ts e s)

whole_stands : (c : ℤ) (d : ℕ) → Stands (whole c) (c *ℤ pos d) d
whole_stands c d = (let e : c *ℤ pos d ≡ (c *ℤ pos d) *ℤ pos 1 = omega (arith, ints) in e, omega arith)

-- the row's value is that of the form at the point
pub row_stands : (p : Point) (vs : List Value) (f : Form) → EachStands p.den p.nums vs → Stands (row_worth vs f) (dot f p) p.den
row_stands p vs f e = terms_stand p.den p.nums vs (whole f.constant) (f.constant *ℤ pos p.den) f.terms e (whole_stands f.constant p.den)

-- ---- moves

rat_cross : (m n d e k : ℤ) → m *ℤ d ≡ n *ℤ e → m *ℤ (k *ℤ d) ≡ n *ℤ (e *ℤ k)
rat_cross m n d e k h =
    let x : m *ℤ (k *ℤ d) ≡ (m *ℤ d) *ℤ k = simp ring in
    let y : (n *ℤ e) *ℤ k ≡ n *ℤ (e *ℤ k) = simp ring in
    x ∙ ap (λ (z : ℤ). z *ℤ k) h ∙ y

-- a factor of both sides leaves the quotient rounded down as it is
floor_scaled : (m n : ℤ) (e k : ℕ) → 1 ≤ e → 1 ≤ k → m ≡ n *ℤ pos e → floor_div m (e * k) ≡ floor_div n k
floor_scaled m n e k o l h =
    let b = floor_bounds n k l in
    let y : ℤ = floor_div n k in
    let low = nonneg_mul (pos e) (n +ℤ negsuc 0 *ℤ (pos k *ℤ y)) (omega (arith, ints)) (omega (arith, ints)) in
    let high = pos_mul (pos e) ((pos k *ℤ y +ℤ pos k) +ℤ negsuc 0 *ℤ n) (omega (arith, ints)) (omega (arith, ints)) in
    let u : pos e *ℤ (n +ℤ negsuc 0 *ℤ (pos k *ℤ y)) ≡ n *ℤ pos e +ℤ negsuc 0 *ℤ ((pos e *ℤ pos k) *ℤ y) = simp ring in
    let w : pos e *ℤ ((pos k *ℤ y +ℤ pos k) +ℤ negsuc 0 *ℤ n) ≡ ((pos e *ℤ pos k) *ℤ y +ℤ pos e *ℤ pos k) +ℤ negsuc 0 *ℤ (n *ℤ pos e) = simp ring in
    floor_unique m (e * k) y (some_product e k o l) (omega (arith, ints)) (omega (arith, ints))

int_cross : (m n : ℤ) (d e : ℕ) → d ≡ 1 → m *ℤ pos d ≡ n *ℤ pos e → m ≡ n *ℤ pos e
int_cross m n d e o h = let g : m *ℤ pos 1 ≡ n *ℤ pos e = subst (λ (k : ℕ). m *ℤ pos k ≡ n *ℤ pos e) o h in omega (arith, ints)

move_stands : (s : Sort) (m : Move) (p : Point) (v : Value) → IsPoint s p → 1 ≤ m.div → Stands v (dot m.numer p) p.den → Stands (quotient_with s v m.div) (move_value s m p).num (move_value s m p).den
move_stands Rat m p v i o h =
    lowest_stands v.num (v.den * m.div) (dot m.numer p) (m.div * p.den) (some_product v.den m.div h.1 o)
    (rat_cross v.num (dot m.numer p) (pos p.den) (pos v.den) (pos m.div) h.0)
move_stands Int m p v i o h =
    let y : ℤ = floor_div v.num (v.den * m.div) in
    let e : y ≡ floor_div (dot m.numer p) m.div = floor_scaled v.num (dot m.numer p) v.den m.div h.1 o (int_cross v.num (dot m.numer p) p.den v.den i h.0) in
    subst (λ (z : ℤ). Stands (lowest_value (whole y)) z 1) e (lowest_stands y 1 y 1 (omega arith) refl)

-- the value of a move is its value at the point
pub worth_stands : (s : Sort) (m : Move) (p : Point) (vs : List Value) → IsPoint s p → 1 ≤ m.div → EachStands p.den p.nums vs → Stands (move_worth s m vs) (move_value s m p).num (move_value s m p).den
worth_stands s m p vs i o e = move_stands s m p (row_worth vs m.numer) i o (row_stands p vs m.numer e)

-- ---- one more value

grow_cross : (m n d e k : ℤ) → m *ℤ d ≡ n *ℤ e → m *ℤ (d *ℤ k) ≡ (n *ℤ k) *ℤ e
grow_cross m n d e k h =
    let x : m *ℤ (d *ℤ k) ≡ (m *ℤ d) *ℤ k = simp ring in
    let y : (n *ℤ e) *ℤ k ≡ (n *ℤ k) *ℤ e = simp ring in
    x ∙ ap (λ (z : ℤ). z *ℤ k) h ∙ y

last_cross : (m n d e k : ℤ) → m *ℤ k ≡ n *ℤ e → m *ℤ (d *ℤ k) ≡ (n *ℤ d) *ℤ e
last_cross m n d e k h =
    let x : m *ℤ (d *ℤ k) ≡ (m *ℤ k) *ℤ d = simp ring in
    let y : (n *ℤ e) *ℤ d ≡ (n *ℤ d) *ℤ e = simp ring in
    x ∙ ap (λ (z : ℤ). z *ℤ d) h ∙ y

grown : (d k : ℕ) (n : ℤ) (w : Value) (ns : List ℤ) (vs : List Value) → Stands w n k → EachStands d ns vs
    → EachStands (d * k) (scale_all (pos k) ns ++ (n *ℤ pos d) ∷ []) (vs ++ w ∷ [])
grown d k n w [] [] h e = ((last_cross w.num n (pos d) (pos w.den) (pos k) h.0, h.1), tt)
grown d k n w [] (v ∷ vs) h e = absurd e
grown d k n w (m ∷ ns) [] h e = absurd e
grown d k n w (m ∷ ns) (v ∷ vs) h e = ((grow_cross v.num m (pos d) (pos v.den) (pos k) e.0.0, e.0.1), grown d k n w ns vs h e.1)

pub more_stand : (p : Point) (v w : Value) (vs : List Value) → Stands w v.num v.den → EachStands p.den p.nums vs → EachStands (extend p v).den (extend p v).nums (vs ++ w ∷ [])
more_stand p v w vs h e = grown p.den v.den v.num w p.nums vs h e

pub move_is_value : (s : Sort) (m : Move) (p : Point) → IsPoint s p → 1 ≤ m.div → IsValue s (move_value s m p)
move_is_value Rat m p i o = some_product m.div p.den o i
move_is_value Int m p i o = refl
