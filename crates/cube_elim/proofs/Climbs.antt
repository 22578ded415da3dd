-- One more value over the least common denominator, and the first of its numbers that is past the cap.
use Rattle.std.specs.Prelude.{ℕ, ◌*◌, ◌/◌, ◌<◌, ◌≤◌, ◌≡◌, ℤ, pos, ◌*ℤ◌, nat_abs, Some, None, Ok, Err, List, [], ◌∷◌, ◌++◌, map, length, get_or, drop, ◌+◌}
use Rattle.std.proofs.lemmas.List.{drop_all}
use Rattle.dom_core.proofs.AddingLemmas.{append_none, split_at, added, past_more, past_here}
use Rattle.std.proofs.Common.{arith, ap, ap₂, ◌∙◌, sym, subst, refl}
use Rattle.std.proofs.Math.Nat.{mul-div_cancel_left}
use Rattle.lin_term.specs.Form.{cap}
use Rattle.lin_term.specs.declared.Short.{Short}
use Rattle.lin_term.specs.declared.Short.TheVariants as short
use Rattle.lin_term.specs.declared.Wide.{Wide}
use Rattle.lin_term.specs.Linear.{Point, Value}
use Rattle.lin_term.specs.Literal.{gcd}
use Rattle.lin_term.specs.Point.{AreWithin}
use Rattle.lin_term.specs.Wide.{first_past, Capped}
use Rattle.lin_term.proofs.Capping.{past-append, past-append_some, past-within, past-past, past-head, past-tail}
use Rattle.lin_term.proofs.Fractions.{divisor_some}
use Rattle.lin_term.proofs.PrimitiveLemmas.{gcd_is, whole_div}
use Rattle.cube_elim.proofs.RatSound.{den_some}
use Rattle.cube_elim.specs.Climbing.{AddsNumber, AddsNumbers}
use Rattle.cube_elim.specs.Determined.{with_value}

abbrev point_of : ℕ → List ℤ → Point
point_of d zs = record { den = d; nums = zs }

same : (d w g a b : ℕ) → g * a ≡ d → g * b ≡ w → d * b ≡ w * a
same d w g a b p q = ap (λ (k : ℕ). k * b) (sym p) ∙ (let u : (g * a) * b ≡ (g * b) * a = omega arith in u) ∙ ap (λ (k : ℕ). k * a) q

-- what the numbers are multiplied by
pub with_value_is : (p : Point) (v : Value) (g : ℕ) → 1 ≤ p.den → 1 ≤ v.den → g ≡ gcd p.den v.den → with_value p v ≡ point_of (p.den * (v.den / g)) (map (λ z. z *ℤ pos (v.den / g)) p.nums ++ (v.num *ℤ pos (p.den / g)) ∷ [])
with_value_is p v g op ov e =
    subst (λ (k : ℕ). with_value p v ≡ point_of (p.den * (v.den / k)) (map (λ z. z *ℤ pos (v.den / k)) p.nums ++ (v.num *ℤ pos (p.den / k)) ∷ [])) (sym e) own
  where
    own : let h = gcd p.den v.den in with_value p v ≡ point_of (p.den * (v.den / h)) (map (λ z. z *ℤ pos (v.den / h)) p.nums ++ (v.num *ℤ pos (p.den / h)) ∷ [])
    own =
        let h : ℕ = gcd p.den v.den in
        let o = divisor_some p.den v.den op in
        let i = gcd_is p.den v.den in
        let a : ℕ = p.den / h in
        let b : ℕ = v.den / h in
        let first : (p.den * b) / p.den ≡ b = mul-div_cancel_left b {n = p.den} (omega arith) in
        let last : (p.den * b) / v.den ≡ a = ap (λ (k : ℕ). k / v.den) (same p.den v.den h a b (whole_div h p.den o i.0) (whole_div h v.den o i.1)) ∙ mul-div_cancel_left a {n = v.den} (omega arith) in
        ap₂ (λ (m k : ℕ). point_of (p.den * b) (map (λ z. z *ℤ pos m) p.nums ++ (v.num *ℤ pos k) ∷ [])) first last

-- ---- the numbers in their order

pub den_past : (p : Point) (v : Value) (q : Point) (d : ℤ) → with_value p v ≡ q → pos q.den ≡ d → cap < nat_abs d → let w = with_value p v in first_past (pos w.den ∷ w.nums) ≡ Some d
den_past p v q d e f h =
    ap (λ (y : Point). first_past (pos y.den ∷ y.nums)) e ∙ ap (λ (z : ℤ). first_past (z ∷ q.nums)) f ∙ past-past d q.nums h

pub nums_past : (p : Point) (v : Value) (q : Point) (fault : Short Wide) → with_value p v ≡ q → q.den ≤ cap → Capped {A = List ℤ} q.nums q.nums (Err fault) → let w = with_value p v in Capped {A = Point} (pos w.den ∷ w.nums) w (Err fault)
nums_past p v q (short.Fault w) e h f =
    ap (λ (y : Point). first_past (pos y.den ∷ y.nums)) e ∙ past-within (pos q.den) q.nums h ∙ f
nums_past p v q short.Memory e h f = tt

pub point_made : (p : Point) (v : Value) (q r : Point) → with_value p v ≡ q → q.den ≤ cap → first_past q.nums ≡ None → r ≡ q → let w = with_value p v in Capped {A = Point} (pos w.den ∷ w.nums) w (Ok r)
point_made p v q r e h f g =
    (ap (λ (y : Point). first_past (pos y.den ∷ y.nums)) e ∙ past-within (pos q.den) q.nums h ∙ f, g ∙ sym e)

-- where none is past the cap, all are within it
pub all_fit : (zs : List ℤ) → first_past zs ≡ None → AreWithin zs
all_fit [] e = tt
all_fit (z ∷ zs) e = (past-head z zs e, all_fit zs (past-tail z zs e))

abbrev joined_nums : Point → Value → ℕ → ℕ → List ℤ
joined_nums p v f o = map (λ z. z *ℤ pos f) p.nums ++ (v.num *ℤ pos o) ∷ []

joined_is : (p : Point) (v : Value) (g f o d : ℕ) → 1 ≤ p.den → 1 ≤ v.den → g ≡ gcd p.den v.den → f ≡ v.den / g → o ≡ p.den / g → d ≡ p.den * f → with_value p v ≡ point_of d (joined_nums p v f o)
joined_is p v g f o d op ov eg ef eo ed =
    with_value_is p v g op ov eg
    ∙ ap₂ (λ (m k : ℕ). point_of (p.den * m) (joined_nums p v m k)) (sym ef) (sym eo)
    ∙ ap (λ (m : ℕ). point_of m (joined_nums p v f o)) (sym ed)

pub joined : (p : Point) (v : Value) (g f o d : ℕ) (nums : List ℤ) (r : Point) → 1 ≤ p.den → 1 ≤ v.den → g ≡ gcd p.den v.den → f ≡ v.den / g → o ≡ p.den / g → d ≡ p.den * f → d ≤ cap → (first_past (map (λ z. z *ℤ pos f) p.nums ++ (v.num *ℤ pos o) ∷ []) ≡ None) × (nums ≡ map (λ z. z *ℤ pos f) p.nums ++ (v.num *ℤ pos o) ∷ []) → r ≡ record { den = d; nums = nums } → let w = with_value p v in Capped {A = Point} (pos w.den ∷ w.nums) w (Ok r)
joined p v g f o d nums r op ov eg ef eo ed h n e =
    point_made p v (point_of d (joined_nums p v f o)) r (joined_is p v g f o d op ov eg ef eo ed) h n.0 (e ∙ ap (point_of d) n.1)

pub joined_refused : (p : Point) (v : Value) (g f o d : ℕ) (fault : Short Wide) → 1 ≤ p.den → 1 ≤ v.den → g ≡ gcd p.den v.den → f ≡ v.den / g → o ≡ p.den / g → d ≡ p.den * f → d ≤ cap → Capped {A = List ℤ} (map (λ z. z *ℤ pos f) p.nums ++ (v.num *ℤ pos o) ∷ []) (map (λ z. z *ℤ pos f) p.nums ++ (v.num *ℤ pos o) ∷ []) (Err fault) → let w = with_value p v in Capped {A = Point} (pos w.den ∷ w.nums) w (Err fault)
joined_refused p v g f o d fault op ov eg ef eo ed h n =
    nums_past p v (point_of d (joined_nums p v f o)) fault (joined_is p v g f o d op ov eg ef eo ed) h n

pub joined_past : (p : Point) (v : Value) (g f o d : ℕ) → 1 ≤ p.den → 1 ≤ v.den → g ≡ gcd p.den v.den → f ≡ v.den / g → o ≡ p.den / g → d ≡ p.den * f → cap < d → let w = with_value p v in first_past (pos w.den ∷ w.nums) ≡ Some (pos d)
joined_past p v g f o d op ov eg ef eo ed h =
    den_past p v (point_of d (joined_nums p v f o)) (pos d) (joined_is p v g f o d op ov eg ef eo ed) refl h

pub part_some : (p : Point) (v : Value) (g f d : ℕ) → 1 ≤ p.den → 1 ≤ v.den → g ≡ gcd p.den v.den → f ≡ v.den / g → d ≡ p.den * f → 1 ≤ d
part_some p v g f d op ov eg ef ed =
    subst (λ (n : ℕ). 1 ≤ n) (sym (ed ∙ ap (λ (k : ℕ). p.den * k) (ef ∙ ap (λ (k : ℕ). v.den / k) eg))) (den_some p.den v.den op ov)

pub divisor_least : (p : Point) (v : Value) (g : ℕ) → 1 ≤ p.den → g ≡ gcd p.den v.den → 1 ≤ g
divisor_least p v g op e = subst (λ (n : ℕ). 1 ≤ n) (sym e) (divisor_some p.den v.den op)

-- numbers that are added, and one behind them
pub both_added : (none one two zs : List ℤ) (z : ℤ) → none ≡ [] → (first_past zs ≡ None) × (one ≡ none ++ zs) → (first_past (z ∷ []) ≡ None) × (two ≡ one ++ z ∷ []) → (first_past (zs ++ z ∷ []) ≡ None) × (two ≡ zs ++ z ∷ [])
both_added none one two zs z e a b = (past-append zs (z ∷ []) a.0 ∙ b.0, b.1 ∙ ap (λ (ys : List ℤ). ys ++ z ∷ []) (a.1 ∙ ap (λ (ys : List ℤ). ys ++ zs) e))

pub first_refused : (zs all : List ℤ) (z : ℤ) (fault : Short Wide) (old new : List ℤ) → AddsNumbers old new zs (Err fault) → Capped {A = List ℤ} (zs ++ z ∷ []) all (Err fault)
first_refused zs all z (short.Fault w) old new a = past-append_some zs (z ∷ []) w.number a
first_refused zs all z short.Memory old new a = tt

pub last_refused : (zs all : List ℤ) (z : ℤ) (fault : Short Wide) (old new : List ℤ) → first_past zs ≡ None → AddsNumber old new z (Err fault) → Capped {A = List ℤ} (zs ++ z ∷ []) all (Err fault)
last_refused zs all z (short.Fault w) old new n a = past-append zs (z ∷ []) n ∙ a
last_refused zs all z short.Memory old new n a = tt

-- one more number of those that are multiplied
pub scaled_more : (f : ℤ) (out new old : List ℤ) (nums : List ℤ) (k : ℕ) (n : ℤ) → k < length nums → n ≡ get_or nums k n → (first_past ((n *ℤ f) ∷ []) ≡ None) × (new ≡ out ++ (n *ℤ f) ∷ []) → out ++ map (λ z. z *ℤ f) (drop k nums) ≡ old ++ map (λ z. z *ℤ f) nums → first_past (map (λ z. z *ℤ f) (drop k nums)) ≡ first_past (map (λ z. z *ℤ f) nums) → (new ++ map (λ z. z *ℤ f) (drop (k + 1) nums) ≡ old ++ map (λ z. z *ℤ f) nums) × (first_past (map (λ z. z *ℤ f) (drop (k + 1) nums)) ≡ first_past (map (λ z. z *ℤ f) nums))
scaled_more f out new old nums k n h e a s p =
    let q : map (λ z. z *ℤ f) (drop k nums) ≡ (n *ℤ f) ∷ map (λ z. z *ℤ f) (drop (k + 1) nums) = ap (map (λ z. z *ℤ f)) (split_at nums k n h e) in (
      added out (old ++ map (λ z. z *ℤ f) nums) (map (λ z. z *ℤ f) (drop (k + 1) nums)) new (n *ℤ f) (ap (λ (ys : List ℤ). out ++ ys) (sym q) ∙ s) a.1,
      past_more ((n *ℤ f) ∷ []) (map (λ z. z *ℤ f) (drop (k + 1) nums)) (map (λ z. z *ℤ f) nums) a.0 (ap first_past (sym q) ∙ p),
    )

pub scaled_refused : (f : ℤ) (out new old end : List ℤ) (nums : List ℤ) (k : ℕ) (n : ℤ) (fault : Short Wide) → k < length nums → n ≡ get_or nums k n → AddsNumber out new (n *ℤ f) (Err fault) → first_past (map (λ z. z *ℤ f) (drop k nums)) ≡ first_past (map (λ z. z *ℤ f) nums) → AddsNumbers old end (map (λ z. z *ℤ f) nums) (Err fault)
scaled_refused f out new old end nums k n (short.Fault w) h e a p =
    let q : map (λ z. z *ℤ f) (drop k nums) ≡ (n *ℤ f) ∷ map (λ z. z *ℤ f) (drop (k + 1) nums) = ap (map (λ z. z *ℤ f)) (split_at nums k n h e) in
    past_here ((n *ℤ f) ∷ []) (map (λ z. z *ℤ f) (drop (k + 1) nums)) (map (λ z. z *ℤ f) nums) w.number a (ap first_past (sym q) ∙ p)
scaled_refused f out new old end nums k n short.Memory h e a p = tt

pub scaled_done : (f : ℤ) (out old nums : List ℤ) (k : ℕ) → length nums ≤ k → out ++ map (λ z. z *ℤ f) (drop k nums) ≡ old ++ map (λ z. z *ℤ f) nums → first_past (map (λ z. z *ℤ f) (drop k nums)) ≡ first_past (map (λ z. z *ℤ f) nums) → AddsNumbers old out (map (λ z. z *ℤ f) nums) (Ok tt)
scaled_done f out old nums k h s p =
    let z : map (λ z. z *ℤ f) (drop k nums) ≡ [] = ap (map (λ z. z *ℤ f)) (drop_all k nums h) in
    (sym p ∙ ap first_past z, sym (append_none out) ∙ ap (λ (ys : List ℤ). out ++ ys) (sym z) ∙ s)
