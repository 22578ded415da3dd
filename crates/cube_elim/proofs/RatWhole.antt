-- A cube over the rationals as a store, and how its search ends.
use Rattle.std.specs.Prelude.{ℕ, zero, suc, ◌+◌, ◌-◌, ◌≤◌, ◌≡◌, ℤ, pos, Bool, true, false, None, Result, Ok, Err, IfOk, List, [], ◌∷◌, ◌++◌, length, take, filter}
use Rattle.std.specs.List.{AllByRecursion}
use Rattle.lin_term.specs.declared.Memory.{Memory}
use Rattle.lin_term.specs.declared.Short.{Short}
use Rattle.lin_term.specs.declared.Short.TheVariants as short
use Rattle.lin_term.specs.declared.Wide.{Wide as a_number}
use Rattle.lin_term.specs.Truth.{truth_of}
use Rattle.lin_term.specs.Wide.{first_past, Capped}
use Rattle.std.specs.List.{range_with_len}
use Rattle.std.proofs.Common.{arith, ap, ap₂, ◌∙◌, sym, subst, refl}
use Rattle.lin_term.specs.declared.Sort.TheVariants.{Rat}
use Rattle.lin_term.specs.declared.Lit.{Lit}
use Rattle.lin_term.specs.Linear.{Point, Below, origin}
use Rattle.lin_term.specs.Literal.{form_of}
use Rattle.lin_term.specs.Point.{IsKeptPoint}
use Rattle.dom_core.specs.Cube.{IsCube, IsPrimitiveCube}
use Rattle.dom_core.specs.Elimination.{is_lower, is_upper, fourier_motzkin, elimination_numbers}
use Rattle.dom_core.specs.Reduced.{AreBelow, AreRows, IsReduced}
use Rattle.dom_core.proofs.Cases.{each_filter}
use Rattle.dom_core.proofs.Reducing.{eliminated_reduced, below_less}
use Rattle.cube_rules.specs.Lines.{is_false}
use Rattle.cube_elim.specs.Between.{bounded_values, numbers_of}
use Rattle.cube_elim.specs.Determined.{height, whole, last_value, with_value, Determined, WideBelow}
use Rattle.cube_elim.specs.Summed.{TakesOut}
use Rattle.cube_elim.specs.Reaching.{IsPointWith, IsPastCap, Keeps, Reaches}
use Rattle.cube_elim.specs.declared.descent.Reached.{Reached}
use Rattle.cube_elim.specs.declared.descent.Reached.TheVariants as reached
use Rattle.cube_elim.specs.Deciding.{IsSolution}
use Rattle.cube_elim.specs.Searching.{IsDetermined}
use Rattle.cube_elim.specs.Values.{with_zeros}
use Rattle.cube_elim.specs.declared.store.Pair.{Pair}
use Rattle.cube_elim.specs.declared.store.Store.{Store}
use Rattle.cube_elim.specs.Stored.{lits_of, AreIn, IsStore, IsKept, IsLonger}
use Rattle.cube_elim.specs.Parted.{IsParted}
use Rattle.cube_elim.specs.declared.parts.Parts.{Parts}
use Rattle.cube_elim.proofs.Storing.{row_in, added_lits, longer_none, kept_none, kept_both, longer_both, lits_longer, in_longer}
use Rattle.cube_elim.proofs.Adding.{parted_lower, parted_upper}
use Rattle.cube_elim.proofs.Descending.{padded_point, padded_wide, wide_now, wide_up, risen_point, risen_wide}
use Rattle.cube_elim.proofs.Heights.{below_height, height_least}
use Rattle.cube_elim.proofs.Leaves.{leaf_ends}
use Rattle.cube_elim.proofs.RatSound.{determined_rat}

pub store_start : (c lits : List Lit) (pairs : List Pair) → lits ≡ c → pairs ≡ [] → IsStore (length c) (record { lits = lits; pairs = pairs })
store_start c lits pairs e f =
    let a = ap length e in
    let b = ap length f in
    record { count = omega arith; sums = λ i h. absurd (omega arith) }

pub reads_cube : (c lits : List Lit) (ids : List ℕ) (g : ℕ) → lits ≡ c → g ≡ length c → ids ≡ range_with_len 0 g → lits_of lits ids ≡ c
reads_cube c lits ids g e h f =
    ap₂ (λ (ls : List Lit) (is : List ℕ). lits_of ls is) e (f ∙ ap (range_with_len 0) h) ∙ added_lits [] c

pub places_in : (c lits : List Lit) (ids : List ℕ) (g : ℕ) → lits ≡ c → g ≡ length c → ids ≡ range_with_len 0 g → AreIn (length lits) ids
places_in c lits ids g e h f =
    let a = ap length e in
    subst (AreIn (length lits)) (sym f) (row_in 0 g (length lits) (omega arith))

take_first : (c more : List Lit) → take (length c) (c ++ more) ≡ c
take_first [] more = refl
take_first (l ∷ c) more = ap (λ (ls : List Lit). l ∷ ls) (take_first c more)

pub taken_cube : (c old new : List Lit) (g : ℕ) → old ≡ c → g ≡ length c → IsLonger old new → take g new ≡ c
taken_cube c old new g e h l =
    ap₂ (λ (n : ℕ) (ls : List Lit). take n ls) h (l.longer ∙ ap (λ (ls : List Lit). ls ++ l.more) e) ∙ take_first c l.more

pub solved : (h n k : ℕ) (c : List Lit) (p : Point) → k + h ≡ n → IsCube Rat c → AreBelow h c → IsKeptPoint p → IsDetermined Rat h c p → IsSolution Rat n c (with_zeros p k)
solved h n k c p e o b w d =
    let m = padded_point k h c p o b w d in
    subst (λ (j : ℕ). IsSolution Rat j c (with_zeros p k)) e
    (determined_rat (k + h) c (let q : Determined = record { point = with_zeros p k; numbers = m.numbers } in q) o m.determines)

-- ---- one level of the search

pub next_reduced : (x : ℕ) (c : List Lit) → IsPrimitiveCube Rat c → AreRows c → AreBelow (suc x) c → first_past (elimination_numbers Rat c x) ≡ None → IsReduced Rat (suc x) x (fourier_motzkin c x)
next_reduced x c p r b e = (eliminated_reduced Rat c x (suc x) p r b e).0

pub next_below : (x : ℕ) (c : List Lit) → IsReduced Rat (suc x) x (fourier_motzkin c x) → AreBelow x (fourier_motzkin c x)
next_below x c r = below_less x (fourier_motzkin c x) r.without r.below

-- ---- the ends of a level, over more variables

pub leaf_reached : (n h : ℕ) (c : List Lit) (p : Point) (lits : List Lit) (r : Result Reached Memory) → h ≡ 0 → h ≡ height c → p ≡ origin → AllByRecursion (λ l. is_false (truth_of l) ≡ false) c → IsCube Rat c → IsKeptPoint p → IfOk r (IsPointWith p n) → IfOk r (Reaches n c lits)
leaf_reached n h c p lits (Err e) z q o f i k w = tt
leaf_reached n h c p lits (Ok (reached.Point r)) z q o f i k w =
    let b : AreBelow 0 c = subst (λ (m : ℕ). AreBelow m c) (sym q ∙ z) (below_height c) in
    let d = padded_point n 0 c p i b k (leaf_ends Rat c p o b f) in
    subst (λ (y : Point). IsDetermined Rat n c y) (sym w) (subst (λ (m : ℕ). IsDetermined Rat m c (with_zeros p n)) (let e : n + 0 ≡ n = omega arith in e) d)
leaf_reached n h c p lits (Ok (reached.False j)) z q o f i k w = absurd w
leaf_reached n h c p lits (Ok (reached.Wide a)) z q o f i k w = absurd w

pub wide_more : (n h : ℕ) (c : List Lit) (z : ℤ) → h ≡ height c → AreBelow n c → WideBelow h Rat c z → WideBelow n Rat c z
wide_more n h c z q b w =
    let l = height_least n c b in
    subst (λ (m : ℕ). WideBelow m Rat c z) (let e : (n - h) + h ≡ n = omega arith in e) (padded_wide (n - h) h c z (subst (λ (m : ℕ). AreBelow m c) (sym q) (below_height c)) w)

pub past_reached : (n h x : ℕ) (old new lits : List Lit) (ids : List ℕ) (fault : Short a_number) (r : Result Reached Memory) → h ≡ height (lits_of old ids) → suc x ≡ h → AreBelow n (lits_of old ids) → TakesOut x old new ids (Err fault) → IfOk r (IsPastCap fault) → IfOk r (Reaches n (lits_of old ids) lits)
past_reached n h x old new lits ids fault (Err e) q s b a w = tt
past_reached n h x old new lits ids (short.Fault f) (Ok (reached.Point p)) q s b a w = absurd w
past_reached n h x old new lits ids (short.Fault f) (Ok (reached.False i)) q s b a w = absurd w
past_reached n h x old new lits ids (short.Fault f) (Ok (reached.Wide z)) q s b a w =
    let c = lits_of old ids in
    wide_more n h c z.number q b (subst (λ (m : ℕ). WideBelow m Rat c z.number) s (subst (λ (y : a_number). WideBelow (suc x) Rat c y.number) (sym w) (wide_now x c f.number a)))
past_reached n h x old new lits ids short.Memory (Ok g) q s b a w = absurd w

pub wide_reached : (n h x : ℕ) (c : List Lit) (z : ℤ) → h ≡ height c → suc x ≡ h → AreBelow n c → WideBelow x Rat (fourier_motzkin c x) z → WideBelow n Rat c z
wide_reached n h x c z q s b w = wide_more n h c z q b (subst (λ (m : ℕ). WideBelow m Rat c z) s (wide_up x c z w))

pub point_reached : (n h x : ℕ) (c ls us lits : List Lit) (p q : Point) (r : Result Reached Memory) → h ≡ height c → suc x ≡ h → AreBelow n c → IsCube Rat c → ls ≡ filter (is_lower x) c → us ≡ filter (is_upper x) c → IsDetermined Rat x (fourier_motzkin c x) p → let vs = bounded_values x (with_zeros p 1) ls us in let w = with_value p (last_value (whole (pos 0)) vs) in Capped {A = Point} (numbers_of vs ++ pos w.den ∷ w.nums) w (Ok q) → IsKeptPoint q → IfOk r (IsPointWith q (n - h)) → IfOk r (Reaches n c lits)
point_reached n h x c ls us lits p q (Err e) eh s b o el eu k a w r = tt
point_reached n h x c ls us lits p q (Ok (reached.Point g)) eh s b o el eu k a w r =
    let l = height_least n c b in
    let d = subst (λ (m : ℕ). IsDetermined Rat m c q) s (risen_point x c ls us p q o el eu k a) in
    let t = padded_point (n - h) h c q o (subst (λ (m : ℕ). AreBelow m c) (sym eh) (below_height c)) w d in
    subst (λ (y : Point). IsDetermined Rat n c y) (sym r) (subst (λ (m : ℕ). IsDetermined Rat m c (with_zeros q (n - h))) (let e : (n - h) + h ≡ n = omega arith in e) t)
point_reached n h x c ls us lits p q (Ok (reached.False i)) eh s b o el eu k a w r = absurd r
point_reached n h x c ls us lits p q (Ok (reached.Wide z)) eh s b o el eu k a w r = absurd r

pub risen_reached : (n h x : ℕ) (c ls us lits : List Lit) (p : Point) (fault : Short a_number) (r : Result Reached Memory) → h ≡ height c → suc x ≡ h → AreBelow n c → IsCube Rat c → ls ≡ filter (is_lower x) c → us ≡ filter (is_upper x) c → IsDetermined Rat x (fourier_motzkin c x) p → let vs = bounded_values x (with_zeros p 1) ls us in let w = with_value p (last_value (whole (pos 0)) vs) in Capped {A = Point} (numbers_of vs ++ pos w.den ∷ w.nums) w (Err fault) → IfOk r (IsPastCap fault) → IfOk r (Reaches n c lits)
risen_reached n h x c ls us lits p fault (Err e) eh s b o el eu k a r = tt
risen_reached n h x c ls us lits p (short.Fault f) (Ok (reached.Point q)) eh s b o el eu k a r = absurd r
risen_reached n h x c ls us lits p (short.Fault f) (Ok (reached.False i)) eh s b o el eu k a r = absurd r
risen_reached n h x c ls us lits p (short.Fault f) (Ok (reached.Wide z)) eh s b o el eu k a r =
    wide_more n h c z.number eh b (subst (λ (m : ℕ). WideBelow m Rat c z.number) s (subst (λ (y : a_number). WideBelow (suc x) Rat c y.number) (sym r) (risen_wide x c ls us p f o el eu k a)))
risen_reached n h x c ls us lits p short.Memory (Ok g) eh s b o el eu k a r = absurd r

-- ---- what stays of the store

pub leaf_keeps : (s : Store) (p : Point) (k : ℕ) (r : Result Reached Memory) → IfOk r (IsPointWith p k) → IfOk r (Keeps s s)
leaf_keeps s p k (Err e) w = tt
leaf_keeps s p k (Ok (reached.Point q)) w = (longer_none s.lits, kept_none s)
leaf_keeps s p k (Ok (reached.False i)) w = absurd w
leaf_keeps s p k (Ok (reached.Wide z)) w = absurd w

pub point_keeps : (s t : Store) (p : Point) (k : ℕ) (r : Result Reached Memory) → IsLonger s.lits t.lits × IsKept s t → IfOk r (IsPointWith p k) → IfOk r (Keeps s t)
point_keeps s t p k (Err e) h w = tt
point_keeps s t p k (Ok (reached.Point q)) h w = h
point_keeps s t p k (Ok (reached.False i)) h w = absurd w
point_keeps s t p k (Ok (reached.Wide z)) h w = absurd w

pub past_keeps : (s t : Store) (fault : Short a_number) (r : Result Reached Memory) → IfOk r (IsPastCap fault) → IfOk r (Keeps s t)
past_keeps s t fault (Err e) w = tt
past_keeps s t (short.Fault f) (Ok (reached.Point q)) w = absurd w
past_keeps s t (short.Fault f) (Ok (reached.False i)) w = absurd w
past_keeps s t (short.Fault f) (Ok (reached.Wide z)) w = tt
past_keeps s t short.Memory (Ok g) w = absurd w

pub keeps_both : (s t u : Store) → IsLonger s.lits t.lits × IsKept s t → IsLonger t.lits u.lits × IsKept t u → IsLonger s.lits u.lits × IsKept s u
keeps_both s t u a b = (longer_both s.lits t.lits u.lits a.0 b.0, kept_both s t u a.1 b.1)

-- ---- the literals that bound a variable, in a longer store

pub record IsClimbable (x n : ℕ) (c lits : List Lit) (p : Parts) : Type 0 where
  pub lower_in : AreIn (length lits) p.lower
  pub upper_in : AreIn (length lits) p.upper
  pub lower_is : lits_of lits p.lower ≡ filter (is_lower x) c
  pub upper_is : lits_of lits p.upper ≡ filter (is_upper x) c
  pub lower_below : AreBelow n (lits_of lits p.lower)
  pub upper_below : AreBelow n (lits_of lits p.upper)
  pub lower : AllByRecursion (λ l. is_lower x l ≡ true) (lits_of lits p.lower)
  pub upper : AllByRecursion (λ l. is_upper x l ≡ true) (lits_of lits p.upper)

filtered_below : (n : ℕ) (t : Lit → Bool) (c : List Lit) → AreBelow n c → AreBelow n (filter t c)
filtered_below n t c b = each_filter (λ l. Below n (form_of l)) (λ l. Below n (form_of l)) t c (λ l e h. h) b

pub climbable : (x n : ℕ) (old new : List Lit) (ids : List ℕ) (p : Parts) → IsParted x old ids p → IsLonger old new → AreBelow n (lits_of old ids) → IsClimbable x n (lits_of old ids) new p
climbable x n old new ids p h l b =
    let c = lits_of old ids in
    let a = lits_longer old new p.lower l h.lower_in in
    let d = lits_longer old new p.upper l h.upper_in in
    record {
      lower_in = in_longer old new p.lower l h.lower_in;
      upper_in = in_longer old new p.upper l h.upper_in;
      lower_is = a ∙ h.lower;
      upper_is = d ∙ h.upper;
      lower_below = subst (AreBelow n) (sym (a ∙ h.lower)) (filtered_below n (is_lower x) c b);
      upper_below = subst (AreBelow n) (sym (d ∙ h.upper)) (filtered_below n (is_upper x) c b);
      lower = subst (λ (ls : List Lit). AllByRecursion (λ m. is_lower x m ≡ true) ls) (sym a) (parted_lower x old ids p h);
      upper = subst (λ (ls : List Lit). AllByRecursion (λ m. is_upper x m ≡ true) ls) (sym d) (parted_upper x old ids p h);
    }

pub point_count : (x : ℕ) (c : List Lit) (p : Point) → IsCube Rat c → IsDetermined Rat x c p → length p.nums ≡ x
point_count x c p o d = (determined_rat x c (let q : Determined = record { point = p; numbers = d.numbers } in q) o d.determines).count

pub height_below : (n h : ℕ) (c : List Lit) → h ≡ height c → AreBelow n c → h ≤ n
height_below n h c e b = subst (λ (m : ℕ). m ≤ n) (sym e) (height_least n c b)

pub below_own : (h : ℕ) (c : List Lit) → h ≡ height c → AreBelow h c
below_own h c e = subst (λ (m : ℕ). AreBelow m c) (sym e) (below_height c)
