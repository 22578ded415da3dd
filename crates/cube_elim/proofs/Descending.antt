-- Over the rationals: how the search ends at a level, by how it ends below, and variables that do not occur.
use Rattle.std.specs.Prelude.{ℕ, zero, suc, ◌+◌, ◌*◌, ◌/◌, ◌<◌, ◌≤◌, ◌≡◌, ℤ, pos, ◌+ℤ◌, ◌*ℤ◌, nat_abs, nat_eq, Bool, true, false, cond, Option, Some, None, Ok, Err, List, [], ◌∷◌, ◌++◌, length, map, filter}
use Rattle.std.specs.List.{AllByRecursion, flat_map}
use Rattle.std.proofs.Common.{arith, ap, ap₂, ◌∙◌, sym, subst, refl, inl, inr, append-nil}
use Rattle.std.proofs.Math.Nat.{mul-div_cancel_left}
use Rattle.std.proofs.lemmas.Bool.{eqb-true}
use Rattle.std.proofs.lemmas.Int.{ints}
use Rattle.lin_term.specs.Form.{cap}
use Rattle.lin_term.specs.declared.Sort.TheVariants.{Rat}
use Rattle.lin_term.specs.declared.Lit.{Lit}
use Rattle.lin_term.specs.declared.Lit.TheVariants.{AtLeast, Above, Divides, NotDivides}
use Rattle.lin_term.specs.declared.Short.{Short}
use Rattle.lin_term.specs.declared.Short.TheVariants as short
use Rattle.lin_term.specs.declared.Wide.{Wide as a_number}
use Rattle.lin_term.specs.Linear.{Point, Value, Below, BelowTerms, origin}
use Rattle.lin_term.specs.Literal.{form_of, gcd}
use Rattle.lin_term.specs.Point.{AreWithin, IsKeptPoint}
use Rattle.lin_term.specs.PutIn.{coef}
use Rattle.lin_term.specs.Wide.{first_past, Capped}
use Rattle.lin_term.proofs.Capping.{past-append, past-append_some, past-within}
use Rattle.lin_term.proofs.Divisors.{gcd_comm, gcd_one}
use Rattle.dom_core.specs.Cube.{CubeHolds, IsCube}
use Rattle.dom_core.specs.Elimination.{is_free, is_lower, is_upper, is_zero, is_positive, is_negative, resolvent, fourier_motzkin, elimination_numbers}
use Rattle.dom_core.specs.Reduced.{AreBelow}
use Rattle.dom_core.proofs.AddingLemmas.{append_assoc, append_none}
use Rattle.dom_core.proofs.Cases.{cube_split}
use Rattle.cube_elim.specs.Determined.{numbers_below, Determined, whole, last_value, with_value, with_values, next_rat, rat_values, determined, point_numbers, WideBelow}
use Rattle.cube_elim.specs.Between.{bounded_values, numbers_of}
use Rattle.cube_elim.specs.Deciding.{IsSolution}
use Rattle.cube_elim.specs.Searching.{IsDetermined}
use Rattle.cube_elim.specs.Values.{zeros, with_zeros}
use Rattle.cube_elim.proofs.Amongs.{among_left, among_right, past_among}
use Rattle.cube_elim.proofs.MorePoints.{zeros_push}
use Rattle.cube_elim.proofs.NextValues.{values_are}
use Rattle.cube_elim.proofs.RatSound.{determined_rat, fourier_motzkin_is}
use Rattle.cube_elim.proofs.SoundPoints.{map_one}

abbrev pub point_of : ℕ → List ℤ → Point
point_of d zs = record { den = d; nums = zs }

abbrev found_with : Point → List ℤ → Determined
found_with p numbers = record { point = p; numbers = numbers }

-- ---- the level above

-- the point below is one of the cube without the variable, where the literals without it hold
free_hold : (x : ℕ) (c : List Lit) (p : Point) → IsCube Rat c → IsDetermined Rat x (fourier_motzkin c x) p → IsSolution Rat x (fourier_motzkin c x) p
free_hold x c p o k = determined_rat x (fourier_motzkin c x) (found_with p k.numbers) (fourier_motzkin_is x c o) k.determines

abbrev more_numbers : Point → List Value → List ℤ
more_numbers q vs = numbers_of vs ++ pos q.den ∷ q.nums

stepped : (x : ℕ) (c ls us : List Lit) (p : Point) → IsCube Rat c → ls ≡ filter (is_lower x) c → us ≡ filter (is_upper x) c → (k : IsDetermined Rat x (fourier_motzkin c x) p) → determined (suc x) Rat c ≡ Some (with_values (found_with p k.numbers) (bounded_values x (with_zeros p 1) ls us))
stepped x c ls us p o el eu k =
    let s = free_hold x c p o k in
    let h = (cube_split (filter (is_free x) c) (flat_map (λ l. map (λ u. resolvent x l u) (filter (is_upper x) c)) (filter (is_lower x) c)) p s.holds).0 in
    ap (λ (d : Option Determined). next_rat x c (d ∷ [])) k.determines
    ∙ ap (λ (vs : List Value). Some (with_values (found_with p k.numbers) vs))
    (sym (values_are x c p s.point s.count o h) ∙ ap₂ (λ (vs ws : List Lit). bounded_values x (with_zeros p 1) vs ws) (sym el) (sym eu))

pub risen_point : (x : ℕ) (c ls us : List Lit) (p q : Point) → IsCube Rat c → ls ≡ filter (is_lower x) c → us ≡ filter (is_upper x) c → IsDetermined Rat x (fourier_motzkin c x) p → let vs = bounded_values x (with_zeros p 1) ls us in let w = with_value p (last_value (whole (pos 0)) vs) in Capped {A = Point} (numbers_of vs ++ pos w.den ∷ w.nums) w (Ok q) → IsDetermined Rat (suc x) c q
risen_point x c ls us p q o el eu k a =
    let vs = bounded_values x (with_zeros p 1) ls us in
    let w = with_value p (last_value (whole (pos 0)) vs) in
    subst (λ (y : Point). IsDetermined Rat (suc x) c y) (sym a.1)
    (record {
      numbers = k.numbers ++ more_numbers w vs;
      determines = stepped x c ls us p o el eu k;
      fits = past-append k.numbers (more_numbers w vs) k.fits ∙ a.0;
    })

pub risen_wide : (x : ℕ) (c ls us : List Lit) (p : Point) (z : a_number) → IsCube Rat c → ls ≡ filter (is_lower x) c → us ≡ filter (is_upper x) c → IsDetermined Rat x (fourier_motzkin c x) p → let vs = bounded_values x (with_zeros p 1) ls us in let w = with_value p (last_value (whole (pos 0)) vs) in Capped {A = Point} (numbers_of vs ++ pos w.den ∷ w.nums) w (Err (short.Fault z)) → WideBelow (suc x) Rat c z.number
risen_wide x c ls us p z o el eu k a =
    let vs = bounded_values x (with_zeros p 1) ls us in
    let w = with_value p (last_value (whole (pos 0)) vs) in
    inr (ap (λ (d : Option Determined). first_past (point_numbers d)) (stepped x c ls us p o el eu k) ∙ past-append k.numbers (more_numbers w vs) k.fits ∙ a)

pub wide_now : (x : ℕ) (c : List Lit) (z : ℤ) → first_past (elimination_numbers Rat c x) ≡ Some z → WideBelow (suc x) Rat c z
wide_now x c z h =
    let r = past_among (elimination_numbers Rat c x) z h in
    inl (among_left (elimination_numbers Rat c x) (flat_map (λ d. numbers_below x Rat d) (fourier_motzkin c x ∷ [])) z r.0, r.1)

some_point : (x : ℕ) (c : List Lit) (z : ℤ) (r : Option Determined) → determined x Rat (fourier_motzkin c x) ≡ r → first_past (point_numbers r) ≡ Some z → first_past (point_numbers (determined (suc x) Rat c)) ≡ Some z
some_point x c z None e h = absurd (cc)
some_point x c z (Some d) e h =
    ap (λ (o : Option Determined). first_past (point_numbers (next_rat x c (o ∷ [])))) e
    ∙ past-append_some d.numbers (more_numbers (with_value d.point (last_value (whole (pos 0)) (rat_values x c d.point))) (rat_values x c d.point)) z h

pub wide_up : (x : ℕ) (c : List Lit) (z : ℤ) → WideBelow x Rat (fourier_motzkin c x) z → WideBelow (suc x) Rat c z
wide_up x c z (inl a) =
    inl (among_right (elimination_numbers Rat c x) (flat_map (λ d. numbers_below x Rat d) (fourier_motzkin c x ∷ [])) z (among_left (numbers_below x Rat (fourier_motzkin c x)) [] z a.0), a.1)
wide_up x c z (inr a) = inr (some_point x c z (determined x Rat (fourier_motzkin c x)) refl a)

-- ---- a variable that does not occur

pub coef_none : (x : ℕ) (ts : List (ℕ × ℤ)) → BelowTerms x ts → coef ts x ≡ pos 0
coef_none x [] b = refl
coef_none x (t ∷ ts) b = by (nat_eq t.0 x) refl (coef_none x ts b.1)
  where
    by : (s : Bool) → nat_eq t.0 x ≡ s → coef ts x ≡ pos 0 → cond s (t.1 +ℤ coef ts x) (coef ts x) ≡ pos 0
    by true e h = let q = eqb-true t.0 x e in let o = b.0 in absurd (omega arith)
    by false e h = h

free_one : (x : ℕ) (l : Lit) → Below x (form_of l) → is_free x l ≡ true
free_one x l b = ap is_zero (coef_none x (form_of l).terms b)

pub lower_none : (x : ℕ) (l : Lit) → Below x (form_of l) → is_lower x l ≡ false
lower_none x (AtLeast f) b = ap is_positive (coef_none x f.terms b)
lower_none x (Above f) b = ap is_positive (coef_none x f.terms b)
lower_none x (Divides d f) b = refl
lower_none x (NotDivides d f) b = refl

pub upper_none : (x : ℕ) (l : Lit) → Below x (form_of l) → is_upper x l ≡ false
upper_none x (AtLeast f) b = ap is_negative (coef_none x f.terms b)
upper_none x (Above f) b = ap is_negative (coef_none x f.terms b)
upper_none x (Divides d f) b = refl
upper_none x (NotDivides d f) b = refl

all_free : (x : ℕ) (c : List Lit) → AreBelow x c → filter (is_free x) c ≡ c
all_free x [] b = refl
all_free x (l ∷ c) b = ap (λ (s : Bool). cond s (l ∷ filter (is_free x) c) (filter (is_free x) c)) (free_one x l b.0) ∙ ap (λ (ls : List Lit). l ∷ ls) (all_free x c b.1)

no_lower : (x : ℕ) (c : List Lit) → AreBelow x c → filter (is_lower x) c ≡ []
no_lower x [] b = refl
no_lower x (l ∷ c) b = ap (λ (s : Bool). cond s (l ∷ filter (is_lower x) c) (filter (is_lower x) c)) (lower_none x l b.0) ∙ no_lower x c b.1

no_upper : (x : ℕ) (c : List Lit) → AreBelow x c → filter (is_upper x) c ≡ []
no_upper x [] b = refl
no_upper x (l ∷ c) b = ap (λ (s : Bool). cond s (l ∷ filter (is_upper x) c) (filter (is_upper x) c)) (upper_none x l b.0) ∙ no_upper x c b.1

stays : (x : ℕ) (c : List Lit) → AreBelow x c → fourier_motzkin c x ≡ c
stays x c b =
    ap₂ (λ (fs ls : List Lit). fs ++ flat_map (λ l. map (λ u. resolvent x l u) (filter (is_upper x) c)) ls) (all_free x c b) (no_lower x c b) ∙ append_none c

one_divisor : (d : ℕ) → gcd d 1 ≡ 1
one_divisor d = gcd_comm d 1 ∙ gcd_one 1 d refl

-- 0 as the next value
pub next_zero : (p : Point) → 1 ≤ p.den → with_value p (whole (pos 0)) ≡ with_zeros p 1
next_zero p o =
    ap (λ (g : ℕ). let d = p.den * (1 / g) in point_of d (map (λ z. z *ℤ pos (d / p.den)) p.nums ++ (pos 0 *ℤ pos (d / 1)) ∷ [])) (one_divisor p.den)
    ∙ ap₂ (λ (k : ℕ) (z : ℤ). point_of (p.den * 1) (map (λ y. y *ℤ pos k) p.nums ++ z ∷ [])) (mul-div_cancel_left 1 {n = p.den} (omega arith)) (nothing (pos ((p.den * 1) / 1)))
    ∙ ap₂ (λ (d : ℕ) (ys : List ℤ). point_of d (ys ++ pos 0 ∷ [])) (let e : p.den * 1 ≡ p.den = omega arith in e) (map_one p.nums)
  where
    nothing : (z : ℤ) → pos 0 *ℤ z ≡ pos 0
    nothing z = omega (arith, ints)

within_past : (zs : List ℤ) → AreWithin zs → first_past (zs ++ pos 0 ∷ []) ≡ None
within_past [] w = refl
within_past (z ∷ zs) w = past-within z (zs ++ pos 0 ∷ []) w.0 ∙ within_past zs w.1

pub zero_fits : (p : Point) → IsKeptPoint p → first_past ((pos 0 ∷ pos 1 ∷ []) ++ pos p.den ∷ (p.nums ++ pos 0 ∷ [])) ≡ None
zero_fits p k =
    past-within (pos 0) (pos 1 ∷ pos p.den ∷ (p.nums ++ pos 0 ∷ [])) (omega arith)
    ∙ past-within (pos 1) (pos p.den ∷ (p.nums ++ pos 0 ∷ [])) (omega arith)
    ∙ past-within (pos p.den) (p.nums ++ pos 0 ∷ []) k.1
    ∙ within_past p.nums k.2

skip_point : (x : ℕ) (c : List Lit) (p : Point) → IsCube Rat c → AreBelow x c → IsKeptPoint p → IsDetermined Rat x c p → IsDetermined Rat (suc x) c (with_zeros p 1)
skip_point x c p o b w k =
    let e = stays x c b in
    let m = subst (λ (d : List Lit). IsDetermined Rat x d p) (sym e) k in
    let q = stepped x c [] [] p o (sym (no_lower x c b)) (sym (no_upper x c b)) m in
    let s = next_zero p w.0 in
    subst (λ (y : Point). IsDetermined Rat (suc x) c y) s
    (record {
      numbers = m.numbers ++ more_numbers (with_value p (whole (pos 0))) (whole (pos 0) ∷ []);
      determines = q;
      fits = past-append m.numbers (more_numbers (with_value p (whole (pos 0))) (whole (pos 0) ∷ [])) m.fits
          ∙ ap (λ (y : Point). first_past (more_numbers y (whole (pos 0) ∷ []))) s ∙ zero_fits p w;
    })

pub within_zeros : (zs : List ℤ) (k : ℕ) → AreWithin zs → AreWithin (zs ++ zeros k)
within_zeros [] zero w = tt
within_zeros [] (suc k) w = (omega arith, within_zeros [] k tt)
within_zeros (z ∷ zs) k w = (w.0, within_zeros zs k w.1)

more_terms_below : (x y : ℕ) (ts : List (ℕ × ℤ)) → x ≤ y → BelowTerms x ts → BelowTerms y ts
more_terms_below x y [] h b = tt
more_terms_below x y (t ∷ ts) h b = (let o = b.0 in omega arith, more_terms_below x y ts h b.1)

pub more_below : (x y : ℕ) (c : List Lit) → x ≤ y → AreBelow x c → AreBelow y c
more_below x y [] h b = tt
more_below x y (l ∷ c) h b = (more_terms_below x y (form_of l).terms h b.0, more_below x y c h b.1)

pub one_more_zero : (p : Point) (k : ℕ) → with_zeros (with_zeros p k) 1 ≡ with_zeros p (suc k)
one_more_zero p k = ap (point_of p.den) (append_assoc p.nums (zeros k) (pos 0 ∷ []) ∙ ap (λ (zs : List ℤ). p.nums ++ zs) (zeros_push k))

pub padded_point : (k x : ℕ) (c : List Lit) (p : Point) → IsCube Rat c → AreBelow x c → IsKeptPoint p → IsDetermined Rat x c p → IsDetermined Rat (k + x) c (with_zeros p k)
padded_point zero x c p o b w d = subst (λ (j : ℕ). IsDetermined Rat j c (with_zeros p 0)) (let e : x ≡ 0 + x = omega arith in e) (subst (λ (zs : List ℤ). IsDetermined Rat x c (point_of p.den zs)) (sym (append_none p.nums)) d)
padded_point (suc k) x c p o b w d =
    let h = padded_point k x c p o b w d in
    let v : IsKeptPoint (with_zeros p k) = (w.0, w.1, within_zeros p.nums k w.2) in
    let s = skip_point (k + x) c (with_zeros p k) o (more_below x (k + x) c (omega arith) b) v h in
    subst (λ (j : ℕ). IsDetermined Rat j c (with_zeros p (suc k))) (let e : suc (k + x) ≡ suc k + x = omega arith in e)
    (subst (λ (y : Point). IsDetermined Rat (suc (k + x)) c y) (one_more_zero p k) s)

pub padded_wide : (k x : ℕ) (c : List Lit) (z : ℤ) → AreBelow x c → WideBelow x Rat c z → WideBelow (k + x) Rat c z
padded_wide zero x c z b h = subst (λ (j : ℕ). WideBelow j Rat c z) (let e : x ≡ 0 + x = omega arith in e) h
padded_wide (suc k) x c z b h =
    let m = padded_wide k x c z b h in
    subst (λ (j : ℕ). WideBelow j Rat c z) (let e : suc (k + x) ≡ suc k + x = omega arith in e)
    (wide_up (k + x) c z (subst (λ (d : List Lit). WideBelow (k + x) Rat d z) (sym (stays (k + x) c (more_below x (k + x) c (omega arith) b))) m))
