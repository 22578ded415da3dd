-- Over the integers: where a case holds at a point, the cube holds with the value of the case for the variable.
use Rattle.std.specs.Prelude.{ℕ, zero, suc, ◌-◌, ◌<◌, ◌≤◌, ◌≡◌, ℤ, pos, negsuc, ◌+ℤ◌, ◌-ℤ◌, ◌*ℤ◌, ◌≤ℤ◌, neg_ℤ, nat_abs, int_le, Bool, true, false, not, cond, Option, Some, None, List, [], ◌∷◌, ◌++◌, length, get_or, map, filter}
use Rattle.std.specs.List.{list_any, range_with_len, AllByRecursion}
use Rattle.std.proofs.Common.{arith, ap, ◌∙◌, sym, subst, refl, inl, inr}
use Rattle.std.proofs.lemmas.Bool.{cases_lt}
use Rattle.std.proofs.lemmas.Int.{ints}
use Rattle.std.proofs.lemmas.List.FromFn.{length-map-range_with_len, get_or-map-range_with_len}
use Rattle.std.proofs.Math.Nat.{dvd_of_mod-eq-zero}
use Rattle.lin_term.specs.Form.{Form}
use Rattle.lin_term.specs.declared.Sort.TheVariants.{Int}
use Rattle.lin_term.specs.declared.Lit.{Lit}
use Rattle.lin_term.specs.declared.Lit.TheVariants.{AtLeast, Above, Divides, NotDivides}
use Rattle.lin_term.specs.Linear.{Point, IsPoint, dot, times, constant_form, floor_div}
use Rattle.lin_term.specs.Literal.{Holds, IsOf, form_of, prim}
use Rattle.lin_term.specs.PutIn.{coef, rest_of}
use Rattle.lin_term.proofs.Ring.{nonneg_mul, distrib_ℤ, mul_neg_ℤ}
use Rattle.lin_term.proofs.Dots.{dot-plus, dot-times, dot-constant_form}
use Rattle.lin_term.proofs.Dividing.{one_den_mod}
use Rattle.lin_term.proofs.PrimitiveLemmas.{floor_exact, floor_bounds, one_times, prim_from, residue_split}
use Rattle.dom_core.specs.Cube.{assign, CubeHolds, IsCube}
use Rattle.dom_core.specs.Elimination.{is_positive, is_negative, is_lower, is_upper, delta, put_all, above_bound, lower_case, lower_cases, free_case, cooper}
use Rattle.dom_core.proofs.Assigning.{whole, dot-whole}
use Rattle.dom_core.proofs.Cases.{each_two, each_four, of_filter, none_passes, cube_split}
use Rattle.dom_core.proofs.Putting.{put_whole_from}
use Rattle.dom_core.proofs.Periods.{Period, delta_period, lit_moved}
use Rattle.dom_int.specs.Counts.{count_at}
use Rattle.dom_int.proofs.Places.{length_more, place_here, place_next}
use Rattle.cube_elim.specs.Determined.{lower_value, lower_values, upper_value, lesser, lesser_upper, least_upper, up_to, free_value, case_values}
use Rattle.cube_elim.specs.Values.{no_value}
use Rattle.cube_elim.proofs.CaseValues.{value_here, value_next}

-- ---- a case of a lower literal

size_is : (z : ℤ) → is_positive z ≡ true → (z ≡ pos (nat_abs z)) × (1 ≤ nat_abs z)
size_is (pos zero) u = absurd (cc)
size_is (pos (suc k)) u = (refl, omega arith)
size_is (negsuc k) u = absurd (cc)

pub dot-above_bound : (x : ℕ) (l : Lit) (k : ℕ) (e : Point) → IsPoint Int e → dot (above_bound x l k) e ≡ pos k -ℤ dot (rest_of (form_of l) x) e
dot-above_bound x l k e i =
    let a = dot-plus (constant_form (pos k)) (times (negsuc 0) (rest_of (form_of l) x)) e in
    let b = dot-constant_form (pos k) e in
    let c = one_times (pos k) e.den i in
    let d = dot-times (negsuc 0) (rest_of (form_of l) x) e in
    omega (arith, ints)

-- y for x makes both parts true
record Solves (x : ℕ) (y : ℤ) (before after : List Lit) (e : Point) : Type 0 where
  left : CubeHolds before (assign e x (whole y))
  right : CubeHolds after (assign e x (whole y))

one_case : (x : ℕ) (before : List Lit) (f : Form) (after : List Lit) (k : ℕ) (e : Point) → IsPoint Int e → is_positive (coef f.terms x) ≡ true → CubeHolds (lower_case x before (AtLeast f) after k) e → Solves x (lower_value x (AtLeast f) k e) before (AtLeast f ∷ after) e
one_case x before f after k e i p h =
    let s = size_is (coef f.terms x) p in
    let a : ℕ = nat_abs (coef f.terms x) in
    let t : Form = above_bound x (AtLeast f) k in
    let r = cube_split (put_all Int x a t before) (prim Int (Divides a t) ∷ put_all Int x a t after) e h in
    let v = prim_from Int (Divides a t) e i r.1.0 in
    let y : ℤ = floor_div (dot t e) a in
    let u : dot t e ≡ pos a *ℤ y = sym (floor_exact (dot t e) a s.1 (dvd_of_mod-eq-zero a (sym (one_den_mod (dot t e) a e.den i) ∙ v))) in
    let d = dot-above_bound x (AtLeast f) k e i in
    let m = ap (λ (z : ℤ). z *ℤ y) s.0 in
    let w = dot-whole f e y x i in
    record {
      left = put_whole_from before x a t e y i s.1 u r.0;
      right = (omega (arith, ints), put_whole_from after x a t e y i s.1 u r.1.1);
    }

own_case : (x : ℕ) (before : List Lit) (l : Lit) (after : List Lit) (k : ℕ) (e : Point) → IsPoint Int e → IsOf Int l → is_lower x l ≡ true → CubeHolds (lower_case x before l after k) e → Solves x (lower_value x l k e) before (l ∷ after) e
own_case x before (AtLeast f) after k e i o p h = one_case x before f after k e i p h
own_case x before (Above f) after k e i o p h = absurd o
own_case x before (Divides d f) after k e i o p h = absurd (cc)
own_case x before (NotDivides d f) after k e i o p h = absurd (cc)

lower_sound : (x n : ℕ) (before after : List Lit) (j : ℕ) (e : Point) → IsPoint Int e → IsCube Int after → j < length (lower_cases x n before after) → CubeHolds (get_or (lower_cases x n before after) j []) e → Solves x (get_or (lower_values x n after) j no_value e) before after e
lower_sound x n before [] j e i o h c = absurd (omega arith)
lower_sound x n before (l ∷ after) j e i o h c =
    elim (cases_lt j (count_at x n l)) [
      | inl less ↦
          let r = place_here x n before l after j less in
          let s = own_case x before l after j e i o.0 r.0 (subst (λ (d : List Lit). CubeHolds d e) r.2 c) in
          subst (λ (f : Point → ℤ). Solves x (f e) before (l ∷ after) e) (sym (value_here x n l after j less)) s
      | inr more ↦
          let g = length_more x n before l after in
          let c' = subst (λ (d : List Lit). CubeHolds d e) (place_next x n before l after j more) c in
          let r = lower_sound x n (before ++ l ∷ []) after (j - count_at x n l) e i o.1 (omega arith) c' in
          let y = get_or (lower_values x n after) (j - count_at x n l) no_value e in
          let s = cube_split before (l ∷ []) (assign e x (whole y)) r.left in
          let t : Solves x y before (l ∷ after) e = record { left = s.0; right = (s.1.0, r.right) } in
          subst (λ (f : Point → ℤ). Solves x (f e) before (l ∷ after) e) (sym (value_next x n l after j more)) t
    ]

-- ---- the least upper bound

-- at most b; none is not
abbrev AtMost : Option ℤ → ℤ → Type 0
AtMost None b = ⊥
AtMost (Some w) b = w ≤ℤ b

lesser_first : (z : ℤ) (o : Option ℤ) → lesser z o ≤ℤ z
lesser_first z None = omega (arith, ints)
lesser_first z (Some w) = by (int_le z w) refl
  where
    by : (b : Bool) → int_le z w ≡ b → cond b z w ≤ℤ z
    by true e = omega (arith, ints)
    by false e = omega (arith, ints)

lesser_second : (z w : ℤ) → lesser z (Some w) ≤ℤ w
lesser_second z w = by (int_le z w) refl
  where
    by : (b : Bool) → int_le z w ≡ b → cond b z w ≤ℤ w
    by true e = omega (arith, ints)
    by false e = omega (arith, ints)

most_less : (o : Option ℤ) (a b : ℤ) → AtMost o a → a ≤ℤ b → AtMost o b
most_less None a b h k = h
most_less (Some w) a b h k = omega (arith, ints)

least_best : (x : ℕ) (c : List Lit) (p : Point) (b : ℤ) → AtMost (least_upper x (Some b) c p) b
least_best x [] p b = omega (arith, ints)
least_best x (l ∷ c) p b = by (is_upper x l) (least_best x c p (lesser (upper_value x l p) (Some b))) (least_best x c p b)
  where
    by : (t : Bool) → AtMost (least_upper x (Some (lesser (upper_value x l p) (Some b))) c p) (lesser (upper_value x l p) (Some b)) → AtMost (least_upper x (Some b) c p) b → AtMost (least_upper x (cond t (Some (lesser (upper_value x l p) (Some b))) (Some b)) c p) b
    by true h k = most_less (least_upper x (Some (lesser (upper_value x l p) (Some b))) c p) (lesser (upper_value x l p) (Some b)) b h (lesser_second (upper_value x l p) b)
    by false h k = k

least_all : (x : ℕ) (best : Option ℤ) (c : List Lit) (p : Point) → AllByRecursion (λ l. is_upper x l ≡ true → AtMost (least_upper x best c p) (upper_value x l p)) c
least_all x best [] p = tt
least_all x best (l ∷ c) p = (by (is_upper x l), least_all x (lesser_upper x l p best) c p)
  where
    by : (t : Bool) → t ≡ true → AtMost (least_upper x (cond t (Some (lesser (upper_value x l p) best)) best) c p) (upper_value x l p)
    by true e = most_less (least_upper x (Some (lesser (upper_value x l p) best)) c p) (lesser (upper_value x l p) best) (upper_value x l p) (least_best x c p (lesser (upper_value x l p) best)) (lesser_first (upper_value x l p) best)
    by false e = absurd (cc)

-- the value is whole periods from k, and at most the bound
record IsUpTo (d k : ℕ) (o : Option ℤ) : Type 0 where
  q : ℤ
  periods : pos k ≡ up_to d k o +ℤ pos d *ℤ q
  most : (b : ℤ) → AtMost o b → up_to d k o ≤ℤ b

is_up_to : (d k : ℕ) (o : Option ℤ) → 1 ≤ d → IsUpTo d k o
is_up_to d k None h = record { q = pos 0; periods = omega (arith, ints); most = λ b a. absurd a }
is_up_to d k (Some z) h =
    let r = residue_split (z -ℤ pos k) d h in
    let m = mul_neg_ℤ (pos d) (floor_div (z -ℤ pos k) d) in
    record {
      q = neg_ℤ (floor_div (z -ℤ pos k) d);
      periods = omega (arith, ints);
      most = λ b a. omega (arith, ints);
    }

-- ---- a case without lower literals

free_fit : (k : ℕ) (e : Point) → IsPoint Int e → dot (constant_form (pos k)) e ≡ pos 1 *ℤ pos k
free_fit k e i =
    let a = dot-constant_form (pos k) e in
    let b = one_times (pos k) e.den i in
    omega (arith, ints)

le_times : (a : ℕ) (b c : ℤ) → b ≤ℤ c → (pos a *ℤ b) ≤ℤ (pos a *ℤ c)
le_times a b c h =
    let k = nonneg_mul (pos a) (c -ℤ b) (omega (arith, ints)) (omega (arith, ints)) in
    let d = distrib_ℤ (pos a) c (neg_ℤ b) in
    let m = mul_neg_ℤ (pos a) b in
    omega (arith, ints)

minus_coef : (k : ℕ) (z : ℤ) → negsuc k *ℤ z ≡ neg_ℤ (pos (suc k) *ℤ z)
minus_coef k z = omega (arith, ints)

-- what a literal without a positive coefficient says of a value v: below its bound where it is an upper one, else as of k
free_at : (c R k v : ℤ) → is_positive c ≡ false → (is_negative c ≡ true → v ≤ℤ floor_div R (nat_abs c)) → (is_negative c ≡ false → pos 0 ≤ℤ (c *ℤ k +ℤ R)) → pos 0 ≤ℤ (c *ℤ v +ℤ R)
free_at (pos zero) R k v p u h = let g = h refl in omega (arith, ints)
free_at (pos (suc j)) R k v p u h = absurd (cc)
free_at (negsuc j) R k v p u h =
    let t = le_times (suc j) v (floor_div R (suc j)) (u refl) in
    let f = floor_bounds R (suc j) (omega arith) in
    let m = minus_coef j v in
    omega (arith, ints)

free_lit : (x n k : ℕ) (v q : ℤ) (e : Point) (l : Lit) → IsPoint Int e → pos k ≡ v +ℤ pos n *ℤ q → IsOf Int l → Period n x l → is_lower x l ≡ false → (is_upper x l ≡ true → v ≤ℤ upper_value x l e) → (not (is_upper x l) ≡ true → Holds l (assign e x (whole (pos k)))) → Holds l (assign e x (whole v))
free_lit x n k v q e (AtLeast f) i eq o p lo up h =
    subst (λ (w : ℤ). pos 0 ≤ℤ w) (sym (dot-whole f e v x i))
    (free_at (coef f.terms x) (dot (rest_of f x) e) (pos k) v lo up (λ g. subst (λ (w : ℤ). pos 0 ≤ℤ w) (dot-whole f e (pos k) x i) (h (ap not g))))
free_lit x n k v q e (Above f) i eq o p lo up h = absurd o
free_lit x n k v q e (Divides d f) i eq o p lo up h = lit_moved x n (pos k) v q e (Divides d f) i eq p (h refl) tt
free_lit x n k v q e (NotDivides d f) i eq o p lo up h = lit_moved x n (pos k) v q e (NotDivides d f) i eq p (h refl) tt

free_sound : (x : ℕ) (c : List Lit) (k : ℕ) (e : Point) → IsPoint Int e → IsCube Int c → list_any (is_lower x) c ≡ false → CubeHolds (free_case x c k) e → CubeHolds c (assign e x (whole (free_value x c k e)))
free_sound x c k e i o t h =
    let d = delta_period c x o in
    let n : ℕ = delta c x in
    let best = least_upper x None c e in
    let u = is_up_to n k best d.0 in
    let v : ℤ = up_to n k best in
    let put = put_whole_from (filter (λ l. not (is_upper x l)) c) x 1 (constant_form (pos k)) e (pos k) i (omega arith) (free_fit k e i) h in
    let held = of_filter (λ l. Holds l (assign e x (whole (pos k)))) (λ l. not (is_upper x l)) c put in
    let pairs = each_two (Period n x) (λ l. is_lower x l ≡ false) (λ l. Period n x l × (is_lower x l ≡ false)) c (λ l a b. (a, b)) d.1 (none_passes (is_lower x) c t) in
    each_four (IsOf Int) (λ l. Period n x l × (is_lower x l ≡ false)) (λ l. is_upper x l ≡ true → AtMost best (upper_value x l e)) (λ l. not (is_upper x l) ≡ true → Holds l (assign e x (whole (pos k)))) (λ l. Holds l (assign e x (whole v))) c
    (λ l a b g s. free_lit x n k v u.q e l i u.periods a b.0 b.1 (λ w. u.most (upper_value x l e) (g w)) s) o pairs (least_all x None c e) held

-- ---- all cases

pub case_sound : (x : ℕ) (c : List Lit) (j : ℕ) (e : Point) → IsPoint Int e → IsCube Int c → j < length (cooper c x) → CubeHolds (get_or (cooper c x) j []) e → CubeHolds c (assign e x (whole (get_or (case_values x c) j no_value e)))
case_sound x c j e i o h k = by (list_any (is_lower x) c) refl h k
  where
    by : (b : Bool) → list_any (is_lower x) c ≡ b → j < length (cond b (lower_cases x (delta c x) [] c) (map (free_case x c) (range_with_len 0 (delta c x)))) → CubeHolds (get_or (cond b (lower_cases x (delta c x) [] c) (map (free_case x c) (range_with_len 0 (delta c x)))) j []) e → CubeHolds c (assign e x (whole (get_or (cond b (lower_values x (delta c x) c) (map (free_value x c) (range_with_len 0 (delta c x)))) j no_value e)))
    by true q h k = let r = lower_sound x (delta c x) [] c j e i o h k in r.right
    by false q h k =
        let w : j < delta c x = omega (arith, length-map-range_with_len (free_case x c) 0 (delta c x)) in
        let a = get_or-map-range_with_len (free_case x c) 0 (delta c x) j j [] w (omega arith) in
        let b = get_or-map-range_with_len (free_value x c) 0 (delta c x) j j no_value w (omega arith) in
        subst (λ (f : Point → ℤ). CubeHolds c (assign e x (whole (f e)))) (sym b)
        (free_sound x c j e i o q (subst (λ (d : List Lit). CubeHolds d e) a k))
