-- Over the integers: a variable that does not occur has one case, the cube itself, and the value 0.
use Rattle.std.specs.Prelude.{ℕ, zero, suc, ◌+◌, ◌*◌, ◌/◌, ◌<◌, ◌≤◌, ◌≡◌, ℤ, pos, ◌+ℤ◌, nat_eq, nat_abs, Bool, true, false, not, ◌||◌, cond, Option, Some, None, List, [], ◌∷◌, ◌++◌, map, filter}
use Rattle.std.specs.List.{AllByRecursion, flat_map, list_any, range_with_len}
use Rattle.std.proofs.Common.{arith, ap, ap₂, ◌∙◌, sym, subst, refl, inl, inr}
use Rattle.std.proofs.Math.Nat.{mul-div_cancel_left}
use Rattle.std.proofs.lemmas.Bool.{eqb-true}
use Rattle.lin_term.specs.declared.Sort.TheVariants.{Int}
use Rattle.lin_term.specs.declared.Lit.{Lit}
use Rattle.lin_term.specs.declared.Lit.TheVariants.{AtLeast, Above, Divides, NotDivides}
use Rattle.lin_term.specs.Linear.{Point, Below, BelowTerms, constant_form}
use Rattle.lin_term.specs.Literal.{form_of, gcd, prim}
use Rattle.lin_term.specs.Point.{IsKeptPoint}
use Rattle.lin_term.specs.PutIn.{coef, occurs, put_raw}
use Rattle.lin_term.specs.Wide.{first_past}
use Rattle.lin_term.proofs.Capping.{past-append, past-append_some}
use Rattle.lin_term.proofs.Divisors.{gcd_zero, gcd_comm, gcd_one}
use Rattle.dom_core.specs.Cube.{IsCube}
use Rattle.dom_core.specs.Elimination.{is_lower, is_upper, next_delta, partial_deltas, last_of, delta, put_all, lower_cases, free_case, cooper, elimination_numbers}
use Rattle.dom_core.specs.Reduced.{AreBelow}
use Rattle.cube_rules.specs.declared.Step.{Step}
use Rattle.cube_rules.specs.Bare.{bare_rules}
use Rattle.cube_rules.specs.Context.{cube_context}
use Rattle.cube_rules.proofs.Lifting.{closes_too, bare_more}
use Rattle.cube_elim.specs.Among.{IsAmong}
use Rattle.cube_elim.specs.Determined.{numbers_below, lower_values, upper_value, lesser, least_upper, up_to, free_value, case_values, Determined, whole, with_value, with_values, first_case, determined, point_numbers, WideBelow}
use Rattle.std.specs.Prelude.{◌-◌, Result, Ok, Err, IfOk}
use Rattle.lin_term.specs.declared.Memory.{Memory}
use Rattle.lin_term.specs.declared.Short.{Short}
use Rattle.lin_term.specs.declared.Short.TheVariants as short
use Rattle.lin_term.specs.declared.Wide.{Wide as a_number}
use Rattle.cube_elim.specs.declared.found.Found.{Found}
use Rattle.cube_elim.specs.declared.found.Found.TheVariants.{Point as point, Refuted, Wide}
use Rattle.cube_elim.specs.Ending.{Ends, IsFault, IsRaised}
use Rattle.cube_elim.specs.Searching.{IsDetermined, AddsProof}
use Rattle.cube_elim.specs.Values.{with_zeros}
use Rattle.cube_elim.proofs.Amongs.{among_left, among_right}
use Rattle.cube_elim.proofs.Descending.{point_of, coef_none, lower_none, upper_none, next_zero, zero_fits, more_below, within_zeros, one_more_zero}
use Rattle.dom_core.proofs.AddingLemmas.{append_none}

-- ---- the one case

own_quotient : (d : ℕ) → 1 ≤ d → d / d ≡ 1
own_quotient d o = ap (λ (n : ℕ). n / d) (let e : d ≡ d * 1 = omega arith in e) ∙ mul-div_cancel_left 1 {n = d} (omega arith)

one_divisor : (n : ℕ) → gcd n 1 ≡ 1
one_divisor n = gcd_comm n 1 ∙ gcd_one 1 n refl

delta_stays : (n d : ℕ) (z : ℤ) → 1 ≤ d → z ≡ pos 0 → next_delta n d z ≡ n
delta_stays n d z o e =
    let g : gcd d (nat_abs z) ≡ d = gcd_zero d (nat_abs z) (ap nat_abs e) in
    ap (λ (k : ℕ). let m = d / k in n * (m / gcd n m)) g
    ∙ ap (λ (m : ℕ). n * (m / gcd n m)) (own_quotient d o)
    ∙ ap (λ (k : ℕ). n * (1 / k)) (one_divisor n) ∙ (let u : n * 1 ≡ n = omega arith in u)

period_stays : (x n : ℕ) (c : List Lit) → IsCube Int c → AreBelow x c → last_of n (partial_deltas n c x) ≡ n
period_stays x n [] o b = refl
period_stays x n (AtLeast f ∷ c) o b = period_stays x n c o.1 b.1
period_stays x n (Above f ∷ c) o b = absurd o.0
period_stays x n (Divides d f ∷ c) o b =
    let e = delta_stays n d (coef f.terms x) o.0 (coef_none x f.terms b.0) in
    period_stays x (next_delta n d (coef f.terms x)) c o.1 b.1 ∙ e
period_stays x n (NotDivides d f ∷ c) o b =
    let e = delta_stays n d (coef f.terms x) o.0 (coef_none x f.terms b.0) in
    period_stays x (next_delta n d (coef f.terms x)) c o.1 b.1 ∙ e

no_lower : (x : ℕ) (c : List Lit) → AreBelow x c → list_any (is_lower x) c ≡ false
no_lower x [] b = refl
no_lower x (l ∷ c) b = ap (λ (s : Bool). s || list_any (is_lower x) c) (lower_none x l b.0) ∙ no_lower x c b.1

all_stay : (x : ℕ) (c : List Lit) → AreBelow x c → filter (λ l. not (is_upper x l)) c ≡ c
all_stay x [] b = refl
all_stay x (l ∷ c) b =
    ap (λ (s : Bool). cond (not s) (l ∷ filter (λ k. not (is_upper x k)) c) (filter (λ k. not (is_upper x k)) c)) (upper_none x l b.0)
    ∙ ap (λ (ls : List Lit). l ∷ ls) (all_stay x c b.1)

never : (x : ℕ) (ts : List (ℕ × ℤ)) → BelowTerms x ts → occurs ts x ≡ false
never x [] b = refl
never x (t ∷ ts) b = by (nat_eq t.0 x) refl (never x ts b.1)
  where
    by : (s : Bool) → nat_eq t.0 x ≡ s → occurs ts x ≡ false → cond s true (occurs ts x) ≡ false
    by true e h = let q = eqb-true t.0 x e in let o = b.0 in absurd (omega arith)
    by false e h = h

put_stays : (x : ℕ) (c : List Lit) → AreBelow x c → put_all Int x 1 (constant_form (pos 0)) c ≡ c
put_stays x [] b = refl
put_stays x (l ∷ c) b =
    ap₂ (λ (k : Lit) (ks : List Lit). k ∷ ks)
    (ap (λ (s : Bool). cond s (prim Int (put_raw x 1 (constant_form (pos 0)) l)) l) (never x (form_of l).terms b.0)) (put_stays x c b.1)

case_stays : (x : ℕ) (c : List Lit) → AreBelow x c → free_case x c 0 ≡ c
case_stays x c b = ap (put_all Int x 1 (constant_form (pos 0))) (all_stay x c b) ∙ put_stays x c b

pub cooper_stays : (x : ℕ) (c : List Lit) → IsCube Int c → AreBelow x c → cooper c x ≡ c ∷ []
cooper_stays x c o b =
    ap (λ (s : Bool). cond s (lower_cases x (delta c x) [] c) (map (free_case x c) (range_with_len 0 (delta c x)))) (no_lower x c b)
    ∙ ap (λ (d : ℕ). map (free_case x c) (range_with_len 0 d)) (period_stays x 1 c o b)
    ∙ ap (λ (d : List Lit). d ∷ []) (case_stays x c b)

values_one : (x : ℕ) (c : List Lit) → IsCube Int c → AreBelow x c → case_values x c ≡ free_value x c 0 ∷ []
values_one x c o b =
    ap (λ (s : Bool). cond s (lower_values x (delta c x) c) (map (free_value x c) (range_with_len 0 (delta c x)))) (no_lower x c b)
    ∙ ap (λ (d : ℕ). map (free_value x c) (range_with_len 0 d)) (period_stays x 1 c o b)

no_upper : (x : ℕ) (c : List Lit) (p : Point) → AreBelow x c → least_upper x None c p ≡ None
no_upper x [] p b = refl
no_upper x (l ∷ c) p b =
    ap (λ (o : Option ℤ). least_upper x o c p) (ap (λ (s : Bool). cond s (Some (lesser (upper_value x l p) None)) None) (upper_none x l b.0)) ∙ no_upper x c p b.1

zero_value : (x : ℕ) (c : List Lit) (p : Point) → AreBelow x c → free_value x c 0 p ≡ pos 0
zero_value x c p b = ap (up_to (delta c x) 0) (no_upper x c p b)

-- ---- the level above

stepped : (x : ℕ) (c : List Lit) (r : Option Determined) → IsCube Int c → AreBelow x c → determined x Int c ≡ r → determined (suc x) Int c ≡ first_case (free_value x c 0 ∷ []) (r ∷ [])
stepped x c r o b e =
    ap₂ (λ (fs : List (Point → ℤ)) (ds : List (List Lit)). first_case fs (map (λ d. determined x Int d) ds)) (values_one x c o b) (cooper_stays x c o b)
    ∙ ap (λ (d : Option Determined). first_case (free_value x c 0 ∷ []) (d ∷ [])) e

abbrev more_numbers : Point → List ℤ
more_numbers q = (pos 0 ∷ pos 1 ∷ []) ++ pos q.den ∷ q.nums

skip_point : (x : ℕ) (c : List Lit) (p : Point) → IsCube Int c → AreBelow x c → IsKeptPoint p → IsDetermined Int x c p → IsDetermined Int (suc x) c (with_zeros p 1)
skip_point x c p o b w k =
    let d : Determined = record { point = p; numbers = k.numbers } in
    let s = next_zero p w.0 in
    subst (λ (y : Point). IsDetermined Int (suc x) c y) s
    (record {
      numbers = k.numbers ++ more_numbers (with_value p (whole (pos 0)));
      determines = stepped x c (Some d) o b k.determines ∙ ap (λ (z : ℤ). Some (with_values d (whole z ∷ []))) (zero_value x c p b);
      fits = past-append k.numbers (more_numbers (with_value p (whole (pos 0)))) k.fits
          ∙ ap (λ (y : Point). first_past (more_numbers y)) s ∙ zero_fits p w;
    })

some_point : (x : ℕ) (c : List Lit) (z : ℤ) (r : Option Determined) → IsCube Int c → AreBelow x c → determined x Int c ≡ r → first_past (point_numbers r) ≡ Some z → first_past (point_numbers (determined (suc x) Int c)) ≡ Some z
some_point x c z None o b e h = absurd (cc)
some_point x c z (Some d) o b e h =
    ap (λ (r : Option Determined). first_past (point_numbers r)) (stepped x c (Some d) o b e)
    ∙ past-append_some d.numbers (numbers_after d) z h
  where
    numbers_after : Determined → List ℤ
    numbers_after d =
        let v = free_value x c 0 d.point in
        let q = with_value d.point (whole v) in
        (v ∷ pos 1 ∷ []) ++ pos q.den ∷ q.nums

skip_wide : (x : ℕ) (c : List Lit) (z : ℤ) → IsCube Int c → AreBelow x c → WideBelow x Int c z → WideBelow (suc x) Int c z
skip_wide x c z o b (inl a) =
    inl (
      among_right (elimination_numbers Int c x) (flat_map (λ d. numbers_below x Int d) (cooper c x)) z
          (subst (λ (ds : List (List Lit)). IsAmong z (flat_map (λ d. numbers_below x Int d) ds)) (sym (cooper_stays x c o b)) (among_left (numbers_below x Int c) [] z a.0)),
      a.1,
    )
skip_wide x c z o b (inr a) = inr (some_point x c z (determined x Int c) o b refl a)

pub padded_point : (k x : ℕ) (c : List Lit) (p : Point) → IsCube Int c → AreBelow x c → IsKeptPoint p → IsDetermined Int x c p → IsDetermined Int (k + x) c (with_zeros p k)
padded_point zero x c p o b w d = subst (λ (j : ℕ). IsDetermined Int j c (with_zeros p 0)) (let e : x ≡ 0 + x = omega arith in e) (subst (λ (y : Point). IsDetermined Int x c y) (sym (ap (point_of p.den) (append_none p.nums))) d)
padded_point (suc k) x c p o b w d =
    let h = padded_point k x c p o b w d in
    let v : IsKeptPoint (with_zeros p k) = (w.0, w.1, within_zeros p.nums k w.2) in
    let s = skip_point (k + x) c (with_zeros p k) o (more_below x (k + x) c (omega arith) b) v h in
    subst (λ (j : ℕ). IsDetermined Int j c (with_zeros p (suc k))) (let e : suc (k + x) ≡ suc k + x = omega arith in e)
    (subst (λ (y : Point). IsDetermined Int (suc (k + x)) c y) (one_more_zero p k) s)

pub padded_wide : (k x : ℕ) (c : List Lit) (z : ℤ) → IsCube Int c → AreBelow x c → WideBelow x Int c z → WideBelow (k + x) Int c z
padded_wide zero x c z o b h = subst (λ (j : ℕ). WideBelow j Int c z) (let e : x ≡ 0 + x = omega arith in e) h
padded_wide (suc k) x c z o b h =
    subst (λ (j : ℕ). WideBelow j Int c z) (let e : suc (k + x) ≡ suc k + x = omega arith in e)
    (skip_wide (k + x) c z o (more_below x (k + x) c (omega arith) b) (padded_wide k x c z o b h))

pub padded_proof : (n m : ℕ) (c : List Lit) (old new : List Step) → n ≤ m → AddsProof n c old new → AddsProof m c old new
padded_proof n m c old new h a =
    record {
      made = a.made;
      added = a.added;
      closes = record {
        tree = a.closes.tree;
        lines = a.closes.lines;
        closes = closes_too a.closes.tree (bare_rules Int n) (bare_rules Int m) (bare_more Int n m h) (cube_context c) a.closes.closes;
      };
    }

-- ---- the end of a search

pub raised_ends : (h n k : ℕ) (c : List Lit) (old new : List Step) (f g : Found) → k + h ≡ n → IsCube Int c → AreBelow h c → Ends h c old new f → IsRaised f k g → Ends n c old new g
raised_ends h n k c old new (point p) (point q) e o b d r =
    subst (λ (j : ℕ). IsDetermined Int j c q) e (subst (λ (y : Point). IsDetermined Int (k + h) c y) (sym r.0) (padded_point k h c p o b r.1 d))
raised_ends h n k c old new (point p) Refuted e o b d r = absurd r
raised_ends h n k c old new (point p) (Wide w) e o b d r = absurd r
raised_ends h n k c old new Refuted (point q) e o b d r = absurd r
raised_ends h n k c old new Refuted Refuted e o b d r = padded_proof h n c old new (omega arith) d
raised_ends h n k c old new Refuted (Wide w) e o b d r = absurd r
raised_ends h n k c old new (Wide w) (point q) e o b d r = absurd r
raised_ends h n k c old new (Wide w) Refuted e o b d r = absurd r
raised_ends h n k c old new (Wide w) (Wide z) e o b d r =
    subst (λ (j : ℕ). WideBelow j Int c z.number) e (subst (λ (y : a_number). WideBelow (k + h) Int c y.number) (sym r) (padded_wide k h c w.number o b d))

pub raised_result : (h n k : ℕ) (c : List Lit) (old new : List Step) (f : Found) (r : Result Found Memory) → k + h ≡ n → IsCube Int c → AreBelow h c → Ends h c old new f → IfOk r (IsRaised f k) → IfOk r (Ends n c old new)
raised_result h n k c old new f (Ok g) e o b d r = raised_ends h n k c old new f g e o b d r
raised_result h n k c old new f (Err g) e o b d r = tt

-- a number past the cap below is one above
pub wide_result : (h n : ℕ) (c : List Lit) (z : ℤ) → h ≤ n → IsCube Int c → AreBelow h c → WideBelow h Int c z → WideBelow n Int c z
wide_result h n c z l o b d = subst (λ (j : ℕ). WideBelow j Int c z) (let e : (n - h) + h ≡ n = omega arith in e) (padded_wide (n - h) h c z o b d)

pub fault_result : (h n : ℕ) (c : List Lit) (old new : List Step) (fault : Short a_number) (r : Result Found Memory) → h ≤ n → IsCube Int c → AreBelow h c → IfOk r (IsFault fault) → IfOk r (Ends h c old new) → IfOk r (Ends n c old new)
fault_result h n c old new (short.Fault w) (Ok (point p)) l o b f e = absurd f
fault_result h n c old new (short.Fault w) (Ok Refuted) l o b f e = absurd f
fault_result h n c old new (short.Fault w) (Ok (Wide z)) l o b f e = wide_result h n c z.number l o b e
fault_result h n c old new short.Memory (Ok g) l o b f e = absurd f
fault_result h n c old new fault (Err g) l o b f e = tt
