-- Over the integers: the point that a cube determines is one at which it holds.
use Rattle.std.specs.Prelude.{ℕ, zero, suc, ◌*◌, ◌/◌, ◌%◌, ◌<◌, ◌≡◌, ℤ, pos, ◌*ℤ◌, nat_abs, nat_eq, Bool, true, false, not, cond, Option, Some, None, List, [], ◌∷◌, ◌++◌, length, get_or, take, map}
use Rattle.std.specs.List.{AllByRecursion}
use Rattle.std.proofs.Common.{arith, ap, ap₂, ◌∙◌, sym, subst, refl, length-append}
use Rattle.std.proofs.lemmas.Bool.{and_parts, eqb-true}
use Rattle.std.proofs.lemmas.Int.{ints}
use Rattle.lin_term.specs.declared.Sort.TheVariants.{Int}
use Rattle.lin_term.specs.declared.Lit.{Lit}
use Rattle.lin_term.specs.declared.Lit.TheVariants.{AtLeast, Above, Divides, NotDivides}
use Rattle.lin_term.specs.Linear.{Point, dot, extend, scale_all, origin}
use Rattle.lin_term.specs.Literal.{Holds, gcd}
use Rattle.lin_term.proofs.PrimitiveLemmas.{one_times}
use Rattle.dom_core.specs.Cube.{assign, CubeHolds, IsCube}
use Rattle.dom_core.specs.Elimination.{cooper}
use Rattle.dom_core.proofs.Assigning.{whole, assign_last}
use Rattle.dom_core.proofs.Reducing.{all_at}
use Rattle.cube_rules.specs.declared.Step.{Step}
use Rattle.cube_rules.specs.Bare.{ClosesBare}
use Rattle.cube_rules.proofs.Cases.{cases_are}
use Rattle.cube_rules.proofs.Lifting.{bare_is_empty}
use Rattle.cube_rules.proofs.Sound.{some_same}
use Rattle.cube_elim.specs.Determined.{holds_at, all_hold_at, Determined, with_value, with_values, first_case, start, determined, case_values}
use Rattle.cube_elim.specs.Values.{added, no_value}
use Rattle.cube_elim.specs.Deciding.{IsSolution}
use Rattle.cube_elim.proofs.SoundCases.{case_sound}

-- ---- literals at a point

not_true : (b : Bool) → not b ≡ true → b ≡ false
not_true true e = absurd (cc)
not_true false e = refl

eqb_no : (a : ℕ) → nat_eq a 0 ≡ false → a ≡ 0 → ⊥
eqb_no zero e q = absurd (cc)
eqb_no (suc a) e q = absurd (omega arith)

lit_holds : (l : Lit) (p : Point) → holds_at l p ≡ true → Holds l p
lit_holds (AtLeast f) p e = omega (arith, ints)
lit_holds (Above f) p e = omega (arith, ints)
lit_holds (Divides d f) p e = eqb-true (nat_abs (dot f p) % (d * p.den)) 0 e
lit_holds (NotDivides d f) p e = λ q. eqb_no (nat_abs (dot f p) % (d * p.den)) (not_true (nat_eq (nat_abs (dot f p) % (d * p.den)) 0) e) q

pub all_hold : (c : List Lit) (p : Point) → all_hold_at c p ≡ true → CubeHolds c p
all_hold [] p e = tt
all_hold (l ∷ c) p e =
    let a = and_parts (holds_at l p) (all_hold_at c p) e in
    (lit_holds l p a.0, all_hold c p a.1)

-- ---- one more whole number

scale_one : (zs : List ℤ) → scale_all (pos 1) zs ≡ zs
scale_one [] = refl
scale_one (z ∷ zs) = ap₂ (λ (y : ℤ) (ys : List ℤ). y ∷ ys) (let e : z *ℤ pos 1 ≡ z = omega (arith, ints) in e) (scale_one zs)

pub map_one : (zs : List ℤ) → map (λ z. z *ℤ pos 1) zs ≡ zs
map_one [] = refl
map_one (z ∷ zs) = ap₂ (λ (y : ℤ) (ys : List ℤ). y ∷ ys) (let e : z *ℤ pos 1 ≡ z = omega (arith, ints) in e) (map_one zs)

abbrev point_of : ℕ → List ℤ → Point
point_of d zs = record { den = d; nums = zs }

pub extend_whole : (p : Point) (v : ℤ) → p.den ≡ 1 → extend p (whole v) ≡ added p v
extend_whole p v i =
    ap₂ point_of (let e : p.den * 1 ≡ 1 = omega arith in e)
    (ap₂ (λ (ys zs : List ℤ). ys ++ zs) (scale_one p.nums) (ap (λ (z : ℤ). z ∷ []) (one_times v p.den i)))

one_one : gcd 1 1 ≡ 1
unfolding gcd
one_one = refl

with_one : (zs : List ℤ) (v : ℤ) → with_value (point_of 1 zs) (whole v) ≡ added (point_of 1 zs) v
with_one zs v =
    ap (λ (g : ℕ). let d = 1 * (1 / g) in point_of d (map (λ z. z *ℤ pos (d / 1)) zs ++ (v *ℤ pos (d / 1)) ∷ [])) one_one
    ∙ ap₂ (λ (ys : List ℤ) (y : ℤ). point_of 1 (ys ++ y ∷ [])) (map_one zs) (let e : v *ℤ pos 1 ≡ v = omega (arith, ints) in e)

pub with_whole : (p : Point) (v : ℤ) → p.den ≡ 1 → with_value p (whole v) ≡ added p v
with_whole p v i = subst (λ (d : ℕ). with_value (point_of d p.nums) (whole v) ≡ added (point_of d p.nums) v) (sym i) (with_one p.nums v)

-- ---- the first case that has a point

pub record CaseFound (fs : List (Point → ℤ)) (cs : List (List Lit)) (D : List Lit → Option Determined) (d' : Determined) : Type 0 where
  pub place : ℕ
  pub within : place < length cs
  pub found : Determined
  pub has : D (get_or cs place []) ≡ Some found
  pub is : d' ≡ with_values found (whole (get_or fs place no_value found.point) ∷ [])

pub first_found : (fs : List (Point → ℤ)) (cs : List (List Lit)) (D : List Lit → Option Determined) (d' : Determined) → first_case fs (map D cs) ≡ Some d' → CaseFound fs cs D d'
first_found [] cs D d' e = absurd (cc)
first_found (f ∷ fs) [] D d' e = absurd (cc)
first_found (f ∷ fs) (c ∷ cs) D d' e = by (D c) refl e (λ u. first_found fs cs D d' u)
  where
    by : (o : Option Determined) → D c ≡ o → first_case (f ∷ fs) (o ∷ map D cs) ≡ Some d' → (first_case fs (map D cs) ≡ Some d' → CaseFound fs cs D d') → CaseFound (f ∷ fs) (c ∷ cs) D d'
    by (Some d) q e k =
        record { place = 0; within = omega arith; found = d; has = q; is = some_same d' (with_values d (whole (f d.point) ∷ [])) (sym e) }
    by None q e k =
        let r = k e in
        record { place = suc r.place; within = (let w = r.within in omega arith); found = r.found; has = r.has; is = r.is }

-- the case at a place is the first where none before has a point
pub first_at : (fs : List (Point → ℤ)) (cs : List (List Lit)) (D : List Lit → Option Determined) (i : ℕ) (d : Determined) → i < length cs → length fs ≡ length cs → AllByRecursion (λ c. D c ≡ None) (take i cs) → D (get_or cs i []) ≡ Some d → first_case fs (map D cs) ≡ Some (with_values d (whole (get_or fs i no_value d.point) ∷ []))
first_at fs [] D i d h l n e = absurd (omega arith)
first_at [] (c ∷ cs) D i d h l n e = absurd (omega arith)
first_at (f ∷ fs) (c ∷ cs) D zero d h l n e = ap (λ (o : Option Determined). first_case (f ∷ fs) (o ∷ map D cs)) e
first_at (f ∷ fs) (c ∷ cs) D (suc i) d h l n e =
    ap (λ (o : Option Determined). first_case (f ∷ fs) (o ∷ map D cs)) n.0
    ∙ first_at fs cs D i d (omega arith) (omega arith) n.1 e

-- ---- the point

start_holds : (c : List Lit) (d : Determined) (b : Bool) → all_hold_at c origin ≡ b → cond b (Some start) None ≡ Some d → IsSolution Int 0 c d.point
start_holds c d true e q =
    let r = some_same start d q in
    subst (λ (x : Determined). IsSolution Int 0 c x.point) r (record { count = refl; point = refl; holds = all_hold c origin e })
start_holds c d false e q = absurd (cc)

added_holds : (x : ℕ) (c : List Lit) (p : Point) (v : ℤ) → p.den ≡ 1 → length p.nums ≡ x → CubeHolds c (assign p x (whole v)) → IsSolution Int (suc x) c (added p v)
added_holds x c p v i l h =
    record {
      count = (let e = length-append p.nums (v ∷ []) in omega arith);
      point = refl;
      holds = subst (λ (q : Point). CubeHolds c q) (assign_last p x (whole v) l ∙ extend_whole p v i) h;
    }

pub determined_holds : (n : ℕ) (c : List Lit) (d : Determined) → IsCube Int c → determined n Int c ≡ Some d → IsSolution Int n c d.point
determined_holds zero c d o e = start_holds c d (all_hold_at c origin) refl e
determined_holds (suc x) c d o e =
    let r = first_found (case_values x c) (cooper c x) (λ k. determined x Int k) d e in
    let k = all_at (IsCube Int) (cooper c x) r.place [] r.within (cases_are c x o) in
    let s = determined_holds x (get_or (cooper c x) r.place []) r.found k r.has in
    let p = r.found.point in
    let v = get_or (case_values x c) r.place no_value p in
    let t = added_holds x c p v s.point s.count (case_sound x c r.place p s.point o r.within s.holds) in
    subst (λ (q : Point). IsSolution Int (suc x) c q) (sym (ap (λ (y : Determined). y.point) r.is ∙ with_whole p v s.point)) t

-- a cube that is closed determines no point
pub closed_none : (n m : ℕ) (c : List Lit) (steps : List Step) → IsCube Int c → ClosesBare Int m c steps → determined n Int c ≡ None
closed_none n m c steps o k = by (determined n Int c) refl
  where
    by : (r : Option Determined) → determined n Int c ≡ r → r ≡ None
    by None e = refl
    by (Some d) e = let s = determined_holds n c d o e in absurd (bare_is_empty Int m c steps k o d.point s.point s.holds)
