-- How the search ends, level by level.
use Rattle.std.specs.Prelude.{ℕ, zero, suc, ◌+◌, ◌*◌, ◌<◌, ◌≤◌, ◌≡◌, ℤ, pos, ◌+ℤ◌, ◌*ℤ◌, nat_abs, Bool, true, false, not, ◌&&◌, cond, Option, Some, None, List, [], ◌∷◌, ◌++◌, length, get_or, take}
use Rattle.std.specs.List.{AllByRecursion, flat_map}
use Rattle.std.proofs.Common.{arith, ap, ◌∙◌, sym, subst, refl, inl, inr}
use Rattle.std.proofs.lemmas.Int.{ints}
use Rattle.lin_term.specs.Form.{cap}
use Rattle.lin_term.specs.declared.Sort.TheVariants.{Int}
use Rattle.lin_term.specs.declared.Lit.{Lit}
use Rattle.lin_term.specs.declared.Lit.TheVariants.{AtLeast, Above, Divides, NotDivides}
use Rattle.lin_term.specs.Linear.{Point, Below, BelowTerms, dot, dot_terms, origin}
use Rattle.lin_term.specs.Literal.{form_of}
use Rattle.lin_term.specs.Point.{AreWithin}
use Rattle.lin_term.specs.Truth.{truth_of, truth_at, truth_without, divides_number}
use Rattle.lin_term.specs.Wide.{first_past, fits}
use Rattle.lin_term.proofs.Capping.{past-append, past-append_some, past-within, past-past}
use Rattle.dom_core.specs.Elimination.{cooper, elimination_numbers}
use Rattle.dom_core.specs.Reduced.{AreBelow}
use Rattle.dom_core.proofs.Assigning.{whole}
use Rattle.cube_rules.specs.Lines.{is_false}
use Rattle.cube_rules.specs.declared.Step.{Step}
use Rattle.cube_elim.specs.declared.found.Found.{Found}
use Rattle.cube_elim.specs.declared.found.Found.TheVariants.{Point as point, Refuted, Wide}
use Rattle.cube_elim.specs.Among.{IsAmong}
use Rattle.cube_elim.specs.Determined.{numbers_below, holds_at, all_hold_at, Determined, with_value, with_values, start, determined, case_values, point_numbers, IsPast, WideBelow}
use Rattle.cube_elim.specs.Values.{added, no_value}
use Rattle.cube_elim.specs.Searching.{IsDetermined, AddsProof}
use Rattle.cube_elim.specs.Ending.{Ends, Steps}
use Rattle.cube_elim.proofs.CaseValues.{length-case_values}
use Rattle.cube_elim.proofs.Amongs.{among_left, among_right, among_each, past_among}
use Rattle.cube_elim.proofs.Leaves.{leaf_ends}
use Rattle.cube_elim.specs.Ending.{IsFault}
use Rattle.cube_elim.specs.Deciding.{IsSolution}
use Rattle.cube_elim.proofs.SoundPoints.{first_at, with_whole, determined_holds}
use Rattle.cube_elim.proofs.Closings.{false_closes}
use Rattle.std.specs.Prelude.{Result, Ok, Err, IfOk, nat_lt}
use Rattle.std.specs.List.{position, position_or_len}
use Rattle.std.proofs.lemmas.List.{get_or_default}
use Rattle.std.proofs.lemmas.List.Quantifiers.{position-Some}
use Rattle.lin_term.specs.Linear.{constant_form}
use Rattle.lin_term.specs.Wide.{Capped}
use Rattle.lin_term.specs.declared.Memory.{Memory}
use Rattle.lin_term.specs.declared.Short.{Short}
use Rattle.lin_term.specs.declared.Short.TheVariants as short
use Rattle.lin_term.specs.declared.Wide.{Wide as a_number}
use Rattle.dom_core.specs.Cube.{IsPrimitiveCube}
use Rattle.dom_core.specs.Elimination.{cube_numbers, delta}
use Rattle.dom_core.proofs.AddingLemmas.{cube_of}
use Rattle.dom_core.proofs.Periods.{delta_period}
use Rattle.dom_int.specs.Counts.{first_numbers}
use Rattle.dom_int.specs.Target.{Target}
use Rattle.cube_rules.specs.declared.Step.TheVariants.{False}

-- a number of the elimination of the highest variable
pub wide_now : (x : ℕ) (c : List Lit) (w : ℤ) → first_past (elimination_numbers Int c x) ≡ Some w → WideBelow (suc x) Int c w
wide_now x c w h =
    let r = past_among (elimination_numbers Int c x) w h in
    inl (among_left (elimination_numbers Int c x) (flat_map (λ d. numbers_below x Int d) (cooper c x)) w r.0, r.1)

-- ---- the numbers of the point

step_numbers : List ℤ → ℤ → List ℤ
step_numbers nums v = (v ∷ pos 1 ∷ []) ++ pos 1 ∷ (nums ++ v ∷ [])

within_past : (zs : List ℤ) (v : ℤ) → AreWithin zs → nat_abs v ≤ cap → first_past (zs ++ v ∷ []) ≡ None
within_past [] v w h = past-within v [] h
within_past (z ∷ zs) v w h = past-within z (zs ++ v ∷ []) w.0 ∙ within_past zs v w.1 h

steps_fit : (zs : List ℤ) (v : ℤ) → AreWithin zs → nat_abs v ≤ cap → first_past ((v ∷ pos 1 ∷ []) ++ pos 1 ∷ (zs ++ v ∷ [])) ≡ None
steps_fit zs v w h =
    past-within v (pos 1 ∷ pos 1 ∷ (zs ++ v ∷ [])) h
    ∙ past-within (pos 1) (pos 1 ∷ (zs ++ v ∷ [])) (omega arith)
    ∙ past-within (pos 1) (zs ++ v ∷ []) (omega arith)
    ∙ within_past zs v w h

abbrev with_added : Point → List ℤ → ℤ → Determined
with_added p numbers v = record { point = added p v; numbers = numbers ++ ((v ∷ pos 1 ∷ []) ++ pos 1 ∷ (p.nums ++ v ∷ [])) }

values_are : (p : Point) (numbers : List ℤ) (v : ℤ) → p.den ≡ 1 → with_values (record { point = p; numbers = numbers }) (whole v ∷ []) ≡ with_added p numbers v
values_are p numbers v i =
    ap (λ (q : Point). let d : Determined = record { point = q; numbers = numbers ++ ((v ∷ pos 1 ∷ []) ++ pos q.den ∷ q.nums) } in d) (with_whole p v i)

-- the first case with a point, and its value
stepped : (x : ℕ) (c : List Lit) (i : ℕ) (p : Point) → p.den ≡ 1 → i < length (cooper c x) → AllByRecursion (λ d. determined x Int d ≡ None) (take i (cooper c x)) → (k : IsDetermined Int x (get_or (cooper c x) i []) p) → determined (suc x) Int c ≡ Some (with_added p k.numbers (get_or (case_values x c) i no_value p))
stepped x c i p o h n k =
    first_at (case_values x c) (cooper c x) (λ d. determined x Int d) i (record { point = p; numbers = k.numbers }) h (length-case_values x c) n k.determines
    ∙ ap Some (values_are p k.numbers (get_or (case_values x c) i no_value p) o)

pub point_ends : (x : ℕ) (c : List Lit) (i : ℕ) (p : Point) (old new : List Step) (f : Found) → p.den ≡ 1 → i < length (cooper c x) → AllByRecursion (λ d. determined x Int d ≡ None) (take i (cooper c x)) → IsDetermined Int x (get_or (cooper c x) i []) p → AreWithin p.nums → Steps p (get_or (case_values x c) i no_value p) f → Ends (suc x) c old new f
point_ends x c i p old new (point q) o h n k w s =
    let v = get_or (case_values x c) i no_value p in
    let r : IsDetermined Int (suc x) c (added p v) = record {
      numbers = k.numbers ++ ((v ∷ pos 1 ∷ []) ++ pos 1 ∷ (p.nums ++ v ∷ []));
      determines = stepped x c i p o h n k;
      fits = past-append k.numbers ((v ∷ pos 1 ∷ []) ++ pos 1 ∷ (p.nums ++ v ∷ [])) k.fits ∙ steps_fit p.nums v w s.1;
    } in
    subst (λ (y : Point). IsDetermined Int (suc x) c y) (sym s.0) r
point_ends x c i p old new Refuted o h n k w s = absurd s
point_ends x c i p old new (Wide a_wide) o h n k w s =
    let v = get_or (case_values x c) i no_value p in
    let a : first_past (point_numbers (determined (suc x) Int c)) ≡ Some v =
    ap (λ (d : Option Determined). first_past (point_numbers d)) (stepped x c i p o h n k)
    ∙ past-append k.numbers ((v ∷ pos 1 ∷ []) ++ pos 1 ∷ (p.nums ++ v ∷ [])) k.fits
    ∙ past-past v (pos 1 ∷ pos 1 ∷ (p.nums ++ v ∷ [])) s.1 in
    inr (subst (λ (y : ℤ). first_past (point_numbers (determined (suc x) Int c)) ≡ Some y) (sym s.0) a)

-- a case that is wide below
some_point : (x : ℕ) (c : List Lit) (i : ℕ) (w : ℤ) (r : Option Determined) → determined x Int (get_or (cooper c x) i []) ≡ r → i < length (cooper c x) → AllByRecursion (λ d. determined x Int d ≡ None) (take i (cooper c x)) → first_past (point_numbers r) ≡ Some w → first_past (point_numbers (determined (suc x) Int c)) ≡ Some w
some_point x c i w None e h n k = absurd (cc)
some_point x c i w (Some d) e h n k =
    ap (λ (o : Option Determined). first_past (point_numbers o)) (first_at (case_values x c) (cooper c x) (λ d. determined x Int d) i d h (length-case_values x c) n e)
    ∙ past-append_some d.numbers (more d) w k
  where
    more : Determined → List ℤ
    more d =
        let p = with_value d.point (whole (get_or (case_values x c) i no_value d.point)) in
        (get_or (case_values x c) i no_value d.point ∷ pos 1 ∷ []) ++ pos p.den ∷ p.nums

pub wide_ends : (x : ℕ) (c : List Lit) (i : ℕ) (w : ℤ) → i < length (cooper c x) → AllByRecursion (λ d. determined x Int d ≡ None) (take i (cooper c x)) → WideBelow x Int (get_or (cooper c x) i []) w → WideBelow (suc x) Int c w
wide_ends x c i w h n (inl a) =
    inl (among_right (elimination_numbers Int c x) (flat_map (λ d. numbers_below x Int d) (cooper c x)) w (among_each (λ d. numbers_below x Int d) (cooper c x) i [] w h a.0), a.1)
wide_ends x c i w h n (inr a) = inr (some_point x c i w (determined x Int (get_or (cooper c x) i [])) refl h n a)

-- ---- the calls of the search

pub false_ends : (n : ℕ) (cube lits : List Lit) (place : ℕ) (old new : List Step) → lits ≡ cube → Some place ≡ position (λ l. is_false (truth_of l)) lits → new ≡ old ++ False place ∷ [] → AddsProof n cube old new
false_ends n cube lits place old new q e f =
    let d : Lit = AtLeast (constant_form (pos 0)) in
    let r = position-Some (λ l. is_false (truth_of l)) cube place d (ap (λ (ls : List Lit). position (λ l. is_false (truth_of l)) ls) (sym q) ∙ sym e) in
    record {
      made = False place ∷ [];
      added = f;
      closes = false_closes Int n cube place (get_or cube place d) r.0 (get_or_default cube place d (get_or cube place d) r.0) r.1;
    }

none_passes : (p : Lit → Bool) (ls : List Lit) → length ls ≤ position_or_len p ls → AllByRecursion (λ l. p l ≡ false) ls
none_passes p [] h = tt
none_passes p (l ∷ ls) h = by (p l) refl h (λ k. none_passes p ls k)
  where
    by : (b : Bool) → p l ≡ b → length (l ∷ ls) ≤ cond (not b) (1 + position_or_len p ls) 0 → (length ls ≤ position_or_len p ls → AllByRecursion (λ m. p m ≡ false) ls) → (p l ≡ false) × AllByRecursion (λ m. p m ≡ false) ls
    by true e h k = absurd (omega arith)
    by false e h k = (e, k (omega arith))

none_at : (b : Bool) (i : ℕ) → None ≡ cond b (Some i) None → b ≡ false
none_at true i e = absurd (cc)
none_at false i e = refl

ltb_no : (a b : ℕ) → nat_lt a b ≡ false → b ≤ a
ltb_no a b e = grind arith

pub open_ends : (n : ℕ) (cube lits : List Lit) (p : Point) → n ≡ 0 → lits ≡ cube → AreBelow n cube → None ≡ position (λ l. is_false (truth_of l)) lits → p ≡ origin → IsDetermined Int n cube p
open_ends n cube lits p z q b e o =
    let f = λ (l : Lit). is_false (truth_of l) in
    let a = none_passes f lits (ltb_no (position_or_len f lits) (length lits) (none_at (nat_lt (position_or_len f lits) (length lits)) (position_or_len f lits) e)) in
    subst (λ (m : ℕ). IsDetermined Int m cube p) (sym z)
    (leaf_ends Int cube p o (subst (λ (m : ℕ). AreBelow m cube) z b) (subst (λ (ls : List Lit). AllByRecursion (λ l. is_false (truth_of l) ≡ false) ls) q a))

abbrev target : List Lit → ℕ → Target
target c x = record { cube = c; variable = x }

pub first_ends : (n x : ℕ) (cube copy : List Lit) (w : ℤ) → suc x ≡ n → copy ≡ cube → first_past (first_numbers copy x) ≡ Some w → WideBelow n Int cube w
first_ends n x cube copy w s q h =
    subst (λ (m : ℕ). WideBelow m Int cube w) s
    (wide_now x cube w (past-append_some (first_numbers cube x) (flat_map cube_numbers (cooper cube x)) w (subst (λ (ls : List Lit). first_past (first_numbers ls x) ≡ Some w) q h)))

pub fault_ends : (n x : ℕ) (cube : List Lit) (old new : List Step) (fault : Short a_number) (r : Result Found Memory) → suc x ≡ n → Capped {A = List (List Lit)} (elimination_numbers Int cube x) (cooper cube x) (Err fault) → IfOk r (IsFault fault) → IfOk r (Ends n cube old new)
fault_ends n x cube old new (short.Fault w) (Ok (point p)) s h f = absurd f
fault_ends n x cube old new (short.Fault w) (Ok Refuted) s h f = absurd f
fault_ends n x cube old new (short.Fault w) (Ok (Wide z)) s h f =
    subst (λ (m : ℕ). WideBelow m Int cube z.number) s (subst (λ (y : a_number). WideBelow (suc x) Int cube y.number) (sym f) (wide_now x cube w.number h))
fault_ends n x cube old new short.Memory (Ok g) s h f = absurd f
fault_ends n x cube old new fault (Err e) s h f = tt

pub case_solves : (x : ℕ) (c : List Lit) (p : Point) → IsPrimitiveCube Int c → IsDetermined Int x c p → IsSolution Int x c p
case_solves x c p o k = determined_holds x c (record { point = p; numbers = k.numbers }) (cube_of Int c o) k.determines

pub case_wide : (n x i : ℕ) (cube case : List Lit) (w : ℤ) → suc x ≡ n → i < length (cooper cube x) → case ≡ get_or (cooper cube x) i [] → AllByRecursion (λ d. determined x Int d ≡ None) (take i (cooper cube x)) → WideBelow x Int case w → WideBelow n Int cube w
case_wide n x i cube case w s h e a k =
    subst (λ (m : ℕ). WideBelow m Int cube w) s (wide_ends x cube i w h a (subst (λ (c : List Lit). WideBelow x Int c w) e k))

pub case_point : (n x i : ℕ) (cube lits case : List Lit) (p : Point) (old new : List Step) (r : Result Found Memory) → suc x ≡ n → lits ≡ cube → i < length (cooper cube x) → case ≡ get_or (cooper cube x) i [] → AllByRecursion (λ d. determined x Int d ≡ None) (take i (cooper cube x)) → IsPrimitiveCube Int case → IsDetermined Int x case p → IfOk r (Steps p (get_or (case_values x lits) i no_value p)) → IfOk r (λ f. AreWithin p.nums) → IfOk r (Ends n cube old new)
case_point n x i cube lits case p old new (Ok f) s q h e a o k t w =
    let v = case_solves x case p o k in
    subst (λ (m : ℕ). Ends m cube old new f) s
    (point_ends x cube i p old new f v.point h a (subst (λ (c : List Lit). IsDetermined Int x c p) e k) w (subst (λ (ls : List Lit). Steps p (get_or (case_values x ls) i no_value p) f) q t))
case_point n x i cube lits case p old new (Err g) s q h e a o k t w = tt

pub period_one : (x : ℕ) (cube lits : List Lit) → lits ≡ cube → IsPrimitiveCube Int cube → 1 ≤ delta lits x
period_one x cube lits q o =
    subst (λ (ls : List Lit). 1 ≤ delta ls x) (sym q) ((delta_period cube x (cube_of Int cube o)).0)
