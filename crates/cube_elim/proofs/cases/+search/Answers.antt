use Rattle.std.specs.Prelude.{Err, Ok, suc, Option}
use Rattle.std.proofs.lemmas.List.{drop_all}
use Rattle.std.specs.List.{flat_map}
use Rattle.std.proofs.Common.{ℕ, ℤ, List, ◌≡◌, ◌≤◌, ◌<◌, ◌+◌, ◌-◌, ◌∙◌, [], refl, ap, sym, subst, arith, length, get_or, None, drop}
use Rattle.lin_term.specs.declared.Sort.TheVariants.{Int}
use Rattle.lin_term.specs.declared.Lit.{Lit}
use Rattle.lin_term.specs.Wide.{Capped, first_past}
use Rattle.lin_term.proofs.Capping.{past-append}
use Rattle.dom_core.specs.Elimination.{cooper, cube_numbers, elimination_numbers}
use Rattle.dom_core.specs.Reduced.{AreBelow, IsReduced}
use Rattle.dom_core.proofs.AddingLemmas.{cube_of, case_refused, case_more}
use Rattle.dom_core.proofs.Reducing.{below_less}
use Rattle.dom_int.specs.Counts.{first_numbers}
use Rattle.dom_int.specs.Case.{case_at}
use Rattle.dom_int.specs.Target.{Target}
use Rattle.cube_rules.specs.declared.Step.TheVariants.{Least}
use Rattle.cube_elim.specs.Ending.{Ends}
use Rattle.cube_elim.specs.Searching.{AddsProof}
use Rattle.cube_elim.specs.declared.found.Found.{Found}
use Rattle.cube_elim.specs.declared.found.Found.TheVariants.{Point}
use Rattle.cube_elim.proofs.Closings.{refuting_none, refuting_more, refuting_done}
use Rattle.cube_elim.specs.Determined.{height}
use Rattle.cube_elim.proofs.Heights.{below_height, height_least}
use Rattle.cube_elim.proofs.Skipping.{raised_result, wide_result, fault_result, padded_proof}
use Rattle.cube_elim.proofs.Searches.{false_ends, open_ends, first_ends, fault_ends, case_solves, case_wide, case_point, period_one}
use Rattle.cube_elim.proofs.cases.+search.Goals as goal

-- the elimination's cube is the cube
target_is : (cube copy : List Lit) (x : ℕ) (e : Target) → copy ≡ cube → e ≡ record { cube = copy; variable = x } → e ≡ record { cube = cube; variable = x }
target_is cube copy x e q h = h ∙ ap (λ (ls : List Lit). let t : Target = record { cube = ls; variable = x } in t) q

index_is : (cube : List Lit) (x i k : ℕ) (e : Target) → e ≡ record { cube = cube; variable = x } → k ≡ length (cooper e.cube e.variable) → i < k → i < length (cooper cube x)
index_is cube x i k e q c h = subst (λ (n : ℕ). i < n) (c ∙ ap (λ (t : Target). length (cooper t.cube t.variable)) q) h

case_is : (cube : List Lit) (x i : ℕ) (e : Target) (case : List Lit) → e ≡ record { cube = cube; variable = x } → case ≡ case_at e.cube e.variable i → case ≡ get_or (cooper cube x) i []
case_is cube x i e case q c = c ∙ ap (λ (t : Target). case_at t.cube t.variable i) q

reduced_is : (cube : List Lit) (n x : ℕ) (e : Target) (case : List Lit) → suc x ≡ n → e ≡ record { cube = cube; variable = x } → AreBelow n cube → ((m : ℕ) → AreBelow m e.cube → IsReduced Int m e.variable case) → IsReduced Int (suc x) x case
reduced_is cube n x e case s q b r =
    subst (λ (t : Target). (m : ℕ) → AreBelow m t.cube → IsReduced Int m t.variable case) q r (suc x) (subst (λ (m : ℕ). AreBelow m cube) (sym s) b)

all_fit : (cs : List (List Lit)) (i : ℕ) (o : Option ℤ) → length cs ≤ i → first_past (flat_map cube_numbers (drop i cs)) ≡ o → o ≡ None
all_fit cs i o h e = sym e ∙ ap (λ (ds : List (List Lit)). first_past (flat_map cube_numbers ds)) (drop_all i cs h)

pub returns-in-Some : goal.returns-in-Some
returns-in-Some t c =
    false_ends c.args.n c.args.cube.now c.lits.result.now c.in-Some.place c.args.steps.now c.add_false.new.steps c.lits.ensures.value c.in-Some.ensures c.in_ok-add_false-in-Some.ensures

-- the height of the cube
height_is : (cube lits : List Lit) (h : ℕ) → h ≡ height lits → lits ≡ cube → h ≡ height cube
height_is cube lits h e q = e ∙ ap height q

below_is : (cube : List Lit) (h : ℕ) → h ≡ height cube → AreBelow h cube
below_is cube h e = subst (λ (n : ℕ). AreBelow n cube) (sym e) (below_height cube)

least_is : (cube : List Lit) (n h : ℕ) → h ≡ height cube → AreBelow n cube → h ≤ n
least_is cube n h e b = subst (λ (m : ℕ). m ≤ n) (sym e) (height_least n cube b)

pub returns-then-height-eq0 : goal.returns-then-height-eq0
returns-then-height-eq0 t c =
    let cube = c.args.cube.now in
    let o = cube_of Int cube c.requires.primitive in
    let e = height_is cube c.lits-2.result.now c.height_of-height.result c.height_of-height.ensures c.lits-2.ensures.value in
    let b = subst (λ (n : ℕ). AreBelow n cube) c.if-height-eq0.true (below_is cube c.height_of-height.result e) in
    let d = open_ends 0 cube c.lits.result.now c.origin_point.result refl c.lits.ensures.value b c.in-None.ensures c.origin_point.ensures in
    raised_result 0 c.args.n c.args.n cube c.args.steps.now c.args.steps.now (Point c.origin_point.result) c.raised.result (let u : c.args.n + 0 ≡ c.args.n = omega arith in u) o b d c.raised.ensures

pub returns-in-Err : goal.returns-in-Err
returns-in-Err t c =
    let h = c.height_of-height.result in
    let z = c.if-height-eq0.false in
    let cube = c.args.cube.now in
    let q = height_is cube c.lits-2.result.now h c.height_of-height.ensures c.lits-2.ensures.value in
    wide_result h c.args.n cube c.in-Err.wide.number (least_is cube c.args.n h q c.requires.below) (cube_of Int cube c.requires.primitive) (below_is cube h q)
    (first_ends h (h - 1) cube c.in_ok-copy.copy c.in-Err.wide.number (omega arith) c.in_ok-copy.ensures c.in-Err.ensures)

pub loop-index-init : goal.loop-index-init
loop-index-init t c =
    let h = c.height_of-height.result in
    let x = h - 1 in
    let cube = c.args.cube.now in
    let e = target_is cube c.in_ok-copy.copy x c.in-Ok.elimination c.in_ok-copy.ensures c.in-Ok.ensures.1 in
    let f = subst (λ (t : Target). first_past (first_numbers t.cube t.variable) ≡ None) e c.count-count.ensures.fits in
    record {
      refuting = refuting_none x (Least x c.count-count.result) (cooper cube x) c.args.steps.now c.push.new.self c.in_ok-push.ensures.ok;
      past = sym (past-append (first_numbers cube x) (flat_map cube_numbers (cooper cube x)) f);
    }

pub returns-in-Err-case : goal.returns-in-Err-case
returns-in-Err-case t c =
    let h = c.height_of-height.result in
    let x = h - 1 in
    let cube = c.args.cube.now in
    let i = c.loop-index.index in
    let z = c.if-height-eq0.false in
    let e = target_is cube c.in_ok-copy.copy x c.in-Ok.elimination c.in_ok-copy.ensures c.in-Ok.ensures.1 in
    let m = index_is cube x i c.count-count.result c.in-Ok.elimination e c.count-count.ensures.value c.loop-index-test.true in
    let k = subst (λ (t : Target). Capped {A = List Lit} (cube_numbers (case_at t.cube t.variable i)) (case_at t.cube t.variable i) (Err c.in-Err-case.fault)) e c.in-Err-case.ensures.value in
    let g = height_is cube c.lits-2.result.now h c.height_of-height.ensures c.lits-2.ensures.value in
    fault_result h c.args.n cube c.args.steps.now c.loop-index.steps c.in-Err-case.fault c.past_cap.result (least_is cube c.args.n h g c.requires.below) (cube_of Int cube c.requires.primitive) (below_is cube h g) c.past_cap.ensures
    (fault_ends h x cube c.args.steps.now c.loop-index.steps c.in-Err-case.fault c.past_cap.result (omega arith)
    (case_refused {A = List Lit} {B = List (List Lit)} (cooper cube x) i (elimination_numbers Int cube x) (case_at cube x i) (cooper cube x) c.in-Err-case.fault m k c.loop-index.invariant.past) c.past_cap.ensures)

pub search-requires : goal.search-requires
search-requires t c =
    let h = c.height_of-height.result in
    let x = h - 1 in
    let cube = c.args.cube.now in
    let z = c.if-height-eq0.false in
    let e = target_is cube c.in_ok-copy.copy x c.in-Ok.elimination c.in_ok-copy.ensures c.in-Ok.ensures.1 in
    let r = reduced_is cube h x c.in-Ok.elimination c.in-Ok-case.case (omega arith) e (below_is cube h (height_is cube c.lits-2.result.now h c.height_of-height.ensures c.lits-2.ensures.value)) c.in-Ok-case.ensures.reduced in
    let d = c.decreases in
    let g = least_is cube c.args.n h (height_is cube c.lits-2.result.now h c.height_of-height.ensures c.lits-2.ensures.value) c.requires.below in
    (omega arith, (r.primitive, below_less x c.in-Ok-case.case r.without r.below))

pub returns-in-Wide : goal.returns-in-Wide
returns-in-Wide t c =
    let h = c.height_of-height.result in
    let x = h - 1 in
    let cube = c.args.cube.now in
    let i = c.loop-index.index in
    let z = c.if-height-eq0.false in
    let e = target_is cube c.in_ok-copy.copy x c.in-Ok.elimination c.in_ok-copy.ensures c.in-Ok.ensures.1 in
    let m = index_is cube x i c.count-count.result c.in-Ok.elimination e c.count-count.ensures.value c.loop-index-test.true in
    let k = case_is cube x i c.in-Ok.elimination c.in-Ok-case.case e c.in-Ok-case.ensures.value.1 in
    let w = subst (λ (f : Found). Ends x c.in-Ok-case.case c.loop-index.steps c.search.new.steps f) c.in-Wide.is c.in-Ok-search.ensures in
    let g = height_is cube c.lits-2.result.now h c.height_of-height.ensures c.lits-2.ensures.value in
    wide_result h c.args.n cube c.in-Wide.wide.number (least_is cube c.args.n h g c.requires.below) (cube_of Int cube c.requires.primitive) (below_is cube h g)
    (case_wide h x i cube c.in-Ok-case.case c.in-Wide.wide.number (omega arith) m k c.loop-index.invariant.refuting.none w)

pub with_case-requires-clause-whole : goal.with_case-requires-clause-whole
with_case-requires-clause-whole t c =
    let h = c.height_of-height.result in
    let x = h - 1 in
    let cube = c.args.cube.now in
    let z = c.if-height-eq0.false in
    let e = target_is cube c.in_ok-copy.copy x c.in-Ok.elimination c.in_ok-copy.ensures c.in-Ok.ensures.1 in
    let r = reduced_is cube h x c.in-Ok.elimination c.in-Ok-case.case (omega arith) e (below_is cube h (height_is cube c.lits-2.result.now h c.height_of-height.ensures c.lits-2.ensures.value)) c.in-Ok-case.ensures.reduced in
    let w = subst (λ (f : Found). Ends x c.in-Ok-case.case c.loop-index.steps c.search.new.steps f) c.in-Point.is c.in-Ok-search.ensures in
    (case_solves x c.in-Ok-case.case c.in-Point.point r.primitive w).point

pub with_case-requires-clause-size : goal.with_case-requires-clause-size
with_case-requires-clause-size t c =
    let h = c.height_of-height.result in
    let x = h - 1 in
    let cube = c.args.cube.now in
    let z = c.if-height-eq0.false in
    let e = target_is cube c.in_ok-copy.copy x c.in-Ok.elimination c.in_ok-copy.ensures c.in-Ok.ensures.1 in
    let r = reduced_is cube h x c.in-Ok.elimination c.in-Ok-case.case (omega arith) e (below_is cube h (height_is cube c.lits-2.result.now h c.height_of-height.ensures c.lits-2.ensures.value)) c.in-Ok-case.ensures.reduced in
    let w = subst (λ (f : Found). Ends x c.in-Ok-case.case c.loop-index.steps c.search.new.steps f) c.in-Point.is c.in-Ok-search.ensures in
    (case_solves x c.in-Ok-case.case c.in-Point.point r.primitive w).count

pub with_case-requires-clause-period : goal.with_case-requires-clause-period
with_case-requires-clause-period t c =
    period_one (c.height_of-height.result - 1) c.args.cube.now c.lits-in-Point.result.now c.lits-in-Point.ensures.value c.requires.primitive

pub returns-in-Point : goal.returns-in-Point
returns-in-Point t c =
    let h = c.height_of-height.result in
    let x = h - 1 in
    let cube = c.args.cube.now in
    let i = c.loop-index.index in
    let z = c.if-height-eq0.false in
    let e = target_is cube c.in_ok-copy.copy x c.in-Ok.elimination c.in_ok-copy.ensures c.in-Ok.ensures.1 in
    let m = index_is cube x i c.count-count.result c.in-Ok.elimination e c.count-count.ensures.value c.loop-index-test.true in
    let k = case_is cube x i c.in-Ok.elimination c.in-Ok-case.case e c.in-Ok-case.ensures.value.1 in
    let r = reduced_is cube h x c.in-Ok.elimination c.in-Ok-case.case (omega arith) e (below_is cube h (height_is cube c.lits-2.result.now h c.height_of-height.ensures c.lits-2.ensures.value)) c.in-Ok-case.ensures.reduced in
    let w = subst (λ (f : Found). Ends x c.in-Ok-case.case c.loop-index.steps c.search.new.steps f) c.in-Point.is c.in-Ok-search.ensures in
    let g = height_is cube c.lits-2.result.now h c.height_of-height.ensures c.lits-2.ensures.value in
    let o = cube_of Int cube c.requires.primitive in
    let l = least_is cube c.args.n h g c.requires.below in
    let d = case_point h x i cube c.lits-in-Point.result.now c.in-Ok-case.case c.in-Point.point c.args.steps.now c.search.new.steps (Ok c.in-Ok-with_case.found) (omega arith) c.lits-in-Point.ensures.value m k c.loop-index.invariant.refuting.none r.primitive w c.in-Ok-with_case.ensures.steps c.in-Ok-with_case.ensures.kept in
    raised_result h c.args.n (c.args.n - h) cube c.args.steps.now c.search.new.steps c.in-Ok-with_case.found c.raised-in-Point.result (omega arith) o (below_is cube h g) d c.raised-in-Point.ensures

pub loop-index-preserved : goal.loop-index-preserved
loop-index-preserved t c =
    let h = c.height_of-height.result in
    let x = h - 1 in
    let cube = c.args.cube.now in
    let i = c.loop-index.index in
    let z = c.if-height-eq0.false in
    let e = target_is cube c.in_ok-copy.copy x c.in-Ok.elimination c.in_ok-copy.ensures c.in-Ok.ensures.1 in
    let m = index_is cube x i c.count-count.result c.in-Ok.elimination e c.count-count.ensures.value c.loop-index-test.true in
    let k = case_is cube x i c.in-Ok.elimination c.in-Ok-case.case e c.in-Ok-case.ensures.value.1 in
    let r = reduced_is cube h x c.in-Ok.elimination c.in-Ok-case.case (omega arith) e (below_is cube h (height_is cube c.lits-2.result.now h c.height_of-height.ensures c.lits-2.ensures.value)) c.in-Ok-case.ensures.reduced in
    let w = subst (λ (f : Found). Ends x c.in-Ok-case.case c.loop-index.steps c.search.new.steps f) c.in-Refuted.is c.in-Ok-search.ensures in
    let p = subst (λ (t : Target). first_past (cube_numbers (case_at t.cube t.variable i)) ≡ None) e c.in-Ok-case.ensures.value.0 in
    record {
      refuting = refuting_more x (Least x c.count-count.result) (cooper cube x) i c.in-Ok-case.case c.args.steps.now c.loop-index.steps c.search.new.steps m k (cube_of Int c.in-Ok-case.case r.primitive) c.loop-index.invariant.refuting w;
      past = case_more (cooper cube x) i (elimination_numbers Int cube x) m p c.loop-index.invariant.past;
    }

pub returns : goal.returns
returns t c =
    let h = c.height_of-height.result in
    let x = h - 1 in
    let cube = c.args.cube.now in
    let i = c.loop-index.index in
    let z = c.if-height-eq0.false in
    let s : suc x ≡ h = omega arith in
    let e = target_is cube c.in_ok-copy.copy x c.in-Ok.elimination c.in_ok-copy.ensures c.in-Ok.ensures.1 in
    let k = c.count-count.ensures.value ∙ ap (λ (t : Target). length (cooper t.cube t.variable)) e in
    let o = subst (λ (n : ℕ). n ≤ i) k c.loop-index-test.false in
    let f = all_fit (cooper cube x) i (first_past (elimination_numbers Int cube x)) o c.loop-index.invariant.past in
    let g = height_is cube c.lits-2.result.now h c.height_of-height.ensures c.lits-2.ensures.value in
    padded_proof h c.args.n cube c.args.steps.now c.loop-index.steps (least_is cube c.args.n h g c.requires.below)
    (subst (λ (n : ℕ). AddsProof n cube c.args.steps.now c.loop-index.steps) s
    (refuting_done x c.count-count.result cube i c.args.steps.now c.loop-index.steps c.count-count.ensures.kept k f o c.loop-index.invariant.refuting))

pub with_case-requires-clause-below : goal.with_case-requires-clause-below
with_case-requires-clause-below t c =
    let cube = c.args.cube.now in
    let h = c.height_of-height.result in
    let z = c.if-height-eq0.false in
    let g = height_is cube c.lits-2.result.now h c.height_of-height.ensures c.lits-2.ensures.value in
    subst (λ (ls : List Lit). AreBelow (h - 1 + 1) ls) (sym c.lits-in-Point.ensures.value) (subst (λ (m : ℕ). AreBelow m cube) (let e : h ≡ h - 1 + 1 = omega arith in e) (below_is cube h g))

pub overflow_sub-n : goal.overflow_sub-n
overflow_sub-n t c =
    let cube = c.args.cube.now in
    let h = c.height_of-height.result in
    least_is cube c.args.n h (height_is cube c.lits-2.result.now h c.height_of-height.ensures c.lits-2.ensures.value) c.requires.below
