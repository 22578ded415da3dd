use Rattle.std.specs.Prelude.{List}
use Rattle.std.specs.List.{range_with_len}
use Rattle.std.proofs.Common.{ℕ, ◌≡◌, ◌≤◌, ◌-◌, ◌∙◌, ap, sym, subst, arith, length}
use Rattle.lin_term.specs.declared.Sort.TheVariants.{Rat}
use Rattle.lin_term.specs.declared.Lit.{Lit}
use Rattle.lin_term.specs.Linear.{Point}
use Rattle.dom_core.specs.Cube.{IsPrimitiveCube}
use Rattle.dom_core.specs.Reduced.{AreBelow, AreRows}
use Rattle.dom_core.proofs.AddingLemmas.{cube_of}
use Rattle.cube_rules.specs.declared.Step.{Step}
use Rattle.cube_rules.specs.Bare.{ClosesBare}
use Rattle.cube_elim.specs.Determined.{height, WideBelow}
use Rattle.cube_elim.specs.Deciding.{IsSolution}
use Rattle.cube_elim.specs.Reaching.{Keeps, Reaches}
use Rattle.cube_elim.specs.Searching.{IsDetermined}
use Rattle.cube_elim.specs.Stored.{lits_of, AreIn, IsStore}
use Rattle.cube_elim.specs.declared.descent.Reached.{Reached}
use Rattle.cube_elim.proofs.RatOutcomes.{end_is, outcome_decides}
use Rattle.cube_elim.proofs.RatWhole.{reads_cube, places_in, height_below, below_own}
use Rattle.cube_elim.proofs.whole.decide_rat.Goals as goal

height_is : (cube lits : List Lit) (h : ℕ) → h ≡ height lits → lits ≡ cube → h ≡ height cube
height_is cube lits h e q = e ∙ ap height q

-- the places of the store are the cube
reads : (cube lits seen : List Lit) (slice ids : List ℕ) (g : ℕ) → lits ≡ cube → g ≡ length cube → ids ≡ range_with_len 0 g → slice ≡ ids → lits_of lits slice ≡ cube
reads cube lits seen slice ids g e h f q = ap (lits_of lits) q ∙ reads_cube cube lits ids g e h f

pub search-requires-clause-within : goal.search-requires-clause-within
search-requires-clause-within c =
    let cube = c.args.cube.now in
    let s = c.in_ok-store.store in
    let g = length c.lits-lits.result.now in
    subst (AreIn (length s.lits)) (sym c.as_slice.ensures) (places_in cube s.lits c.in_ok-ids.ids g c.in_ok-store.ensures.lits (ap length c.lits-lits.ensures.value) c.in_ok-ids.ensures)

pub search-requires-clause-primitive : goal.search-requires-clause-primitive
search-requires-clause-primitive c =
    let cube = c.args.cube.now in
    let s = c.in_ok-store.store in
    let r = reads cube s.lits cube c.as_slice.result.now c.in_ok-ids.ids (length c.lits-lits.result.now) c.in_ok-store.ensures.lits (ap length c.lits-lits.ensures.value) c.in_ok-ids.ensures c.as_slice.ensures in
    subst (IsPrimitiveCube Rat) (sym r) c.requires.primitive

pub search-requires-clause-below : goal.search-requires-clause-below
search-requires-clause-below c =
    let cube = c.args.cube.now in
    let s = c.in_ok-store.store in
    let r = reads cube s.lits cube c.as_slice.result.now c.in_ok-ids.ids (length c.lits-lits.result.now) c.in_ok-store.ensures.lits (ap length c.lits-lits.ensures.value) c.in_ok-ids.ensures c.as_slice.ensures in
    let q = height_is cube c.lits-lits.result.now c.height_of-height.result c.height_of-height.ensures c.lits-lits.ensures.value in
    subst (AreBelow c.height_of-height.result) (sym r) (below_own c.height_of-height.result cube q)

pub search-requires-clause-rows : goal.search-requires-clause-rows
search-requires-clause-rows c =
    let cube = c.args.cube.now in
    let s = c.in_ok-store.store in
    let r = reads cube s.lits cube c.as_slice.result.now c.in_ok-ids.ids (length c.lits-lits.result.now) c.in_ok-store.ensures.lits (ap length c.lits-lits.ensures.value) c.in_ok-ids.ensures c.as_slice.ensures in
    subst AreRows (c.lits-lits.ensures.value ∙ sym r) c.lits-lits.ensures.rows

pub overflow_sub-vars : goal.overflow_sub-vars
overflow_sub-vars c =
    let cube = c.args.cube.now in
    let q = height_is cube c.lits-lits.result.now c.height_of-height.result c.height_of-height.ensures c.lits-lits.ensures.value in
    height_below c.args.vars c.height_of-height.result cube q c.requires.below

pub outcome_of-requires : goal.outcome_of-requires
outcome_of-requires c =
    let cube = c.args.cube.now in
    let s = c.in_ok-store.store in
    let r = reads cube s.lits cube c.as_slice.result.now c.in_ok-ids.ids (length c.lits-lits.result.now) c.in_ok-store.ensures.lits (ap length c.lits-lits.ensures.value) c.in_ok-ids.ensures c.as_slice.ensures in
    let a = subst (λ (ls : List Lit). Reaches c.height_of-height.result ls c.search.new.store.lits c.in-Ok.reached) r c.in-Ok.ensures.ends in
    end_is c.height_of-height.result (length c.lits-lits.result.now) cube s c.search.new.store c.in-Ok.reached (ap length c.lits-lits.ensures.value) c.in_ok-store.ensures.store a c.in-Ok.ensures.kept

pub returns : goal.returns
returns c =
    let cube = c.args.cube.now in
    let s = c.in_ok-store.store in
    let h = c.height_of-height.result in
    let n = c.args.vars in
    let r = reads cube s.lits cube c.as_slice.result.now c.in_ok-ids.ids (length c.lits-lits.result.now) c.in_ok-store.ensures.lits (ap length c.lits-lits.ensures.value) c.in_ok-ids.ensures c.as_slice.ensures in
    let q = height_is cube c.lits-lits.result.now h c.height_of-height.ensures c.lits-lits.ensures.value in
    let l = height_below n h cube q c.requires.below in
    let a = subst (λ (ls : List Lit). Reaches h ls c.search.new.store.lits c.in-Ok.reached) r c.in-Ok.ensures.ends in
    outcome_decides h n (n - h) (length c.lits-lits.result.now) cube s c.search.new.store c.in-Ok.reached c.outcome_of.result (omega arith) q (cube_of Rat cube c.requires.primitive) c.in_ok-store.ensures.lits (ap length c.lits-lits.ensures.value) a c.in-Ok.ensures.kept c.outcome_of.ensures
