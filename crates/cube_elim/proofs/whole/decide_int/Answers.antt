use Rattle.std.proofs.Common.{ℕ, ◌≡◌, ◌-◌, ◌∙◌, sym, subst, ap, arith}
use Rattle.lin_term.specs.declared.Sort.TheVariants.{Int}
use Rattle.lin_term.specs.declared.Lit.{Lit}
use Rattle.std.specs.Prelude.{List}
use Rattle.lin_term.specs.Linear.{Point}
use Rattle.dom_core.specs.Reduced.{AreBelow}
use Rattle.cube_elim.specs.Ending.{Ends}
use Rattle.cube_elim.specs.Deciding.{IsSolution}
use Rattle.cube_elim.specs.declared.found.Found.{Found}
use Rattle.cube_elim.specs.Determined.{height}
use Rattle.cube_elim.proofs.Heights.{below_height, height_least}
use Rattle.cube_elim.proofs.Searches.{case_solves}
use Rattle.cube_elim.proofs.MorePoints.{padded_solves}
use Rattle.cube_elim.proofs.Toplevel.{proof_wider}
use Rattle.cube_elim.proofs.whole.decide_int.Goals as goal

height_is : (cube lits : List Lit) (h : ℕ) → h ≡ height lits → lits ≡ cube → height cube ≡ h
height_is cube lits h e q = ap height (sym q) ∙ sym e

pub search-requires-clause-below : goal.search-requires-clause-below
search-requires-clause-below c =
    let cube = c.args.cube.now in
    subst (λ (n : ℕ). AreBelow n cube) (height_is cube c.lits.result.now c.height_of-height.result c.height_of-height.ensures c.lits.ensures.value) (below_height cube)

pub overflow_sub-vars : goal.overflow_sub-vars
overflow_sub-vars c =
    let cube = c.args.cube.now in
    let e = height_is cube c.lits.result.now c.height_of-height.result c.height_of-height.ensures c.lits.ensures.value in
    let h = height_least c.args.vars cube c.requires.below in
    omega arith

pub returns-in_ok-with_more-in-Point : goal.returns-in_ok-with_more-in-Point
returns-in_ok-with_more-in-Point c =
    let cube = c.args.cube.now in
    let n = c.height_of-height.result in
    let e = height_is cube c.lits.result.now n c.height_of-height.ensures c.lits.ensures.value in
    let h = height_least c.args.vars cube c.requires.below in
    let w = subst (λ (f : Found). Ends n cube c.new-steps.result c.search.new.steps f) c.in-Point.is c.in-Ok.ensures in
    let s = case_solves n cube c.in-Point.point c.requires.primitive w in
    subst (λ (q : Point). IsSolution Int c.args.vars cube q) (sym c.in_ok-with_more-in-Point.ensures.value)
    (padded_solves n c.args.vars (c.args.vars - n) cube c.in-Point.point (omega arith) s)

pub returns-in-Refuted : goal.returns-in-Refuted
returns-in-Refuted c =
    let cube = c.args.cube.now in
    let n = c.height_of-height.result in
    let e = height_is cube c.lits.result.now n c.height_of-height.ensures c.lits.ensures.value in
    let h = height_least c.args.vars cube c.requires.below in
    let w = subst (λ (f : Found). Ends n cube c.new-steps.result c.search.new.steps f) c.in-Refuted.is c.in-Ok.ensures in
    proof_wider n c.args.vars cube c.new-steps.result c.search.new.steps (omega arith) c.new-steps.ensures w
