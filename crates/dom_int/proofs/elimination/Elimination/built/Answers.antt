use Rattle.std.proofs.Common.{ℕ, List, ◌≡◌, ◌≤◌, ◌<◌, ◌+◌, ◌∙◌, [], ap, sym, subst, arith, length, get_or, take, drop}
use Rattle.std.proofs.lemmas.List.FromFn.{get_or-map-range_with_len}
use Rattle.lin_term.specs.declared.Sort.TheVariants.{Int}
use Rattle.lin_term.specs.declared.Lit.{Lit}
use Rattle.lin_term.specs.Wide.{Capped}
use Rattle.dom_core.specs.Elimination.{cooper, delta, free_case, lower_case, lower_cases, cube_numbers}
use Rattle.dom_int.specs.Case.{case_at}
use Rattle.dom_int.specs.Place.{lit_at}
use Rattle.dom_int.specs.Target.{Target}
use Rattle.dom_core.proofs.AddingLemmas.{cube_of}
use Rattle.dom_int.proofs.Adding.{counted}
use Rattle.dom_int.proofs.Numerators.{lower_size}
use Rattle.dom_int.proofs.elimination.Elimination.built.Goals as goal

pub free_case-requires-clause-k_kept : goal.free_case-requires-clause-k_kept
free_case-requires-clause-k_kept c =
    let s = c.self.inside in
    let i = c.self.invariant in
    let k = counted s.cube s.var s.period s.lower (lower_size s.var) (cube_of Int s.cube i.primitive) i.period i.lower in
    let r = subst (λ (t : Target). c.args.index < length (cooper t.cube t.variable)) (sym c.self.view_is) c.requires in
    let e = k.length_none c.if-self-eq0.true in
    let p = i.period in
    let q = i.period_kept in
    omega arith

pub returns-then-self-eq0 : goal.returns-then-self-eq0
returns-then-self-eq0 c =
    let s = c.self.inside in
    let i = c.self.invariant in
    let k = counted s.cube s.var s.period s.lower (lower_size s.var) (cube_of Int s.cube i.primitive) i.period i.lower in
    let r = subst (λ (t : Target). c.args.index < length (cooper t.cube t.variable)) (sym c.self.view_is) c.requires in
    let l = k.length_none c.if-self-eq0.true in
    let e : case_at s.cube s.var c.args.index ≡ free_case s.var s.cube c.args.index = ap (λ (cs : List (List Lit)). get_or cs c.args.index []) (k.none c.if-self-eq0.true) ∙ get_or-map-range_with_len (free_case s.var s.cube) 0 (delta s.cube s.var) c.args.index c.args.index [] (omega arith) (omega arith) in
    subst (λ (t : Target). Capped (cube_numbers (case_at t.cube t.variable c.args.index)) (case_at t.cube t.variable c.args.index) c.free_case.result) c.self.view_is
    (subst (λ (us : List Lit). Capped (cube_numbers us) us c.free_case.result) (sym e)
    (subst (λ (us : List Lit). Capped (cube_numbers (free_case s.var us c.args.index)) (free_case s.var us c.args.index) c.free_case.result) c.lits-lits.ensures.value c.free_case.ensures))

pub place_of-place-requires-clause-within : goal.place_of-place-requires-clause-within
place_of-place-requires-clause-within c =
    let s = c.self.inside in
    let i = c.self.invariant in
    let k = counted s.cube s.var s.period s.lower (lower_size s.var) (cube_of Int s.cube i.primitive) i.period i.lower in
    let r = subst (λ (t : Target). c.args.index < length (cooper t.cube t.variable)) (sym c.self.view_is) c.requires in
    let a = subst (λ (cs : List (List Lit)). c.args.index < length cs) (k.some c.if-self-eq0.false) r in
    let b = subst (λ (n : ℕ). c.args.index < length (lower_cases s.var n [] s.cube)) (sym i.period) a in
    subst (λ (us : List Lit). c.args.index < length (lower_cases s.var s.period [] us)) (sym c.lits-lits.ensures.value) b

pub lower_case-requires-clause-k_kept : goal.lower_case-requires-clause-k_kept
lower_case-requires-clause-k_kept c =
    let s = c.self.inside in
    let i = c.self.invariant in
    let k = counted s.cube s.var s.period s.lower (lower_size s.var) (cube_of Int s.cube i.primitive) i.period i.lower in
    let r = subst (λ (t : Target). c.args.index < length (cooper t.cube t.variable)) (sym c.self.view_is) c.requires in
    let e = k.length_some c.if-self-eq0.false in
    let p = c.place_of-place.ensures.small in
    let q = i.lower_kept in
    omega arith

pub returns : goal.returns
returns c =
    let s = c.self.inside in
    let i = c.self.invariant in
    let k = counted s.cube s.var s.period s.lower (lower_size s.var) (cube_of Int s.cube i.primitive) i.period i.lower in
    let j = c.place_of-place.result.0 in
    let m = c.place_of-place.result.1 in
    let lits : List Lit = c.lits-lits.result.now in
    let e : case_at s.cube s.var c.args.index ≡ lower_case s.var (take j lits) (lit_at lits j) (drop (j + 1) lits) m =
    ap (λ (cs : List (List Lit)). get_or cs c.args.index []) (k.some c.if-self-eq0.false)
    ∙ ap (λ (n : ℕ). get_or (lower_cases s.var n [] s.cube) c.args.index []) (sym i.period)
    ∙ ap (λ (us : List Lit). get_or (lower_cases s.var s.period [] us) c.args.index []) (sym c.lits-lits.ensures.value)
    ∙ c.place_of-place.ensures.place.case in
    subst (λ (t : Target). Capped (cube_numbers (case_at t.cube t.variable c.args.index)) (case_at t.cube t.variable c.args.index) c.lower_case.result) c.self.view_is
    (subst (λ (us : List Lit). Capped (cube_numbers us) us c.lower_case.result) (sym e) c.lower_case.ensures)
