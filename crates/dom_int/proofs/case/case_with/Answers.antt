use Rattle.std.specs.Prelude.{Err}
use Rattle.std.proofs.Common.{ℕ, ℤ, List, ◌≡◌, ◌+◌, ◌-◌, ◌∙◌, [], ◌∷◌, ◌++◌, ap, sym, subst, arith, nat_abs, length, take, drop, w64, to_z, of_z, SFits, to_z-of_z}
use Rattle.std.proofs.lemmas.List.{take_rest}
use mir.Syntax.{w128}
use Rattle.lin_term.specs.Form.{Form}
use Rattle.lin_term.specs.declared.Sort.TheVariants.{Int}
use Rattle.lin_term.specs.declared.Lit.{Lit}
use Rattle.lin_term.specs.declared.Lit.TheVariants.{Divides}
use Rattle.lin_term.specs.Literal.{prim}
use Rattle.dom_core.specs.Cube.{IsPrimitiveCube}
use Rattle.dom_core.specs.Elimination.{put_all}
use Rattle.dom_core.specs.Adding.{AddsLit, AddsCube}
use Rattle.dom_core.proofs.AddingLemmas.{primitive_take, primitive_drop}
use Rattle.dom_int.proofs.Adding.{first_part_refused, divides_refused, last_part_refused, all_parts}
use Rattle.dom_int.proofs.case.case_with.Goals as goal

pub put_each-requires-clause-primitive : goal.put_each-requires-clause-primitive
put_each-requires-clause-primitive c = primitive_take Int c.args.cube.now c.args.place c.requires.primitive

pub put_each-requires-2-clause-primitive : goal.put_each-requires-2-clause-primitive
put_each-requires-2-clause-primitive c =
    subst (IsPrimitiveCube Int) (sym (take_rest c.args.cube.now (c.args.place + 1))) (primitive_drop Int c.args.cube.now (c.args.place + 1) c.requires.primitive)

pub returns-in-Err : goal.returns-in-Err
returns-in-Err c =
    let fc : SFits w128 c.args.constant = c.ranges.constant in
    let fd : SFits w64 c.args.div = c.ranges.div in
    let a : ℕ = nat_abs (to_z w64 (of_z w64 c.args.div)) in
    let t : Form = record { terms = c.args.terms.now; constant = to_z w128 (of_z w128 c.args.constant) } in
    let e : put_all Int c.args.var a t (take c.args.place c.args.cube.now) ≡ put_all Int c.args.var (nat_abs c.args.div) (record { terms = c.args.terms.now; constant = c.args.constant }) (take c.args.place c.args.cube.now) = simp to_z-of_z in
    first_part_refused {A = List Lit} c.new-lits.result c.put_each.new.out c.args.var (nat_abs c.args.div) (record { terms = c.args.terms.now; constant = c.args.constant }) c.args.cube.now c.args.place [] c.in-Err.fault
    (subst (λ (us : List Lit). AddsCube c.new-lits.result c.put_each.new.out us (Err c.in-Err.fault)) e c.in-Err.ensures)

pub returns-in-Err-add_divides : goal.returns-in-Err-add_divides
returns-in-Err-add_divides c =
    let fc : SFits w128 c.args.constant = c.ranges.constant in
    let fd : SFits w64 c.args.div = c.ranges.div in
    let a : ℕ = nat_abs (to_z w64 (of_z w64 c.args.div)) in
    let t : Form = record { terms = c.args.terms.now; constant = to_z w128 (of_z w128 c.args.constant) } in
    let p = simp to_z-of_z at c.in-Ok.ensures.0 in
    let e : prim Int (Divides a t) ≡ prim Int (Divides (nat_abs c.args.div) (record { terms = c.args.terms.now; constant = c.args.constant })) = simp to_z-of_z in
    divides_refused {A = List Lit} c.put_each.new.out c.add_divides.new.out c.args.var (nat_abs c.args.div) (record { terms = c.args.terms.now; constant = c.args.constant }) c.args.cube.now c.args.place [] c.in-Err-add_divides.fault p
    (subst (λ (l : Lit). AddsLit c.put_each.new.out c.add_divides.new.out l (Err c.in-Err-add_divides.fault)) e c.in-Err-add_divides.ensures)

pub returns-in-Err-put_each : goal.returns-in-Err-put_each
returns-in-Err-put_each c =
    let fc : SFits w128 c.args.constant = c.ranges.constant in
    let fd : SFits w64 c.args.div = c.ranges.div in
    let a : ℕ = nat_abs (to_z w64 (of_z w64 c.args.div)) in
    let t : Form = record { terms = c.args.terms.now; constant = to_z w128 (of_z w128 c.args.constant) } in
    let p = simp to_z-of_z at c.in-Ok.ensures.0 in
    let q = simp to_z-of_z at c.in-Ok-add_divides.ensures.0 in
    let e : put_all Int c.args.var a t (take (length c.args.cube.now - (c.args.place + 1)) (drop (c.args.place + 1) c.args.cube.now)) ≡ put_all Int c.args.var (nat_abs c.args.div) (record { terms = c.args.terms.now; constant = c.args.constant }) (drop (c.args.place + 1) c.args.cube.now) = simp (to_z-of_z, take_rest) in
    last_part_refused {A = List Lit} c.add_divides.new.out c.put_each-2.new.out c.args.var (nat_abs c.args.div) (record { terms = c.args.terms.now; constant = c.args.constant }) c.args.cube.now c.args.place [] c.in-Err-put_each.fault p q
    (subst (λ (us : List Lit). AddsCube c.add_divides.new.out c.put_each-2.new.out us (Err c.in-Err-put_each.fault)) e c.in-Err-put_each.ensures)

pub returns-in-Ok-put_each : goal.returns-in-Ok-put_each
returns-in-Ok-put_each c =
    let fc : SFits w128 c.args.constant = c.ranges.constant in
    let fd : SFits w64 c.args.div = c.ranges.div in
    let p0 = simp to_z-of_z at c.in-Ok.ensures.0 in
    let p1 = simp to_z-of_z at c.in-Ok.ensures.1 in
    let q0 = simp to_z-of_z at c.in-Ok-add_divides.ensures.0 in
    let q1 = simp to_z-of_z at c.in-Ok-add_divides.ensures.1 in
    let r0 = simp (to_z-of_z, take_rest) at c.in-Ok-put_each.ensures.0 in
    let r1 = simp (to_z-of_z, take_rest) at c.in-Ok-put_each.ensures.1 in
    let p2 = p1 ∙ ap (λ (us : List Lit). us ++ put_all Int c.args.var (nat_abs c.args.div) (record { terms = c.args.terms.now; constant = c.args.constant }) (take c.args.place c.args.cube.now)) c.new-lits.ensures in
    all_parts c.put_each.new.out c.add_divides.new.out c.put_each-2.new.out c.from_lits.result c.args.var (nat_abs c.args.div) (record { terms = c.args.terms.now; constant = c.args.constant }) c.args.cube.now c.args.place (p0, p2) (q0, q1) (r0, r1) c.from_lits.ensures
