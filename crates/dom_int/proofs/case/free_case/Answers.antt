use Rattle.std.specs.Prelude.{Err}
use Rattle.std.proofs.Common.{ℕ, List, ◌≡◌, ◌+◌, ◌∙◌, [], ◌∷◌, ◌++◌, ap, sym, subst, arith, drop}
use Rattle.lin_term.specs.declared.Sort.TheVariants.{Int}
use Rattle.lin_term.specs.declared.Lit.{Lit}
use Rattle.lin_term.specs.Literal.{IsPrimitive}
use Rattle.lin_term.specs.Primable.{IsPrimable}
use Rattle.std.proofs.lemmas.List.{drop_all}
use Rattle.lin_term.specs.Wide.{first_past}
use Rattle.dom_core.specs.Elimination.{free_case, cube_numbers}
use Rattle.dom_core.proofs.AddingLemmas.{primable_at}
use Rattle.dom_core.proofs.AddingLemmas.{primitive_at, added_last, cube_added, cube_past, cube_refused}
use Rattle.dom_int.proofs.Adding.{free_split}
use Rattle.dom_int.proofs.case.free_case.Goals as goal

pub add_unless_upper-requires-clause-primitive : goal.add_unless_upper-requires-clause-primitive
add_unless_upper-requires-clause-primitive c =
    subst (IsPrimitive Int) (sym c.lit-item.is) (primitive_at Int c.args.cube.now c.loop-lit.lit-index c.lit-item.result c.loop-lit-test.true c.requires.primitive)

pub add_unless_upper-requires-clause-primable : goal.add_unless_upper-requires-clause-primable
add_unless_upper-requires-clause-primable c =
    subst (IsPrimable Int) (sym c.lit-item.is) (primable_at Int c.args.cube.now c.loop-lit.lit-index c.lit-item.result c.loop-lit-test.true c.requires.primitive)

pub loop-lit-preserved : goal.loop-lit-preserved
loop-lit-preserved c =
    let u = c.in-Ok.ensures in
    let i = c.loop-lit.invariant in
    let x = c.args.var in
    let k = c.args.k in
    let cube = c.args.cube.now in
    let n = c.loop-lit.lit-index in
    let l : Lit = c.lit-item.result in
    let e = free_split x cube n k l c.loop-lit-test.true c.lit-item.is in
    record {
      same = cube_added c.loop-lit.lits (free_case x cube k) (free_case x (l ∷ []) k) (free_case x (drop (n + 1) cube) k) c.add_unless_upper.new.out (ap (λ (us : List Lit). c.loop-lit.lits ++ us) (sym e) ∙ i.same) u.1;
      past = cube_past (free_case x (l ∷ []) k) (free_case x (drop (n + 1) cube) k) (free_case x cube k) u.0 (ap (λ (us : List Lit). first_past (cube_numbers us)) (sym e) ∙ i.past);
    }

pub returns-in-Err : goal.returns-in-Err
returns-in-Err c =
    let i = c.loop-lit.invariant in
    let x = c.args.var in
    let k = c.args.k in
    let cube = c.args.cube.now in
    let n = c.loop-lit.lit-index in
    let l : Lit = c.lit-item.result in
    let e = free_split x cube n k l c.loop-lit-test.true c.lit-item.is in
    cube_refused c.loop-lit.lits c.add_unless_upper.new.out (free_case x (l ∷ []) k) (free_case x (drop (n + 1) cube) k) (free_case x cube k) (free_case x cube k) c.in-Err.fault c.in-Err.ensures (ap (λ (us : List Lit). first_past (cube_numbers us)) (sym e) ∙ i.past)

pub returns : goal.returns
returns c =
    let i = c.loop-lit.invariant in
    let d = drop_all c.loop-lit.lit-index c.args.cube.now c.loop-lit-test.false in
    let e = ap (λ (us : List Lit). free_case c.args.var us c.args.k) d in
    (sym i.past ∙ ap (λ (us : List Lit). first_past (cube_numbers us)) e, c.from_lits.ensures ∙ added_last c.loop-lit.lits (free_case c.args.var c.args.cube.now c.args.k) (free_case c.args.var (drop c.loop-lit.lit-index c.args.cube.now) c.args.k) e i.same)
