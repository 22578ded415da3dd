use Rattle.std.proofs.Common.{List, ◌+◌, ◌∙◌, ◌++◌, ap, sym, subst, drop}
use Rattle.lin_term.specs.declared.Lit.{Lit}
use Rattle.lin_term.specs.Literal.{IsPrimitive}
use Rattle.lin_term.specs.Primable.{IsPrimable}
use Rattle.lin_term.specs.PutIn.{substituted}
use Rattle.lin_term.specs.Wide.{first_past, lit_numbers}
use Rattle.dom_core.specs.Elimination.{cube_numbers}
use Rattle.dom_core.specs.PutMove.{substituted_all}
use Rattle.dom_core.proofs.AddingLemmas.{primable_at, split_at, added, past_more, primitive_at, lit_refused}
use Rattle.dom_core.proofs.substituting.add_all_substituted.Goals as goal

pub add_substituted-requires-clause-primitive : goal.add_substituted-requires-clause-primitive
add_substituted-requires-clause-primitive c =
    subst (IsPrimitive c.args.sort) (sym c.lit-item.is) (primitive_at c.args.sort c.args.lits.now c.loop-lit.lit-index c.lit-item.result c.loop-lit-test.true c.requires.primitive)

pub add_substituted-requires-clause-primable : goal.add_substituted-requires-clause-primable
add_substituted-requires-clause-primable c =
    subst (IsPrimable c.args.sort) (sym c.lit-item.is) (primable_at c.args.sort c.args.lits.now c.loop-lit.lit-index c.lit-item.result c.loop-lit-test.true c.requires.primitive)

pub loop-lit-preserved : goal.loop-lit-preserved
loop-lit-preserved c =
    let u = c.in-Ok.ensures in
    let i = c.loop-lit.invariant in
    let k = c.loop-lit.lit-index in
    let l : Lit = c.lit-item.result in
    let put = λ (us : List Lit). substituted_all c.args.sort c.args.var c.args.term.now c.args.residue us in
    let rest : List Lit = drop (k + 1) c.args.lits.now in
    let e = ap put (split_at c.args.lits.now k l c.loop-lit-test.true c.lit-item.is) in
    record {
      same = added c.loop-lit.out (c.args.out.now ++ put c.args.lits.now) (put rest) c.add_substituted.new.out (substituted c.args.sort l c.args.var c.args.term.now c.args.residue) (ap (λ (us : List Lit). c.loop-lit.out ++ us) (sym e) ∙ i.same) u.1;
      past = past_more (lit_numbers (substituted c.args.sort l c.args.var c.args.term.now c.args.residue)) (cube_numbers (put rest)) (cube_numbers (put c.args.lits.now)) u.0 (ap (λ (us : List Lit). first_past (cube_numbers us)) (sym e) ∙ i.past);
    }

pub returns-in-Err : goal.returns-in-Err
returns-in-Err c =
    let i = c.loop-lit.invariant in
    let k = c.loop-lit.lit-index in
    let l : Lit = c.lit-item.result in
    let put = λ (us : List Lit). substituted_all c.args.sort c.args.var c.args.term.now c.args.residue us in
    let rest : List Lit = drop (k + 1) c.args.lits.now in
    let e = ap put (split_at c.args.lits.now k l c.loop-lit-test.true c.lit-item.is) in
    lit_refused c.loop-lit.out c.add_substituted.new.out c.args.out.now c.add_substituted.new.out (substituted c.args.sort l c.args.var c.args.term.now c.args.residue) (put rest) (put c.args.lits.now) c.in-Err.fault c.in-Err.ensures (ap (λ (us : List Lit). first_past (cube_numbers us)) (sym e) ∙ i.past)
