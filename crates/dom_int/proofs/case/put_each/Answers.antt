use Rattle.std.proofs.Common.{ℕ, ℤ, List, ◌≡◌, ◌+◌, ◌∙◌, ◌∷◌, ◌++◌, ap, sym, subst, arith, nat_abs, drop, w64, to_z, of_z, SFits, to_z-of_z}
use mir.Syntax.{w128}
use Rattle.std.specs.Prelude.{Err}
use Rattle.lin_term.specs.Form.{Form}
use Rattle.lin_term.specs.declared.Sort.TheVariants.{Int}
use Rattle.lin_term.specs.declared.Lit.{Lit}
use Rattle.lin_term.specs.Literal.{IsPrimitive}
use Rattle.lin_term.specs.Primable.{IsPrimable}
use Rattle.lin_term.specs.PutIn.{put_lit}
use Rattle.lin_term.specs.Wide.{first_past, lit_numbers}
use Rattle.dom_core.specs.Elimination.{put_all, cube_numbers}
use Rattle.dom_core.specs.Adding.{AddsCube}
use Rattle.dom_core.proofs.AddingLemmas.{primable_at}
use Rattle.dom_core.proofs.AddingLemmas.{split_at, added, past_more, primitive_at, lit_refused}
use Rattle.dom_int.proofs.case.put_each.Goals as goal

pub add_put-requires-clause-primitive : goal.add_put-requires-clause-primitive
add_put-requires-clause-primitive c =
    subst (IsPrimitive Int) (sym c.lit-item.is) (primitive_at Int c.args.lits.now c.loop-lit.lit-index c.lit-item.result c.loop-lit-test.true c.requires.primitive)

pub add_put-requires-clause-primable : goal.add_put-requires-clause-primable
add_put-requires-clause-primable c =
    subst (IsPrimable Int) (sym c.lit-item.is) (primable_at Int c.args.lits.now c.loop-lit.lit-index c.lit-item.result c.loop-lit-test.true c.requires.primitive)

pub loop-lit-preserved : goal.loop-lit-preserved
loop-lit-preserved c =
    let u = c.in-Ok.ensures in
    let i = c.loop-lit.invariant in
    let k = c.loop-lit.lit-index in
    let a : ℕ = nat_abs (to_z w64 (of_z w64 c.args.div)) in
    let t : Form = record { terms = c.args.terms.now; constant = to_z w128 (of_z w128 c.args.constant) } in
    let l : Lit = c.lit-item.result in
    let rest : List Lit = drop (k + 1) c.args.lits.now in
    let e = ap (put_all Int c.args.var a t) (split_at c.args.lits.now k l c.loop-lit-test.true c.lit-item.is) in
    record {
      same = added c.loop-lit.out (c.args.out.now ++ put_all Int c.args.var a t c.args.lits.now) (put_all Int c.args.var a t rest) c.add_put.new.out (put_lit Int c.args.var a t l) (ap (λ (us : List Lit). c.loop-lit.out ++ us) (sym e) ∙ i.same) u.1;
      past = past_more (lit_numbers (put_lit Int c.args.var a t l)) (cube_numbers (put_all Int c.args.var a t rest)) (cube_numbers (put_all Int c.args.var a t c.args.lits.now)) u.0 (ap (λ (us : List Lit). first_past (cube_numbers us)) (sym e) ∙ i.past);
    }

pub returns-in-Err : goal.returns-in-Err
returns-in-Err c =
    let fc : SFits w128 c.args.constant = c.ranges.constant in
    let fd : SFits w64 c.args.div = c.ranges.div in
    let i = c.loop-lit.invariant in
    let k = c.loop-lit.lit-index in
    let a : ℕ = nat_abs (to_z w64 (of_z w64 c.args.div)) in
    let t : Form = record { terms = c.args.terms.now; constant = to_z w128 (of_z w128 c.args.constant) } in
    let l : Lit = c.lit-item.result in
    let rest : List Lit = drop (k + 1) c.args.lits.now in
    let e = ap (put_all Int c.args.var a t) (split_at c.args.lits.now k l c.loop-lit-test.true c.lit-item.is) in
    let w = lit_refused c.loop-lit.out c.add_put.new.out c.args.out.now c.add_put.new.out (put_lit Int c.args.var a t l) (put_all Int c.args.var a t rest) (put_all Int c.args.var a t c.args.lits.now) c.in-Err.fault c.in-Err.ensures (ap (λ (us : List Lit). first_past (cube_numbers us)) (sym e) ∙ i.past) in
    let all : put_all Int c.args.var a t c.args.lits.now ≡ put_all Int c.args.var (nat_abs c.args.div) (record { terms = c.args.terms.now; constant = c.args.constant }) c.args.lits.now = simp to_z-of_z in
    subst (λ (us : List Lit). AddsCube c.args.out.now c.add_put.new.out us (Err c.in-Err.fault)) all w
