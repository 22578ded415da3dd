use Rattle.std.proofs.Common.{ℕ, List, ◌≡◌, ◌≤◌, ◌+◌, ◌∙◌, ◌∷◌, ap, sym, subst, arith, pos, map, drop}
use Rattle.std.proofs.lemmas.List.{drop_more}
use Rattle.lin_term.specs.declared.Sort.TheVariants.{Int}
use Rattle.lin_term.specs.declared.Lit.{Lit}
use Rattle.lin_term.specs.Form.{cap}
use Rattle.lin_term.specs.Primable.{IsPrimable}
use Rattle.lin_term.specs.Wide.{first_past}
use Rattle.dom_core.specs.Elimination.{partial_deltas, last_of}
use Rattle.dom_int.specs.Counts.{delta_after}
use Rattle.dom_core.proofs.AddingLemmas.{primable_at}
use Rattle.dom_int.proofs.Deltas.{past_more, last_more, past_here, after_pos}
use Rattle.dom_int.proofs.period.period.Goals as goal

pub period_after-next-requires-clause-kept : goal.period_after-next-requires-clause-kept
period_after-next-requires-clause-kept c =
    subst (IsPrimable Int) (sym c.lit-item.is) (primable_at Int c.args.cube.now c.loop-lit.lit-index c.lit-item.result c.loop-lit-test.true c.requires)

pub loop-lit-preserved : goal.loop-lit-preserved
loop-lit-preserved c =
    let k = c.loop-lit.lit-index in
    let x = c.args.var in
    let n = c.loop-lit.n in
    let l : Lit = c.lit-item.result in
    let rest : List Lit = drop (k + 1) c.args.cube.now in
    let i = c.loop-lit.invariant in
    let v = c.period_after-next.ensures.value in
    let e : drop k c.args.cube.now ≡ l ∷ rest = drop_more c.args.cube.now k l c.loop-lit-test.true ∙ ap (λ (y : Lit). y ∷ rest) (sym c.lit-item.is) in
    let p = subst (IsPrimable Int) (sym c.lit-item.is) (primable_at Int c.args.cube.now k l c.loop-lit-test.true c.requires) in
    let o : delta_after x n l ≤ cap = omega arith in
    let b = after_pos x n l i.least p in
    record {
      least = omega arith;
      kept = omega arith;
      past = ap (λ (m : ℕ). first_past (map pos (partial_deltas m rest x))) v ∙ sym (past_more x n l rest o) ∙ sym (ap (λ (us : List Lit). first_past (map pos (partial_deltas n us x))) e) ∙ i.past;
      last = ap (λ (m : ℕ). last_of m (partial_deltas m rest x)) v ∙ sym (last_more x n l rest) ∙ sym (ap (λ (us : List Lit). last_of n (partial_deltas n us x)) e) ∙ i.last;
    }
