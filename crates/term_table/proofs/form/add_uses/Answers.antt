use Rattle.std.proofs.Common.{◌∙◌, ◌<◌, ◌≤◌, ◌+◌, ◌∷◌, ℕ, List, [], length, length-append, drop, sym, ap, subst, arith}
use Rattle.std.proofs.lemmas.List.{length-set}
use Rattle.std.specs.Global.{Vec}
use Rattle.term_table.specs.declared.amount.Weight.{Weight}
use Rattle.term_table.specs.Scale.{Scale, weight}
use Rattle.term_table.specs.Form.{dot}
use Rattle.term_table.proofs.Amounts.{dot_end, either_way}
use Rattle.term_table.proofs.FormLemmas.{no_weight, Owes, owes-set, owes-push, nothing_owed}
use Rattle.term_table.proofs.form.add_uses.Goals as goal
use Rattle.term_table.proofs.form.add_uses.Goals.{then-i-len, else-i-len+in_ok-push}

pub loop-i-preserved : goal.loop-i-preserved
loop-i-preserved c =
    let i = c.loop-i.i in
    let now = c.loop-i.uses.items in
    let Kept : List Weight → Type 0 = λ us. (i + 1 ≤ length us) × ((s : Scale) (gs : List ℕ) → Owes s gs c.args.weight c.args.uses.now.items us c.args.part.now (i + 1)) in
    elim c.if-i-len.branch [
      | then-i-len w ↦
          (let lt : i < length now = omega (arith, w.if-i-len.true, c.len.ensures, c.loop-i.uses.ok.0) in
          subst Kept (sym (ap (λ (v : Vec Weight). v.items) w.uses-is)) (
            (let e = length-set now i w.plus-sum.result in omega arith),
            λ s gs. owes-set s gs c.args.weight c.args.uses.now.items now c.args.part.now i c.of-more.result w.plus-sum.result no_weight w.index.result.now c.loop-i-test.true lt c.of-more.ensures
                (w.plus-sum.ensures ∙ ap (λ u. either_way u c.of-more.result) w.index.ensures) (c.loop-i.invariant.1 s gs),
          ))
      | else-i-len+in_ok-push w ↦
          (subst Kept (sym (ap (λ (v : Vec Weight). v.items) w.uses-is ∙ w.in_ok-push.ensures.items)) (
            (let e = length-append now (c.of-more.result ∷ []) in omega (arith, c.loop-i.invariant.0)),
            λ s gs. owes-push s gs c.args.weight c.args.uses.now.items now c.args.part.now i c.of-more.result no_weight c.loop-i-test.true (omega (arith, w.if-i-len.false, c.len.ensures, c.loop-i.uses.ok.0, c.loop-i.invariant.0)) c.of-more.ensures
                (c.loop-i.invariant.1 s gs),
          ))
    ]

pub returns : goal.returns
returns c =
    λ s gs. nothing_owed s (weight s c.args.weight) (dot s c.loop-i.uses.items gs) (dot s (drop c.loop-i.i c.args.part.now) (drop c.loop-i.i gs)) _ (dot_end s c.args.part.now (drop c.loop-i.i gs) c.loop-i.i (omega (arith, c.loop-i-test.false))) (c.loop-i.invariant.1 s gs)
