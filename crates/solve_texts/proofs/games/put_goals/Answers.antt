use Rattle.std.proofs.Common.{◌≡◌, ◌<◌, ℕ, ◌+◌, List, ◌++◌, length, take, get_or, ap, ◌∙◌, sym, append_assoc, arith}
use Rattle.dom_core.specs.declared.Quant.{Quant}
use Rattle.solve_texts.specs.declared.solved.Solved.{Solved}
use Rattle.solve_texts.specs.Journal.{goal_text, goal_texts}
use Rattle.solve_texts.proofs.Goals.{goals_more}
use Rattle.solve_texts.proofs.games.put_goals.Goals as goal

pub loop-number-preserved : goal.loop-number-preserved
loop-number-preserved c =
    let qss : List (List Quant) = c.args.prefixes.now in
    let os : List Solved = c.args.outcomes.now in
    let q : List Quant = c.index-prefixes-number.result in
    let o : Solved = c.index-outcomes-number.result in
    let i : ℕ = c.loop-number.number in
    let front : List ℕ = goal_texts 0 (take i qss) (take i os) in
    let n : i ≡ 0 + i = omega arith in
    let k = c.requires in
    let m = c.loop-number-test.true in
    let l : i < length qss = omega (arith, k, m) in
    c.in_ok-put_goal.ensures
    ∙ ap (λ (x : List Quant). c.loop-number.out.items ++ goal_text x i o) c.as_slice.ensures
    ∙ ap (λ (t : List ℕ). t ++ goal_text q i o) c.loop-number.invariant
    ∙ append_assoc c.args.out.now.items front (goal_text q i o)
    ∙ ap (λ (t : List ℕ). c.args.out.now.items ++ t)
    (ap (λ (j : ℕ). front ++ goal_text q j o) n
    ∙ ap (λ (x : List Quant). front ++ goal_text x (0 + i) o) c.index-prefixes-number.is
    ∙ ap (λ (y : Solved). front ++ goal_text (get_or qss i q) (0 + i) y) c.index-outcomes-number.is
    ∙ sym (goals_more 0 qss os i q o l m))
