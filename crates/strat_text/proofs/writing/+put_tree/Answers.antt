use Rattle.std.proofs.Common.{ℕ, List, ◌++◌, ◌∙◌, ap, sym, take, map, append_assoc}
use Rattle.std.specs.List.{concat}
use Rattle.strat_text.specs.Written as spelled
use Rattle.strat_text.proofs.Appending.{concat_more}
use Rattle.strat_text.proofs.writing.+put_tree.Goals as goal

pub put_branches-loop-branch-preserved : goal.put_branches-loop-branch-preserved
put_branches-loop-branch-preserved t c =
    let b = c.branch-item.result in
    let front : List ℕ = concat (map spelled.branch (take c.loop-branch.branch-index c.args.branches.now)) in
    c.in_ok-put_branch.ensures
    ∙ ap (λ (t : List ℕ). t ++ spelled.branch b) c.loop-branch.invariant
    ∙ append_assoc c.args.out.now.items front (spelled.branch b)
    ∙ ap (λ (t : List ℕ). c.args.out.now.items ++ t) (ap (λ x. front ++ spelled.branch x) c.branch-item.is ∙ sym (concat_more spelled.branch c.args.branches.now c.loop-branch.branch-index b c.loop-branch-test.true))
