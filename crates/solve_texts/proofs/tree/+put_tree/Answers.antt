use Rattle.std.proofs.Common.{ℕ, List, ◌++◌, ap, ◌∙◌, sym}
use Rattle.std.specs.List.{flat_map}
use Rattle.std.proofs.lemmas.List.{take_all}
use Rattle.game_tree.specs.View.{branches_of}
use Rattle.game_tree.specs.declared.Branch.{Branch}
use Rattle.strat_text.specs.TreeText.{branch_text}
use Rattle.solve_texts.specs.Pieces.{branch_lines}
use Rattle.solve_texts.proofs.Trees.{branch_texts, mine_written}
use Rattle.solve_texts.proofs.tree.+put_tree.Goals as goal

pub put_branches-returns : goal.put_branches-returns
put_branches-returns t c =
    c.loop-branch.invariant
    ∙ ap (λ (y : List ℕ). c.args.out.now.items ++ y) (ap (flat_map branch_lines) (take_all c.loop-branch.branch-index c.args.branches.now c.loop-branch-test.false) ∙ sym (branch_texts c.args.branches.now))

pub put_tree-returns-in_ok-put_branches-in-Mine : goal.put_tree-returns-in_ok-put_branches-in-Mine
put_tree-returns-in_ok-put_branches-in-Mine t c =
    mine_written c.args.tree.now c.in-Mine.branches c.len.result c.args.out.now.items c.extend_from_slice-in-Mine.new.self.items c.put_natural.new.out.items c.push.new.self.items c.put_branches.new.out.items
    c.in-Mine.is c.len.ensures c.in_ok-extend_from_slice-in-Mine.ensures.items c.in_ok-put_natural-in-Mine.ensures c.in_ok-push-in-Mine.ensures.items
    (c.in_ok-put_branches-in-Mine.ensures ∙ ap (λ (bs : List Branch). c.push.new.self.items ++ branch_text (branches_of bs)) c.as_slice.ensures)
