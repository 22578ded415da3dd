use Rattle.std.specs.Prelude.{◌+◌, drop, length}
use Rattle.std.proofs.Common.{arith, ap, ◌∙◌}
use Rattle.game_tree.specs.Skeleton.{Branches, branch_nodes, branch_paths}
use Rattle.game_tree.specs.View.{skeleton_of, branches_of}
use Rattle.game_tree.proofs.Views.{branches_at, fewer_left}
use Rattle.game_tree.proofs.Counts.{more_paths, few_branch_paths}
use Rattle.game_tree.proofs.counting.+leaves.Goals as goal

pub branch_leaf_count-leaf_count-count-requires : goal.branch_leaf_count-leaf_count-count-requires
branch_leaf_count-leaf_count-count-requires t c =
    let e = ap branch_nodes (branches_at c.args.branches.now c.loop-branch.branch-index c.branch-item.result c.loop-branch-test.true c.branch-item.is) in
    let h = fewer_left c.args.branches.now c.loop-branch.branch-index in
    let r = c.requires in
    (omega arith, omega arith)

pub branch_leaf_count-overflow_add-count : goal.branch_leaf_count-overflow_add-count
branch_leaf_count-overflow_add-count t c =
    let e = ap (λ (x : Branches). length (branch_paths x)) (branches_at c.args.branches.now c.loop-branch.branch-index c.branch-item.result c.loop-branch-test.true c.branch-item.is)
    ∙ more_paths c.branch-item.result.term (skeleton_of c.branch-item.result.rest) (branches_of (drop (c.loop-branch.branch-index + 1) c.args.branches.now)) in
    let i = c.loop-branch.invariant in
    let f = few_branch_paths (branches_of c.args.branches.now) in
    let r = c.requires in
    omega (arith, c.leaf_count-count.ensures)

pub branch_leaf_count-loop-branch-preserved : goal.branch_leaf_count-loop-branch-preserved
branch_leaf_count-loop-branch-preserved t c =
    let e = ap (λ (x : Branches). length (branch_paths x)) (branches_at c.args.branches.now c.loop-branch.branch-index c.branch-item.result c.loop-branch-test.true c.branch-item.is)
    ∙ more_paths c.branch-item.result.term (skeleton_of c.branch-item.result.rest) (branches_of (drop (c.loop-branch.branch-index + 1) c.args.branches.now)) in
    let i = c.loop-branch.invariant in
    omega (arith, c.leaf_count-count.ensures)
