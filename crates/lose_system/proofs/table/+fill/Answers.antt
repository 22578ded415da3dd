use Rattle.std.specs.Prelude.{◌+◌, drop}
use Rattle.std.proofs.Common.{arith, subst, refl, ap}
use Rattle.game_tree.specs.Skeleton.{Branches, branch_nodes}
use Rattle.game_tree.specs.View.{skeleton_of, branches_of}
use Rattle.game_tree.proofs.Views.{branches_at, branches_done, fewer_left}
use Rattle.lose_system.proofs.Filling.{Filled, length_pushed, filled_first, filled_more, filled_last}
use Rattle.lose_system.proofs.table.+fill.Goals as goal

pub fill_branches-loop-branch-init : goal.fill_branches-loop-branch-init
fill_branches-loop-branch-init t c =
    filled_first c.args.list.now c.args.ends.now (branches_of c.args.branches.now) c.args.depth c.args.above c.requires.few c.requires.deep

pub fill_branches-overflow_cast-number : goal.fill_branches-overflow_cast-number
fill_branches-overflow_cast-number t c = let f = c.loop-branch.invariant.few in omega (arith, c.len-number.ensures)

pub fill_branches-fill-requires : goal.fill_branches-fill-requires
fill_branches-fill-requires t c =
    let e = ap branch_nodes (branches_at c.args.branches.now c.loop-branch.branch-index c.branch-item.result c.loop-branch-test.true c.branch-item.is) in
    let f = c.loop-branch.invariant.few in
    let g = c.loop-branch.invariant.deep in
    let h = fewer_left c.args.branches.now c.loop-branch.branch-index in
    let l = length_pushed c.loop-branch.list c.push.new.self _ c.in_ok-push.ensures.ok in
    (omega arith, (omega arith, omega arith))

pub fill_branches-loop-branch-preserved : goal.fill_branches-loop-branch-preserved
fill_branches-loop-branch-preserved t c =
    let e = branches_at c.args.branches.now c.loop-branch.branch-index c.branch-item.result c.loop-branch-test.true c.branch-item.is in
    filled_more c.loop-branch.list c.push.new.self c.fill.new.list _ c.loop-branch.ends c.fill.new.ends c.branch-item.result.term (skeleton_of c.branch-item.result.rest)
    (branches_of (drop (c.loop-branch.branch-index + 1) c.args.branches.now)) c.args.depth c.args.above c.args.list.now c.args.ends.now (branches_of c.args.branches.now)
    (subst (λ (x : Branches). Filled c.loop-branch.list c.loop-branch.ends x c.args.depth c.args.above c.args.list.now c.args.ends.now (branches_of c.args.branches.now)) e c.loop-branch.invariant)
    refl c.in_ok-push.ensures.ok
    c.len-number.result c.len-number.ensures c.in_ok-fill.ensures.nodes c.in_ok-fill.ensures.ends

pub fill_branches-returns-clause-nodes : goal.fill_branches-returns-clause-nodes
fill_branches-returns-clause-nodes t c =
    (filled_last c.loop-branch.list c.loop-branch.ends c.args.depth c.args.above c.args.list.now c.args.ends.now (branches_of c.args.branches.now)
    (subst (λ (x : Branches). Filled c.loop-branch.list c.loop-branch.ends x c.args.depth c.args.above c.args.list.now c.args.ends.now (branches_of c.args.branches.now))
    (branches_done c.args.branches.now c.loop-branch.branch-index c.loop-branch-test.false) c.loop-branch.invariant)).0

pub fill_branches-returns-clause-ends : goal.fill_branches-returns-clause-ends
fill_branches-returns-clause-ends t c =
    (filled_last c.loop-branch.list c.loop-branch.ends c.args.depth c.args.above c.args.list.now c.args.ends.now (branches_of c.args.branches.now)
    (subst (λ (x : Branches). Filled c.loop-branch.list c.loop-branch.ends x c.args.depth c.args.above c.args.list.now c.args.ends.now (branches_of c.args.branches.now))
    (branches_done c.args.branches.now c.loop-branch.branch-index c.loop-branch-test.false) c.loop-branch.invariant)).1
