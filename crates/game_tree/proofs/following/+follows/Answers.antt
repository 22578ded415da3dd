use Rattle.std.specs.Prelude.{suc}
use Rattle.game_tree.specs.Skeleton.{IsMoveAt, Follows}
use Rattle.game_tree.specs.Distinct.{AreDistinct}
use Rattle.game_tree.specs.View.{skeleton_of, branches_of}
use Rattle.game_tree.proofs.Followed.{refuted, at_next, twice, bad_move, bad_rest, part_more, node_follows, not_empty}
use Rattle.game_tree.proofs.following.+follows.Goals as goal

pub branches_follow-returns-then-not-are_distinct : goal.branches_follow-returns-then-not-are_distinct
branches_follow-returns-then-not-are_distinct t c =
    twice c.args.branches.now c.args.sort c.args.rest.now c.args.k (refuted c.are_distinct.result (AreDistinct (branches_of c.args.branches.now)) c.are_distinct.ensures c.if-not-are_distinct.true)

pub branches_follow-returns-then-not-is_move_at : goal.branches_follow-returns-then-not-is_move_at
branches_follow-returns-then-not-is_move_at t c =
    bad_move c.args.branches.now c.args.sort c.args.rest.now c.args.k c.loop-branch.branch-index c.branch-item.result c.loop-branch-test.true c.branch-item.is
    (refuted c.is_move_at.result (IsMoveAt c.args.sort c.args.k c.branch-item.result.term) c.is_move_at.ensures c.if-not-is_move_at.true)

pub branches_follow-returns-then-not-follows : goal.branches_follow-returns-then-not-follows
branches_follow-returns-then-not-follows t c =
    bad_rest c.args.branches.now c.args.sort c.args.rest.now c.args.k c.loop-branch.branch-index c.branch-item.result c.loop-branch-test.true c.branch-item.is
    (refuted c.follows.result (Follows (skeleton_of c.branch-item.result.rest) c.args.sort c.args.rest.now (suc c.args.k)) (at_next c.follows.result (skeleton_of c.branch-item.result.rest) c.args.sort c.args.rest.now c.args.k c.follows.ensures) c.if-not-follows.true)

pub branches_follow-loop-branch-preserved : goal.branches_follow-loop-branch-preserved
branches_follow-loop-branch-preserved t c =
    part_more c.args.branches.now c.args.sort c.args.rest.now c.args.k c.loop-branch.branch-index c.branch-item.result c.loop-branch-test.true c.branch-item.is
    (c.is_move_at.ensures.0 c.if-not-is_move_at.false)
    ((at_next c.follows.result (skeleton_of c.branch-item.result.rest) c.args.sort c.args.rest.now c.args.k c.follows.ensures).0 c.if-not-follows.false)
    c.loop-branch.invariant

pub branches_follow-returns : goal.branches_follow-returns
branches_follow-returns t c =
    node_follows c.args.branches.now c.args.sort c.args.rest.now c.args.k c.loop-branch.branch-index (not_empty c.args.branches.now c.is_empty.result c.is_empty.ensures c.if-is_empty.false)
    (c.are_distinct.ensures.0 c.if-not-are_distinct.false) c.loop-branch-test.false c.loop-branch.invariant
