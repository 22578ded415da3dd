use Rattle.std.proofs.Common.{◌+◌, ◌*◌, drop, length}
use Rattle.game_tree.specs.View.{branches_of}
use Rattle.game_tree.proofs.Followed.{EachPart}
use Rattle.game_tree.proofs.following.+follows.Given as goal

abbrev pub invariant-branches_follow-loop-branch : goal.invariant-branches_follow-loop-branch
invariant-branches_follow-loop-branch l =
    EachPart (branches_of (drop l.branch-index l.branches)) l.sort l.rest l.k → EachPart (branches_of l.branches) l.sort l.rest l.k

abbrev pub decreases-follows : goal.decreases-follows
decreases-follows l = 2 * length l.prefix.now

abbrev pub decreases-branches_follow : goal.decreases-branches_follow
decreases-branches_follow l = 2 * length l.rest.now + 1
