use Rattle.std.proofs.Common.{◌≡◌, take}
use Rattle.game_tree.proofs.tree.+copy.Given as goal

abbrev pub invariant-copy_branches-loop-branch : goal.invariant-copy_branches-loop-branch
invariant-copy_branches-loop-branch l = l.copies ≡ take l.branch-index l.branches
