use Rattle.game_tree.specs.Gather.{pairs_of}
use Rattle.game_tree.proofs.Merges.{branches_more}
use Rattle.game_tree.proofs.union.moved_branches.Goals as goal

pub loop-tree-preserved : goal.loop-tree-preserved
loop-tree-preserved c =
    branches_more c.loop-tree.yielded c.in-Some.tree (pairs_of c.loop-tree.all) (pairs_of c.push_branches.new.all) c.loop-tree.invariant c.in_ok-push_branches.ensures
