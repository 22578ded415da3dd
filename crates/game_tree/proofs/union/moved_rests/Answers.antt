use Rattle.std.specs.Prelude.{map}
use Rattle.game_tree.specs.View.{skeleton_of}
use Rattle.game_tree.proofs.Merges.{rests_more}
use Rattle.game_tree.proofs.union.moved_rests.Goals as goal

pub loop-tree-preserved : goal.loop-tree-preserved
loop-tree-preserved c =
    rests_more c.loop-tree.yielded c.in-Some.tree (map skeleton_of c.loop-tree.below.items) (map skeleton_of c.push_rest.new.below.items) c.loop-tree.invariant c.in_ok-push_rest.ensures
