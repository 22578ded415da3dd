use Rattle.std.specs.Prelude.{map}
use Rattle.game_tree.specs.View.{skeleton_of}
use Rattle.solve_texts.proofs.Replaying.{paths_more}
use Rattle.solve_texts.proofs.newest.paths_added.Goals as goal

pub loop-entry-preserved : goal.loop-entry-preserved
loop-entry-preserved g c =
    paths_more c.args.entries.now c.loop-entry.entry-index c.entry-item.result (map skeleton_of c.loop-entry.trees.items) (map skeleton_of c.push_paths.new.trees.items) c.loop-entry-test.true c.entry-item.is c.loop-entry.invariant c.in_ok-push_paths.ensures
