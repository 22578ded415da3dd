use Rattle.std.proofs.Common.{◌≡◌, take, map}
use Rattle.game_tree.specs.View.{skeleton_of}
use Rattle.game_board.specs.Entries.{entries_of}
use Rattle.solve_texts.specs.Tally.{paths_in}
use Rattle.solve_texts.proofs.newest.paths_added.Given as goal

abbrev pub invariant-loop-entry : goal.invariant-loop-entry
invariant-loop-entry g l = map skeleton_of l.trees.items ≡ paths_in (entries_of (take l.entry-index l.entries))
