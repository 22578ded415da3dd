use Rattle.std.proofs.Common.{length}
use Rattle.game_tree.proofs.zero.+zero_tree.Given as goal

abbrev pub decreases-zero_tree : goal.decreases-zero_tree
decreases-zero_tree l = length l.prefix.now
