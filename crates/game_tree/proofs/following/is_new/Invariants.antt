use Rattle.std.proofs.Common.{drop}
use Rattle.game_tree.specs.Skeleton.{IsNew}
use Rattle.game_tree.specs.View.{branches_of}
use Rattle.game_tree.proofs.following.is_new.Given as goal

abbrev pub invariant-loop-other : goal.invariant-loop-other
invariant-loop-other l = IsNew l.term (branches_of (drop l.other-index l.others)) → IsNew l.term (branches_of l.others)
