use Rattle.std.proofs.Common.{take}
use Rattle.game_tree.specs.Gather.{moves_of}
use Rattle.game_tree.specs.Known.{Knows}
use Rattle.game_tree.proofs.places.known_places.Given as goal

abbrev pub invariant-loop-i : goal.invariant-loop-i
invariant-loop-i l = Knows l.known (moves_of (take l.i l.branches))
