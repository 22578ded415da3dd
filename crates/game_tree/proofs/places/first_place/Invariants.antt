use Rattle.std.specs.Prelude.{None}
use Rattle.std.proofs.Common.{◌≡◌, take}
use Rattle.game_tree.specs.Gather.{place, moves_of}
use Rattle.game_tree.proofs.places.first_place.Given as goal

abbrev pub invariant-loop-i : goal.invariant-loop-i
invariant-loop-i l = place l.term (moves_of (take l.i l.branches)) ≡ None
