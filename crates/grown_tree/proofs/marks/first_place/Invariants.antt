use Rattle.std.specs.Prelude.{None}
use Rattle.std.proofs.Common.{◌≡◌, take}
use Rattle.game_tree.specs.Gather.{place}
use Rattle.grown_tree.specs.Shown.{terms_of}
use Rattle.grown_tree.proofs.marks.first_place.Given as goal

abbrev pub invariant-loop-i : goal.invariant-loop-i
invariant-loop-i l = place l.term (terms_of (take l.i l.marks)) ≡ None
