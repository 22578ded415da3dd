use Rattle.std.specs.Prelude.{max}
use Rattle.std.proofs.Common.{◌≡◌, drop}
use Rattle.cube_elim.specs.Determined.{height}
use Rattle.cube_elim.specs.Stored.{lits_of}
use Rattle.cube_elim.proofs.descent.height_at.Given as goal

abbrev pub invariant-loop-id : goal.invariant-loop-id
invariant-loop-id l = max l.top (height (lits_of l.lits (drop l.id-index l.ids))) ≡ height (lits_of l.lits l.ids)
