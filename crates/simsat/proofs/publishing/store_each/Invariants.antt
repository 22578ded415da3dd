use Rattle.std.proofs.Common.{map, ◌≡◌, take}
use Rattle.simsat.specs.Effects.{HasStored, NoName}
use Rattle.simsat.specs.Plan.{store_of}
use Rattle.simsat.proofs.publishing.store_each.Given as goal

abbrev pub invariant-loop-file : goal.invariant-loop-file
invariant-loop-file g l =
    HasStored (g.S.Shelf.files l.initial.shelf) (g.S.Shelf.files l.shelf) (map store_of (take l.file-index l.files)) NoName × (g.S.Shelf.faults l.shelf ≡ g.S.Shelf.faults l.initial.shelf)
