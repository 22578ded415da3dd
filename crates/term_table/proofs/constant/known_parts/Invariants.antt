use Rattle.std.proofs.Common.{◌≡◌, map, take}
use Rattle.term_table.specs.Entries.{known_at}
use Rattle.term_table.proofs.constant.known_parts.Given as goal

abbrev pub invariant-loop-part : goal.invariant-loop-part
invariant-loop-part l = l.all.items ≡ map (known_at l.entries) (take l.part-index l.parts)
