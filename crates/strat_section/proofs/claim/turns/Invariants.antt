use Rattle.std.proofs.Common.{◌≡◌, map, take}
use Rattle.strat_check.specs.Section.{is_mine}
use Rattle.strat_section.proofs.claim.turns.Given as goal

abbrev pub invariant-loop-quant : goal.invariant-loop-quant
invariant-loop-quant l = l.all ≡ map is_mine (take l.quant-index l.prefix)
