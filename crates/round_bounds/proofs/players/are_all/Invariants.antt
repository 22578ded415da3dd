use Rattle.std.specs.Prelude.{take}
use Rattle.round_bounds.specs.Bounds.{AreAll}
use Rattle.round_bounds.proofs.players.are_all.Given as goal

abbrev pub invariant-loop-quant : goal.invariant-loop-quant
invariant-loop-quant l = AreAll l.player (take l.quant-index l.prefix)
