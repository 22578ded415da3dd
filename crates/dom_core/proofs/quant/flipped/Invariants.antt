use Rattle.std.proofs.Common.{◌≡◌, take}
use Rattle.dom_core.specs.Game.{flip_all}
use Rattle.dom_core.proofs.quant.flipped.Given as goal

abbrev pub invariant-loop-quant : goal.invariant-loop-quant
invariant-loop-quant l = l.quants ≡ flip_all (take l.quant-index l.prefix)
