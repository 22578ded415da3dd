use Rattle.std.proofs.Common.{◌≡◌, take}
use Rattle.simsat.proofs.prefixes.copied.Given as goal

abbrev pub invariant-loop-quant : goal.invariant-loop-quant
invariant-loop-quant l = l.quants ≡ take l.quant-index l.prefix
