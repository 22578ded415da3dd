use Rattle.std.proofs.Common.{◌≡◌, length, take}
use Rattle.dom_core.proofs.quant.is_same_prefix.Given as goal

abbrev pub invariant-loop-quant : goal.invariant-loop-quant
invariant-loop-quant l = record {
  place : l.index ≡ l.quant-index;
  even : length l.prefix ≡ length l.other;
  taken : take l.quant-index l.prefix ≡ take l.quant-index l.other;
}
