use Rattle.std.proofs.Common.{◌≡◌, length, take}
use Rattle.dom_core.proofs.matrix.+same.Given as goal

abbrev pub invariant-are_same-loop-part : goal.invariant-are_same-loop-part
invariant-are_same-loop-part l = record {
  place : l.index ≡ l.part-index;
  even : length l.parts ≡ length l.others;
  taken : take l.part-index l.parts ≡ take l.part-index l.others;
}
