use Rattle.std.proofs.Common.{◌≡◌, ◌++◌}
use Rattle.lin_term.specs.Point.{AreWithin}
use Rattle.cube_elim.specs.Values.{zeros}
use Rattle.cube_elim.proofs.next.with_more.Given as goal

abbrev pub invariant-loop-index : goal.invariant-loop-index
invariant-loop-index l = record {
  same : l.nums ≡ l.point.nums ++ zeros l.index;
  within : AreWithin l.nums;
}
