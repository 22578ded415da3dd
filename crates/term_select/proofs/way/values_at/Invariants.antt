use Rattle.std.specs.Prelude.{ℕ, ◌≡◌, map, take}
use Rattle.lin_term.specs.Linear.{at}
use Rattle.lin_term.specs.Point.{AreWithin}
use Rattle.term_select.proofs.way.values_at.Given as goal

abbrev pub invariant-loop-node : goal.invariant-loop-node
invariant-loop-node l = record {
  nums : l.nums ≡ map (λ (i : ℕ). at l.point.nums i) (take l.node-index l.nodes);
  within : AreWithin l.nums;
}
