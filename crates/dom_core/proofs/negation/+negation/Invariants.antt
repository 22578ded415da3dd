use Rattle.std.proofs.Common.{◌≡◌, ◌+◌, ◌*◌, take}
use Rattle.dom_core.specs.Game.{neg_matrices}
use Rattle.dom_core.specs.View.{matrix_of, matrices_of}
use Rattle.dom_core.specs.Negation.{HaveRows}
use Rattle.dom_core.proofs.Negations.{matrix_size, parts_size}
use Rattle.dom_core.proofs.negation.+negation.Given as goal

abbrev pub invariant-negated_parts-loop-part : goal.invariant-negated_parts-loop-part
invariant-negated_parts-loop-part l = record {
  value : matrices_of l.negations ≡ neg_matrices (matrices_of (take l.part-index l.parts)) l.sort;
  rows : HaveRows (matrices_of (take l.part-index l.parts));
}

abbrev pub decreases-negated : goal.decreases-negated
decreases-negated l = 2 * matrix_size (matrix_of l.matrix.now) + 1

abbrev pub decreases-negated_parts : goal.decreases-negated_parts
decreases-negated_parts l = 2 * parts_size (matrices_of l.parts.now)
