use Rattle.std.proofs.Common.{◌≡◌, ◌+◌, ◌*◌, take}
use Rattle.dom_core.specs.View.{matrix_of, matrices_of}
use Rattle.dom_core.proofs.Negations.{matrix_size, parts_size}
use Rattle.lose_system.proofs.LostLemmas as lemma
use Rattle.lose_system.proofs.lost.+lost.Given as goal

abbrev pub invariant-lost_parts-loop-part : goal.invariant-lost_parts-loop-part
invariant-lost_parts-loop-part l = matrices_of l.all ≡ lemma.all_lost (matrices_of (take l.part-index l.parts)) l.sort l.names

abbrev pub decreases-lost_matrix : goal.decreases-lost_matrix
decreases-lost_matrix l = 2 * matrix_size (matrix_of l.matrix.now) + 1

abbrev pub decreases-lost_parts : goal.decreases-lost_parts
decreases-lost_parts l = 2 * parts_size (matrices_of l.parts.now)
