use Rattle.std.proofs.Common.{◌+◌, ◌*◌, drop}
use Rattle.dom_core.specs.View.{matrix_of, matrices_of}
use Rattle.dom_core.proofs.Negations.{matrix_size, parts_size}
use Rattle.clause_search.specs.Passing.{AllHave}
use Rattle.clause_search.proofs.way.+has_way.Given as goal

abbrev pub invariant-all_have-loop-part : goal.invariant-all_have-loop-part
invariant-all_have-loop-part l = AllHave (matrices_of (drop l.part-index l.parts)) → AllHave (matrices_of l.parts)

abbrev pub decreases-has_way : goal.decreases-has_way
decreases-has_way l = 2 * matrix_size (matrix_of l.matrix.now) + 1

abbrev pub decreases-one_has : goal.decreases-one_has
decreases-one_has l = 2 * parts_size (matrices_of l.parts.now)

abbrev pub decreases-all_have : goal.decreases-all_have
decreases-all_have l = 2 * parts_size (matrices_of l.parts.now)
