use Rattle.std.specs.List.{AllByRecursion}
use Rattle.std.proofs.Common.{drop}
use Rattle.dom_core.specs.View.{matrix_of}
use Rattle.clause_search.specs.Passing.{HasWay}
use Rattle.clause_search.proofs.way.parts_have.Given as goal

abbrev pub invariant-loop-part : goal.invariant-loop-part
invariant-loop-part l = AllByRecursion (λ x. HasWay (matrix_of x.matrix.now)) (drop l.part-index l.parts) → AllByRecursion (λ x. HasWay (matrix_of x.matrix.now)) l.parts
