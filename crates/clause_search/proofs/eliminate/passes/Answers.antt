use Rattle.std.specs.Prelude.{List}
use Rattle.std.specs.List.{AllByRecursion}
use Rattle.std.proofs.Common.{subst}
use Rattle.dom_core.specs.declared.Matrix.{Matrix as Tree}
use Rattle.dom_core.specs.View.{matrix_of}
use Rattle.clause_search.specs.declared.goal.Part.{Part}
use Rattle.clause_search.specs.Passing.{HasWay}
use Rattle.clause_search.proofs.Passing.{passing}
use Rattle.clause_search.proofs.eliminate.passes.Goals as goal

pub returns : goal.returns
returns g c = λ u.
    passing g.D.Domain.SORT c.args.system.now c.args.goal.now c.args.part.now
    (subst (λ (t : Tree). HasWay (matrix_of t)) c.matrix.ensures.value (c.has_way.ensures c.if-not-has_way.false))
    (c.has_way-2.ensures c.if-not-has_way-2.false)
    (subst (λ (xs : List Part). AllByRecursion (λ x. HasWay (matrix_of x.matrix.now)) xs) c.as_slice.ensures (c.parts_have.ensures u))
