use Rattle.dom_core.specs.View.{matrix_of}
use Rattle.clause_search.specs.Passing.{HasWay}
use Rattle.clause_search.proofs.Passing.{waiting_none, waiting_more, waiting_end}
use Rattle.clause_search.proofs.way.parts_have.Goals as goal

pub loop-part-init : goal.loop-part-init
loop-part-init c = waiting_none (λ x. HasWay (matrix_of x.matrix.now)) c.args.parts.now

pub loop-part-preserved : goal.loop-part-preserved
loop-part-preserved c = waiting_more (λ x. HasWay (matrix_of x.matrix.now)) c.args.parts.now c.loop-part.part-index c.part-item.result c.loop-part-test.true c.part-item.is (c.has_way.ensures c.if-not-has_way.false) c.loop-part.invariant

pub returns : goal.returns
returns c = λ u. waiting_end (λ x. HasWay (matrix_of x.matrix.now)) c.args.parts.now c.loop-part.part-index c.loop-part-test.false c.loop-part.invariant
