use Rattle.clause_search.proofs.Choosing.{has_none, has_more, has_found, has_not}
use Rattle.clause_search.proofs.chosen.has.Goals as goal

pub loop-each-init : goal.loop-each-init
loop-each-init c = has_none c.args.lit.now c.args.lits.now

pub returns-then-is_same : goal.returns-then-is_same
returns-then-is_same c =
    has_found c.args.lit.now c.each-item.result c.args.lits.now c.loop-each.each-index c.is_same.result c.loop-each-test.true c.each-item.is c.is_same.ensures.equal c.if-is_same.true

pub loop-each-preserved : goal.loop-each-preserved
loop-each-preserved c =
    has_more c.args.lit.now c.each-item.result c.args.lits.now c.loop-each.each-index c.is_same.result c.loop-each-test.true c.each-item.is c.is_same.ensures.equal c.if-is_same.false c.loop-each.invariant

pub returns : goal.returns
returns c = has_not c.args.lit.now c.args.lits.now c.loop-each.each-index c.loop-each-test.false c.loop-each.invariant
