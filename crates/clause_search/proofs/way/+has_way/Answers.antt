use Rattle.std.proofs.Common.{arith}
use Rattle.dom_core.proofs.Negations.{part_smaller}
use Rattle.clause_search.proofs.Passing.{lit_has, and_has, or_has, some_has, all_have_none, all_have_more, all_have_end}
use Rattle.clause_search.proofs.way.+has_way.Goals as goal

pub one_has-has_way-requires : goal.one_has-has_way-requires
one_has-has_way-requires t c =
    let h = part_smaller c.args.parts.now c.loop-part.part-index c.part-item.result c.loop-part-test.true c.part-item.is in
    omega arith

pub one_has-returns-then-has_way : goal.one_has-returns-then-has_way
one_has-returns-then-has_way t c = λ u. some_has c.args.parts.now c.loop-part.part-index c.part-item.result c.loop-part-test.true c.part-item.is (c.has_way.ensures c.if-has_way.true)

pub all_have-has_way-requires : goal.all_have-has_way-requires
all_have-has_way-requires t c =
    let h = part_smaller c.args.parts.now c.loop-part.part-index c.part-item.result c.loop-part-test.true c.part-item.is in
    omega arith

pub all_have-loop-part-init : goal.all_have-loop-part-init
all_have-loop-part-init t c = all_have_none c.args.parts.now

pub all_have-loop-part-preserved : goal.all_have-loop-part-preserved
all_have-loop-part-preserved t c = all_have_more c.args.parts.now c.loop-part.part-index c.part-item.result c.loop-part-test.true c.part-item.is (c.has_way.ensures c.if-not-has_way.false) c.loop-part.invariant

pub all_have-returns : goal.all_have-returns
all_have-returns t c = λ u. all_have_end c.args.parts.now c.loop-part.part-index c.loop-part-test.false c.loop-part.invariant

pub has_way-returns-in-Lit : goal.has_way-returns-in-Lit
has_way-returns-in-Lit t c = λ u. lit_has c.args.matrix.now c.in-Lit.field-0 c.in-Lit.is

pub has_way-returns-in-And : goal.has_way-returns-in-And
has_way-returns-in-And t c = λ u. and_has c.args.matrix.now c.in-And.parts c.as_slice.result.now c.in-And.is c.as_slice.ensures (c.one_has.ensures u)

pub has_way-returns-in-Or : goal.has_way-returns-in-Or
has_way-returns-in-Or t c = λ u. or_has c.args.matrix.now c.in-Or.parts c.as_slice-in-Or.result.now c.in-Or.is c.as_slice-in-Or.ensures (c.all_have.ensures u)
