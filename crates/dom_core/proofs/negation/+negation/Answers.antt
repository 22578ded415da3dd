use Rattle.std.proofs.Common.{arith}
use Rattle.dom_core.proofs.Negations.{part_smaller, primitive_part, within_part, negated_more, rows_more}
use Rattle.dom_core.proofs.negation.+negation.Goals as goal

pub negated_parts-loop-part-preserved : goal.negated_parts-loop-part-preserved
negated_parts-loop-part-preserved t c = record {
  value = negated_more c.args.parts.now c.loop-part.negations c.push.new.self c.args.sort c.loop-part.part-index c.part-item.result c.in_ok-negation.negation
      c.loop-part-test.true c.part-item.is c.loop-part.invariant.value c.in_ok-negation.ensures.value c.in_ok-push.ensures.ok;
  rows = rows_more c.args.parts.now c.loop-part.part-index c.part-item.result c.loop-part-test.true c.part-item.is c.loop-part.invariant.rows c.in_ok-negation.ensures.rows;
}

pub negated_parts-negated-requires : goal.negated_parts-negated-requires
negated_parts-negated-requires t c =
    let h = part_smaller c.args.parts.now c.loop-part.part-index c.part-item.result c.loop-part-test.true c.part-item.is in (
      omega arith,
      (
        primitive_part c.args.parts.now c.args.sort c.loop-part.part-index c.part-item.result c.loop-part-test.true c.part-item.is c.requires.primitive,
        within_part c.args.parts.now c.args.sort c.loop-part.part-index c.part-item.result c.loop-part-test.true c.part-item.is c.requires.within,
      ),
    )
