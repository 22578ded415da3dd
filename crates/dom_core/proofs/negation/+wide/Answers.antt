use Rattle.std.proofs.Common.{arith, sym, ◌∙◌}
use Rattle.dom_core.specs.View.{matrices_of}
use Rattle.dom_core.specs.Negation.{negations_numbers}
use Rattle.dom_core.proofs.Negations.{part_smaller, primitive_part, wide_more, wide_here, some_is, none_is}
use Rattle.dom_core.proofs.negation.+wide.Goals as goal

pub wide_part-returns-then-is_some : goal.wide_part-returns-then-is_some
wide_part-returns-then-is_some t c =
    wide_here c.args.parts.now c.args.sort c.loop-part.part-index c.part-item.result (negations_numbers (matrices_of c.args.parts.now) c.args.sort) c.in_ok-wide.wide
    c.loop-part-test.true c.part-item.is (some_is c.in_ok-wide.wide c.if-is_some.ensures) c.in_ok-wide.ensures c.loop-part.invariant

pub wide_part-loop-part-preserved : goal.wide_part-loop-part-preserved
wide_part-loop-part-preserved t c =
    wide_more c.args.parts.now c.args.sort c.loop-part.part-index c.part-item.result (negations_numbers (matrices_of c.args.parts.now) c.args.sort)
    c.loop-part-test.true c.part-item.is (sym c.in_ok-wide.ensures ∙ none_is c.in_ok-wide.wide c.if-is_some.ensures) c.loop-part.invariant

pub wide_part-wide_negation-requires : goal.wide_part-wide_negation-requires
wide_part-wide_negation-requires t c =
    let h = part_smaller c.args.parts.now c.loop-part.part-index c.part-item.result c.loop-part-test.true c.part-item.is in
    (omega arith, primitive_part c.args.parts.now c.args.sort c.loop-part.part-index c.part-item.result c.loop-part-test.true c.part-item.is c.requires.primitive)
