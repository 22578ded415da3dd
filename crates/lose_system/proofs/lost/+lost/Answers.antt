use Rattle.std.specs.Prelude.{length}
use Rattle.std.proofs.Common.{arith}
use Rattle.dom_core.proofs.Negations.{part_smaller}
use Rattle.lose_system.proofs.LostLemmas.{matrix_part, negations_part, lost_more}
use Rattle.lose_system.proofs.lost.+lost.Goals as goal

pub lost_parts-lost_matrix-requires : goal.lost_parts-lost_matrix-requires
lost_parts-lost_matrix-requires t c =
    let h = part_smaller c.args.parts.now c.loop-part.part-index c.part-item.result c.loop-part-test.true c.part-item.is in (
      omega arith,
      (
        c.requires.rising,
        (
          matrix_part c.args.parts.now c.args.sort (length c.args.names.now) c.loop-part.part-index c.part-item.result c.loop-part-test.true c.part-item.is c.requires.below,
          negations_part c.args.parts.now c.args.sort c.loop-part.part-index c.part-item.result c.loop-part-test.true c.part-item.is c.requires.negations,
        ),
      ),
    )

pub lost_parts-loop-part-preserved : goal.lost_parts-loop-part-preserved
lost_parts-loop-part-preserved t c =
    lost_more c.args.parts.now c.loop-part.all c.push.new.self c.args.sort c.args.names.now c.loop-part.part-index c.part-item.result c.in_ok-one.one
    c.loop-part-test.true c.part-item.is c.loop-part.invariant c.in_ok-one.ensures c.in_ok-push.ensures.ok
