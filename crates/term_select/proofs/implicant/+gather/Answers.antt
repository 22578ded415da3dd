use Rattle.std.specs.Prelude.{length}
use Rattle.std.proofs.Common.{arith}
use Rattle.dom_core.proofs.Negations.{part_smaller}
use Rattle.game_play.proofs.Courses.{part_is}
use Rattle.term_select.proofs.implicant.+gather.Goals as goal

pub gather_all-gather-requires : goal.gather_all-gather-requires
gather_all-gather-requires t c =
    let h = part_smaller c.args.parts.now c.loop-part.part-index c.part-item.result c.loop-part-test.true c.part-item.is in
    (omega arith, part_is c.args.parts.now (length c.args.point.now.nums) c.loop-part.part-index c.part-item.result c.loop-part-test.true c.part-item.is c.requires)

pub gather_first-gather-requires : goal.gather_first-gather-requires
gather_first-gather-requires t c =
    let h = part_smaller c.args.parts.now c.loop-part.part-index c.part-item.result c.loop-part-test.true c.part-item.is in
    (omega arith, part_is c.args.parts.now (length c.args.point.now.nums) c.loop-part.part-index c.part-item.result c.loop-part-test.true c.part-item.is c.requires)
