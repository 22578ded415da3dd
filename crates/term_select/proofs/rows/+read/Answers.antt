use Rattle.std.proofs.Common.{arith}
use Rattle.dom_core.proofs.Negations.{part_smaller}
use Rattle.term_select.proofs.rows.+read.Goals as goal

pub read_parts-read_rows-requires : goal.read_parts-read_rows-requires
read_parts-read_rows-requires t c =
    let h = part_smaller c.args.parts.now c.loop-part.part-index c.part-item.result c.loop-part-test.true c.part-item.is in
    (omega arith, tt)
