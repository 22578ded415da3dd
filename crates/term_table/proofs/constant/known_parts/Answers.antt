use Rattle.std.proofs.Common.{arith}
use Rattle.term_table.proofs.Amounts.{below-at}
use Rattle.term_table.proofs.constant.known_parts.Goals as goal

pub known_at-requires : goal.known_at-requires
known_at-requires c = below-at _ c.args.parts.now c.loop-part.part-index c.requires (omega (arith, c.loop-part-test.true))
