use Rattle.std.proofs.Common.{pos}
use Rattle.cube_elim.proofs.Trials.{term_below}
use Rattle.cube_elim.proofs.height.height_of_literal.Goals as goal

pub raised-top-requires : goal.raised-top-requires
raised-top-requires c =
    term_below 0 c.coefs-term-items.result.now c.loop-term.term-index (0, pos 0) c.loop-term-test.true c.coefs-term-items.ensures.kept
