use Rattle.std.proofs.Common.{◌+◌, sym, drop, ◌∙◌, arith}
use Rattle.smt_term.proofs.NumberLemmas.{number-step, number-past}
use Rattle.smt_term.proofs.number.number_within.Goals as goal

pub returns-then-n-gt4503599627370496 : goal.returns-then-n-gt4503599627370496
returns-then-n-gt4503599627370496 c =
    let i = c.loop-digit.digit-index in
    let ds = c.args.digits.now in
    number-past _ (drop (i + 1) ds) ds (sym (number-step c.loop-digit.n i ds c.loop-digit-test.true) ∙ c.loop-digit.invariant.0) (omega arith)
