use Rattle.std.proofs.Common.{arith}
use Rattle.term_table.proofs.PassedOn.{passes}
use Rattle.term_table.proofs.Amounts.{below-at}
use Rattle.term_table.proofs.passing.argument_of.Goals as goal

pub returns-then-number-args : goal.returns-then-number-args
returns-then-number-args c =
    let p = c.in-Parameter.number in
    let lt = c.if-number-args.true in (
      below-at _ c.args.args.now p c.requires.args (omega (arith, lt)),
      passes c.args.entries.now c.args.body p c.args.args.now c.index-entries-body.result c.requires.entries.ordered c.requires.body c.index-entries-body.is c.in-Parameter.is (omega (arith, lt)),
    )
