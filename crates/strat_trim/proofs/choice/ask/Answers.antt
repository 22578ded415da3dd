use Rattle.std.proofs.Common.{arith}
use Rattle.strat_trim.proofs.ChoiceLemmas.{asked_set}
use Rattle.strat_trim.proofs.choice.ask.Goals as goal

pub returns-then-first-len : goal.returns-then-first-len
returns-then-first-len c =
    asked_set c.args.flags.now c.set.new.self c.args.first c.args.asked c.if-asked.true (let l = c.if-first-len.true in omega (arith, c.len.ensures)) c.set.ensures
