use Rattle.std.proofs.Common.{sym}
use Rattle.strat_check.proofs.Turning.{other_lengths}
use Rattle.strat_check.proofs.turns.fit.Goals as goal

pub returns-then-turns-prefix : goal.returns-then-turns-prefix
returns-then-turns-prefix c = sym (other_lengths c.args.turns.now c.args.prefix.now c.if-turns-prefix.true)
