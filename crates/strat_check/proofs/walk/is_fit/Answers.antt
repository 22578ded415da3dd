use Rattle.strat_check.proofs.Walking.{fit_is}
use Rattle.strat_check.proofs.walk.is_fit.Goals as goal

pub returns : goal.returns
returns c = fit_is c.is_kept.result c.args.sort c.args.term.now c.args.before c.if-before-ge-NODES.false c.is_kept.ensures
