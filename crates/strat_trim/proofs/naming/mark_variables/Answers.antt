use Rattle.strat_trim.specs.Trimmed.{variables_of}
use Rattle.strat_trim.proofs.MarkLemmas.{terms_step, terms_end}
use Rattle.strat_trim.proofs.naming.mark_variables.Goals as goal

pub loop-var-preserved : goal.loop-var-preserved
loop-var-preserved c =
    terms_step c.coefs-var-items.result.now c.loop-var.var-index (variables_of c.args.lit.now) c.args.marks.now c.loop-var.marks c.mark.new.marks c.loop-var.invariant c.loop-var-test.true c.mark.ensures

pub returns : goal.returns
returns c =
    terms_end c.coefs-var-items.result.now c.loop-var.var-index (variables_of c.args.lit.now) c.args.marks.now c.loop-var.marks c.loop-var.invariant c.loop-var-test.false
