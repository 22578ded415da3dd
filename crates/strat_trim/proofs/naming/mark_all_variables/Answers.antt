use Rattle.std.specs.List.{flat_map}
use Rattle.strat_trim.specs.Trimmed.{variables_of}
use Rattle.strat_trim.proofs.MarkLemmas.{items_step, items_end}
use Rattle.strat_trim.proofs.naming.mark_all_variables.Goals as goal

pub loop-lit-preserved : goal.loop-lit-preserved
loop-lit-preserved c =
    items_step variables_of c.args.lits.now c.loop-lit.lit-index c.lit-item.result (flat_map variables_of c.args.lits.now) c.args.marks.now c.loop-lit.marks c.mark_variables.new.marks c.loop-lit.invariant c.loop-lit-test.true c.lit-item.is c.mark_variables.ensures

pub returns : goal.returns
returns c =
    items_end variables_of c.args.lits.now c.loop-lit.lit-index (flat_map variables_of c.args.lits.now) c.args.marks.now c.loop-lit.marks c.loop-lit.invariant c.loop-lit-test.false
