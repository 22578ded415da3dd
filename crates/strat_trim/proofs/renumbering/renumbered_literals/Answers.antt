use Rattle.lin_term.specs.Literal.{rename_lit}
use Rattle.cube_rules.proofs.Learning.{each_at}
use Rattle.strat_trim.specs.Renamed.{HasNames}
use Rattle.strat_trim.proofs.RenumberLemmas.{mapped_step, mapped_end}
use Rattle.strat_trim.proofs.renumbering.renumbered_literals.Goals as goal

pub renamed-requires-clause-rising : goal.renamed-requires-clause-rising
renamed-requires-clause-rising c =
    (each_at (HasNames c.args.nodes.now) c.args.lits.now c.loop-lit.lit-index c.lit-item.result c.requires c.loop-lit-test.true c.lit-item.is).0

pub renamed-requires-clause-below : goal.renamed-requires-clause-below
renamed-requires-clause-below c =
    (each_at (HasNames c.args.nodes.now) c.args.lits.now c.loop-lit.lit-index c.lit-item.result c.requires c.loop-lit-test.true c.lit-item.is).1

pub loop-lit-preserved : goal.loop-lit-preserved
loop-lit-preserved c =
    mapped_step (rename_lit c.args.nodes.now) c.args.lits.now c.loop-lit.list c.push.new.self c.loop-lit.lit-index c.lit-item.result c.in_ok-renamed.field-0 c.loop-lit.invariant c.loop-lit-test.true c.lit-item.is c.in_ok-renamed.ensures c.in_ok-push.ensures.ok

pub returns : goal.returns
returns c = mapped_end (rename_lit c.args.nodes.now) c.args.lits.now c.loop-lit.list c.loop-lit.lit-index c.loop-lit.invariant c.loop-lit-test.false
