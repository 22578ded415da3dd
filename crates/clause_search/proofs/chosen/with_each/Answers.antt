use Rattle.clause_search.proofs.Choosing.{definition_chosen}
use Rattle.clause_search.proofs.chosen.with_each.Goals as goal

pub loop-node-init : goal.loop-node-init
loop-node-init g c = c.requires

pub loop-node-preserved : goal.loop-node-preserved
loop-node-preserved g c =
    let s = g.D.Domain.SORT in
    let w = c.args.system.now in
    definition_chosen s w c.args.goal.now _ 1 c.add_definition.new.chosen c.add_definition-in-loop-node.new.chosen
    (definition_chosen s w c.args.goal.now _ 0 c.loop-node.more c.add_definition.new.chosen c.loop-node.invariant c.in_ok-add_definition.ensures) c.in_ok-add_definition-2.ensures

pub returns : goal.returns
returns g c = c.loop-node.invariant
