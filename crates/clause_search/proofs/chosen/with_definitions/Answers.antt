use Rattle.std.specs.Prelude.{length}
use Rattle.std.proofs.Common.{arith}
use Rattle.lose_system.specs.Written.{system_of}
use Rattle.clause_search.proofs.Choosing.{definition_chosen, first_stays, nodes_none, nodes_more, nodes_all}
use Rattle.clause_search.proofs.chosen.with_definitions.Goals as goal

pub loop-node-init : goal.loop-node-init
loop-node-init g c = record {
  chooses = c.requires.chooses;
  first = c.requires.all;
  nodes = nodes_none (system_of g.D.Domain.SORT c.args.system.now) c.args.chosen.cube;
}

pub loop-node-preserved : goal.loop-node-preserved
loop-node-preserved g c =
    let s = g.D.Domain.SORT in
    let w = c.args.system.now in
    let v = c.loop-node.node in
    let a = c.in_ok-add_definition.ensures in
    let b = c.in_ok-add_definition-2.ensures in
    record {
      chooses = definition_chosen s w c.args.goal.now v 1 c.add_definition.new.chosen c.add_definition-in-loop-node.new.chosen (definition_chosen s w c.args.goal.now v 0 c.loop-node.more c.add_definition.new.chosen c.loop-node.invariant.chooses a) b;
      first = first_stays s w c.args.goal.now (length c.args.goal.now.lits) v 1 c.add_definition.new.chosen c.add_definition-in-loop-node.new.chosen b
          (first_stays s w c.args.goal.now (length c.args.goal.now.lits) v 0 c.loop-node.more c.add_definition.new.chosen a c.loop-node.invariant.first);
      nodes = nodes_more s w v c.loop-node.more c.add_definition.new.chosen c.add_definition-in-loop-node.new.chosen a b c.loop-node.invariant.nodes;
    }

pub returns-clause-chooses : goal.returns-clause-chooses
returns-clause-chooses g c = c.loop-node.invariant.chooses

pub returns-clause-all : goal.returns-clause-all
returns-clause-all g c = c.loop-node.invariant.first

pub returns-clause-nodes : goal.returns-clause-nodes
returns-clause-nodes g c =
    let e = c.node_count-node-end.ensures in
    let f = c.loop-node-test.false in
    nodes_all (system_of g.D.Domain.SORT c.args.system.now) c.loop-node.node (system_of g.D.Domain.SORT c.args.system.now).count c.loop-node.more.cube (omega arith) c.loop-node.invariant.nodes
