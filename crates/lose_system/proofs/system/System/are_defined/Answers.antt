use Rattle.std.specs.Prelude.{[]}
use Rattle.std.proofs.Common.{arith}
use Rattle.game_tree.specs.View.{skeleton_of}
use Rattle.lose_system.specs.Losing.{definitions, HoldsAt}
use Rattle.lose_system.proofs.SolvedLemmas.{refuted, node_fails, all_nodes}
use Rattle.lose_system.proofs.system.System.are_defined.Goals as goal

pub returns-then-not-holds : goal.returns-then-not-holds
returns-then-not-holds g c =
    node_fails (definitions (skeleton_of c.args.self.now.tree) g.D.Domain.SORT [] 0) c.args.point.now c.loop-node.node
    (refuted c.in_ok-holds.holds (HoldsAt (definitions (skeleton_of c.args.self.now.tree) g.D.Domain.SORT [] 0) c.args.point.now c.loop-node.node) c.in_ok-holds.ensures c.if-not-holds.true)

pub returns : goal.returns
returns g c =
    all_nodes (skeleton_of c.args.self.now.tree) g.D.Domain.SORT c.args.point.now c.loop-node.node
    (let e = c.node_count-node-end.ensures in let f = c.loop-node-test.false in omega arith) c.loop-node.invariant
