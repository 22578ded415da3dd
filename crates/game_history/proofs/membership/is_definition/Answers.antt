use Rattle.std.specs.Prelude.{[]}
use Rattle.std.proofs.Common.{arith}
use Rattle.game_tree.specs.View.{skeleton_of}
use Rattle.lose_system.specs.Losing.{definitions, definition_at}
use Rattle.game_history.specs.Literals.{IsLiteralOf}
use Rattle.game_history.proofs.OfSystem.{refuted, found_at, none_more, none_at_all}
use Rattle.game_history.proofs.membership.is_definition.Goals as goal

pub returns-then-here : goal.returns-then-here
returns-then-here g c = found_at (definitions (skeleton_of c.args.system.now.tree) g.D.Domain.SORT [] 0) c.args.lit.now c.loop-node.node (c.in_ok-here.ensures.0 c.if-here.true)

pub loop-node-preserved : goal.loop-node-preserved
loop-node-preserved g c =
    let ds = definitions (skeleton_of c.args.system.now.tree) g.D.Domain.SORT [] 0 in
    none_more ds c.args.lit.now c.loop-node.node c.loop-node.invariant (refuted c.in_ok-here.here (IsLiteralOf (definition_at ds c.loop-node.node) c.args.lit.now) c.in_ok-here.ensures c.if-here.false)

pub returns : goal.returns
returns g c =
    none_at_all (skeleton_of c.args.system.now.tree) g.D.Domain.SORT c.args.lit.now c.loop-node.node
    (let e = c.node_count-node-end.ensures in let f = c.loop-node-test.false in omega arith) c.loop-node.invariant
