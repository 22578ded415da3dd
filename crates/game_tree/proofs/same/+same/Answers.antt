use Rattle.std.proofs.Common.{arith, ap}
use Rattle.game_tree.specs.Skeleton.{branch_nodes}
use Rattle.game_tree.proofs.Views.{branches_at, fewer_left}
use Rattle.game_tree.proofs.same.+same.Goals as goal

pub are_same_branches-is_same_tree-requires : goal.are_same_branches-is_same_tree-requires
are_same_branches-is_same_tree-requires t c =
    let e = ap branch_nodes (branches_at c.args.a.now c.loop-i.i c.index-a-i.result c.loop-i-test.true c.index-a-i.is) in
    let h = fewer_left c.args.a.now c.loop-i.i in
    omega arith
