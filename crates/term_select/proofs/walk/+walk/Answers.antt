use Rattle.std.specs.Prelude.{ℕ, suc, ◌+◌, Ok, Err, List, length}
use Rattle.std.proofs.Common.{arith, ap, ◌∙◌, refl, subst, sym}
use Rattle.lin_term.specs.Fixing.{at_names}
use Rattle.lin_term.specs.Linear.{Below}
use Rattle.dom_core.specs.View.{matrix_of}
use Rattle.game_tree.specs.Skeleton.{nodes, branch_nodes}
use Rattle.game_tree.specs.View.{skeleton_of, branches_of}
use Rattle.term_select.specs.Walk.{values_on}
use Rattle.term_select.proofs.Going.{longer}
use Rattle.term_select.proofs.Meeting.{walked_first}
use Rattle.term_select.proofs.Walks.{
  mine_is,
  end_over,
  end_true,
  end_gives,
  end_kept,
  theirs_can,
  theirs_fewer,
  here_long,
  theirs_gives_at,
  theirs_stops,
  branch_gives,
  branch_wide,
  branch_stops,
  mine_can,
  mine_gives,
  each_can,
  each_move,
  each_smaller,
  each_more,
  each_stops,
  each_gives,
  each_kept,
  pushed_long,
  pushed_can,
  pushed_gives,
  kept_at,
  kept_above,
  popped,
  capped_at,
  can_on,
  move_on,
  gives_on,
  kept_on,
  on_ok,
}
use Rattle.term_select.proofs.walk.+walk.Goals as goal

-- ---- a tree

pub walk-leaf-requires-clause-over : goal.walk-leaf-requires-clause-over
walk-leaf-requires-clause-over g t c =
    end_over g.D.Domain.SORT (matrix_of c.args.matrix.now) c.args.point.now c.args.tree.now c.args.next c.args.way.now c.as_slice.result.now c.in-End.is c.as_slice.ensures c.requires

pub walk-leaf-requires-clause-holds : goal.walk-leaf-requires-clause-holds
walk-leaf-requires-clause-holds g t c =
    end_true g.D.Domain.SORT (matrix_of c.args.matrix.now) c.args.point.now c.args.tree.now c.args.next c.args.way.now c.as_slice.result.now c.in-End.is c.as_slice.ensures c.requires

pub walk-returns-in_ok-part-in-End-clause-value : goal.walk-returns-in_ok-part-in-End-clause-value
walk-returns-in_ok-part-in-End-clause-value g t c =
    end_gives g.D.Domain.SORT (matrix_of c.args.matrix.now) c.args.point.now c.args.tree.now c.args.next c.args.way.now c.as_slice.result.now c.in_ok-part-in-End.part c.in-End.is c.as_slice.ensures c.requires
    c.in_ok-part-in-End.ensures.cube c.in_ok-part-in-End.ensures.tree c.in_ok-part-in-End.ensures.next

pub walk-returns-in_ok-part-in-End-clause-kept : goal.walk-returns-in_ok-part-in-End-clause-kept
walk-returns-in_ok-part-in-End-clause-kept g t c =
    end_kept g.D.Domain.SORT (matrix_of c.args.matrix.now) c.args.point.now c.args.tree.now c.args.next c.args.way.now c.as_slice.result.now c.in_ok-part-in-End.part c.in-End.is c.as_slice.ensures c.requires
    c.in_ok-part-in-End.ensures.cube

pub walk-overflow_cast-var : goal.walk-overflow_cast-var
walk-overflow_cast-var g t c = let w = c.requires.short in let e = c.len-var.ensures in omega arith

pub walk-walk_below-requires : goal.walk-walk_below-requires
walk-walk_below-requires g t c κs within =
    let f = theirs_fewer c.args.tree.now _ c.get.result.now c.in-Theirs.is c.get.ensures in
    (omega arith, (within, theirs_can g.D.Domain.SORT (matrix_of c.args.matrix.now) c.args.point.now c.args.tree.now _ c.get.result.now c.args.next c.args.way.now c.in-Theirs.is c.get.ensures c.requires))

pub walk-returns-in-Err-clause-value : goal.walk-returns-in-Err-clause-value
walk-returns-in-Err-clause-value g t c =
    theirs_stops g.D.Domain.SORT (matrix_of c.args.matrix.now) c.args.point.now c.args.tree.now _ c.get.result.now c.args.next (suc c.args.next + nodes (skeleton_of c.get.result.now)) c.args.way.now c.in-Err.fault c.in-Theirs.is c.get.ensures c.in-Err.ensures.value

pub walk-pick_move-requires-clause-kept : goal.walk-pick_move-requires-clause-kept
walk-pick_move-requires-clause-kept g t c =
    kept_above g.D.Domain.SORT c.len-var.result (length c.args.way.now) c.in-Ok.below.part.cube c.len-var.ensures c.in-Ok.ensures.kept

pub walk-pick_move-requires-clause-long : goal.walk-pick_move-requires-clause-long
walk-pick_move-requires-clause-long g t c =
    let l = here_long c.args.point.now c.in-Ok.below.here c.args.way.now c.args.next c.in-Ok.ensures.here in
    let e = c.len-var.ensures in
    omega arith

pub walk-returns-in-Ok-clause-value : goal.walk-returns-in-Ok-clause-value
walk-returns-in-Ok-clause-value g t c =
    theirs_gives_at g.D.Domain.SORT (matrix_of c.args.matrix.now) c.args.point.now c.args.tree.now _ c.get.result.now c.args.next c.len-var.result c.args.way.now c.in-Ok.below c.pick_move.result c.len-var.ensures c.in-Theirs.is c.get.ensures c.requires
    c.in-Ok.ensures.value c.in-Ok.ensures.here c.pick_move.ensures.value

pub walk-returns-in-Ok-clause-back : goal.walk-returns-in-Ok-clause-back
walk-returns-in-Ok-clause-back g t c = on_ok c.pick_move.result _ c.in-Ok.ensures.back

pub walk-walk_each-requires : goal.walk-walk_each-requires
walk-walk_each-requires g t c κs within =
    let f = ap nodes (mine_is c.args.tree.now c.in-Mine.branches c.as_slice-in-Mine.result.now c.in-Mine.is c.as_slice-in-Mine.ensures) in
    (omega arith, (within, mine_can g.D.Domain.SORT (matrix_of c.args.matrix.now) c.args.point.now c.args.tree.now c.in-Mine.branches c.as_slice-in-Mine.result.now c.args.next c.args.way.now c.in-Mine.is c.as_slice-in-Mine.ensures c.requires))

pub walk-returns-in-Mine-clause-value : goal.walk-returns-in-Mine-clause-value
walk-returns-in-Mine-clause-value g t c =
    mine_gives g.D.Domain.SORT (matrix_of c.args.matrix.now) c.args.point.now c.args.tree.now c.in-Mine.branches c.as_slice-in-Mine.result.now c.args.next c.args.way.now c.walk_each.result c.in-Mine.is c.as_slice-in-Mine.ensures c.walk_each.ensures.value

-- ---- below a node

pub walk_below-overflow_add-node : goal.walk_below-overflow_add-node
walk_below-overflow_add-node g t c = let w = c.requires.few in omega arith

pub walk_below-walk-requires : goal.walk_below-walk-requires
walk_below-walk-requires g t c κs within =
    (omega arith, (within, pushed_can g.D.Domain.SORT (matrix_of c.args.matrix.now) c.args.point.now (skeleton_of c.args.tree.now) c.args.node (c.args.node + 1) c.args.way.now c.push.new.self (omega arith) c.in_ok-push.ensures.ok c.requires))

pub walk_below-returns-in-Err-clause-value : goal.walk_below-returns-in-Err-clause-value
walk_below-returns-in-Err-clause-value g t c =
    pushed_gives g.D.Domain.SORT (matrix_of c.args.matrix.now) c.args.point.now (skeleton_of c.args.tree.now) c.args.node (c.args.node + 1) c.args.way.now c.push.new.self (Err c.in-Err.fault) (omega arith) c.in_ok-push.ensures.ok c.in-Err.ensures.value

pub walk_below-returns-clause-value : goal.walk_below-returns-clause-value
walk_below-returns-clause-value g t c =
    pushed_gives g.D.Domain.SORT (matrix_of c.args.matrix.now) c.args.point.now (skeleton_of c.args.tree.now) c.args.node (c.args.node + 1) c.args.way.now c.push.new.self (Ok c.in-Ok.part) (omega arith) c.in_ok-push.ensures.ok c.in-Ok.ensures.value

pub walk_below-returns-clause-here : goal.walk_below-returns-clause-here
walk_below-returns-clause-here g t c =
    c.in_ok-here.ensures ∙ ap (λ (ns : List ℕ). at_names ns c.args.point.now) (c.as_slice.ensures ∙ c.in-Ok.ensures.back ∙ c.in_ok-push.ensures.ok)

pub walk_below-returns-clause-kept : goal.walk_below-returns-clause-kept
walk_below-returns-clause-kept g t c =
    kept_at g.D.Domain.SORT (length c.push.new.self) (suc (length c.args.way.now)) c.in-Ok.part.cube (pushed_long c.args.way.now c.push.new.self c.args.node c.in_ok-push.ensures.ok) c.in-Ok.ensures.kept

pub walk_below-returns-clause-back : goal.walk_below-returns-clause-back
walk_below-returns-clause-back g t c = popped c.pop.result c.walk.new.way c.pop.new.self c.args.way.now c.args.node c.pop.ensures (c.in-Ok.ensures.back ∙ c.in_ok-push.ensures.ok)

-- ---- a branch

pub walk_branch-overflow_cast-var : goal.walk_branch-overflow_cast-var
walk_branch-overflow_cast-var g t c = let w = c.requires.select.short in let l = longer c.args.way.now c.args.node in let e = c.len-var.ensures in omega arith

pub walk_branch-walk_below-requires : goal.walk_branch-walk_below-requires
walk_branch-walk_below-requires g t c κs within = (omega arith, (within, c.requires.select))

pub walk_branch-returns-in-Err-clause-value : goal.walk_branch-returns-in-Err-clause-value
walk_branch-returns-in-Err-clause-value g t c =
    branch_stops g.D.Domain.SORT (matrix_of c.args.matrix.now) c.args.point.now c.args.branch.now c.args.node (suc c.args.node + nodes (skeleton_of c.args.branch.now.rest)) c.args.way.now c.in-Err.fault c.in-Err.ensures.value

pub walk_branch-put_move-requires-clause-kept : goal.walk_branch-put_move-requires-clause-kept
walk_branch-put_move-requires-clause-kept g t c =
    kept_above g.D.Domain.SORT c.len-var.result (length c.args.way.now) c.in-Ok.below.part.cube c.len-var.ensures c.in-Ok.ensures.kept

pub walk_branch-put_move-requires-clause-earlier : goal.walk_branch-put_move-requires-clause-earlier
walk_branch-put_move-requires-clause-earlier g t c = subst (λ (n : ℕ). Below n c.args.branch.now.term.numer) (sym c.len-var.ensures) c.requires.earlier.earlier

pub walk_branch-put_move-requires-clause-long : goal.walk_branch-put_move-requires-clause-long
walk_branch-put_move-requires-clause-long g t c =
    let l = here_long c.args.point.now c.in-Ok.below.here c.args.way.now c.args.node c.in-Ok.ensures.here in
    let e = c.len-var.ensures in
    omega arith

pub walk_branch-returns-in-Err-put_move-clause-value : goal.walk_branch-returns-in-Err-put_move-clause-value
walk_branch-returns-in-Err-put_move-clause-value g t c =
    let s = g.D.Domain.SORT in
    let b = c.in-Ok.below in
    branch_wide s (matrix_of c.args.matrix.now) c.args.point.now c.args.branch.now c.args.node _ c.args.way.now b c.in-Err-put_move.fault c.requires.select c.requires.earlier c.in-Ok.ensures.value c.in-Ok.ensures.here
    (capped_at s c.len-var.result (length c.args.way.now) c.args.branch.now.term b.here b.part.cube (Err c.in-Err-put_move.fault) c.len-var.ensures c.in-Err-put_move.ensures.value)

pub walk_branch-returns-clause-value : goal.walk_branch-returns-clause-value
walk_branch-returns-clause-value g t c =
    let s = g.D.Domain.SORT in
    let b = c.in-Ok.below in
    branch_gives s (matrix_of c.args.matrix.now) c.args.point.now c.args.branch.now c.args.node c.args.way.now b c.in-Ok-put_move.cube c.requires.select c.requires.earlier c.in-Ok.ensures.value c.in-Ok.ensures.here
    (capped_at s c.len-var.result (length c.args.way.now) c.args.branch.now.term b.here b.part.cube (Ok c.in-Ok-put_move.cube) c.len-var.ensures c.in-Ok-put_move.ensures.value)

pub walk_branch-returns-clause-kept : goal.walk_branch-returns-clause-kept
walk_branch-returns-clause-kept g t c = kept_at g.D.Domain.SORT c.len-var.result (length c.args.way.now) c.in-Ok-put_move.cube c.len-var.ensures c.in-Ok-put_move.ensures.kept

pub walk_branch-returns-clause-back : goal.walk_branch-returns-clause-back
walk_branch-returns-clause-back g t c = c.in-Ok.ensures.back

-- ---- all branches

pub walk_each-loop-branch-init : goal.walk_each-loop-branch-init
walk_each-loop-branch-init g t c = record {
  way = refl;
  walked = walked_first g.D.Domain.SORT (matrix_of c.args.matrix.now) c.args.point.now (values_on c.args.point.now c.args.way.now) c.args.way.now c.none-met.result (branches_of c.args.branches.now) c.args.next c.requires c.none-met.ensures.lits c.none-met.ensures.trees c.none-met.ensures.next;
}

pub walk_each-walk_branch-requires : goal.walk_each-walk_branch-requires
walk_each-walk_branch-requires g t c κs within =
    let s = g.D.Domain.SORT in
    let M = matrix_of c.args.matrix.now in
    let p = c.args.point.now in
    let names = c.args.way.now in
    let bs = c.args.branches.now in
    let i = c.loop-branch.branch-index in
    let b = c.branch-item.result in
    let met = c.loop-branch.met in
    let w = c.loop-branch.invariant in
    let f = each_smaller bs i b c.loop-branch-test.true c.branch-item.is in (
      omega arith,
      (
        within,
        (
          can_on s M p (skeleton_of b.rest) met.next names c.loop-branch.way w.way (each_can s M p names met bs i b c.args.next c.loop-branch-test.true c.branch-item.is w.walked),
          move_on s b.term names c.loop-branch.way w.way (each_move s M p names met bs i b c.args.next c.loop-branch-test.true c.branch-item.is w.walked),
        ),
      ),
    )

pub walk_each-returns-in-Err-clause-value : goal.walk_each-returns-in-Err-clause-value
walk_each-returns-in-Err-clause-value g t c =
    let s = g.D.Domain.SORT in
    let M = matrix_of c.args.matrix.now in
    let p = c.args.point.now in
    let names = c.args.way.now in
    let bs = c.args.branches.now in
    let i = c.loop-branch.branch-index in
    let b = c.branch-item.result in
    let met = c.loop-branch.met in
    let w = c.loop-branch.invariant in
    let n = suc met.next + nodes (skeleton_of b.rest) in
    each_stops s M p names met bs i b c.args.next n (c.args.next + branch_nodes (branches_of bs)) c.in-Err.fault c.loop-branch-test.true c.branch-item.is w.walked
    (gives_on s M p b.term (skeleton_of b.rest) met.next n names c.loop-branch.way (Err c.in-Err.fault) w.way c.in-Err.ensures.value)

pub walk_each-loop-branch-preserved : goal.walk_each-loop-branch-preserved
walk_each-loop-branch-preserved g t c =
    let s = g.D.Domain.SORT in
    let M = matrix_of c.args.matrix.now in
    let p = c.args.point.now in
    let names = c.args.way.now in
    let bs = c.args.branches.now in
    let i = c.loop-branch.branch-index in
    let b = c.branch-item.result in
    let met = c.loop-branch.met in
    let w = c.loop-branch.invariant in
    let n = suc met.next + nodes (skeleton_of b.rest) in
    let m = c.in-Ok-with_part.ensures in
    record {
      way = c.in-Ok.ensures.back ∙ w.way;
      walked = each_more s M p names met c.in-Ok-with_part.met bs i b c.args.next c.in-Ok.part c.loop-branch-test.true c.branch-item.is w.walked
          (gives_on s M p b.term (skeleton_of b.rest) met.next n names c.loop-branch.way (Ok c.in-Ok.part) w.way c.in-Ok.ensures.value)
          (kept_on s names c.loop-branch.way c.in-Ok.part.cube w.way c.in-Ok.ensures.kept) m.lits m.trees m.next;
    }

pub walk_each-returns-clause-value : goal.walk_each-returns-clause-value
walk_each-returns-clause-value g t c =
    each_gives g.D.Domain.SORT (matrix_of c.args.matrix.now) c.args.point.now c.args.way.now c.loop-branch.met c.args.branches.now c.loop-branch.branch-index c.args.next c.in_ok-part.part c.loop-branch-test.false c.loop-branch.invariant.walked
    c.in_ok-part.ensures.cube c.in_ok-part.ensures.tree c.in_ok-part.ensures.next

pub walk_each-returns-clause-kept : goal.walk_each-returns-clause-kept
walk_each-returns-clause-kept g t c =
    each_kept g.D.Domain.SORT (matrix_of c.args.matrix.now) c.args.point.now c.args.way.now c.loop-branch.met c.args.branches.now c.loop-branch.branch-index c.args.next c.in_ok-part.part c.loop-branch.invariant.walked c.in_ok-part.ensures.cube

pub walk_each-returns-clause-back : goal.walk_each-returns-clause-back
walk_each-returns-clause-back g t c = c.loop-branch.invariant.way
