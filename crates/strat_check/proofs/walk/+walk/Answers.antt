use Rattle.std.specs.Prelude.{◌+◌, ◌≡◌, suc, drop}
use Rattle.std.proofs.Common.{arith, ap, sym, ◌∙◌, subst}
use Rattle.game_tree.specs.Skeleton.{Branches, branch_nodes}
use Rattle.game_tree.specs.View.{skeleton_of, branches_of}
use Rattle.game_tree.proofs.Views.{branches_at, fewer_left}
use Rattle.strat_check.specs.Section.{is_kept}
use Rattle.strat_check.proofs.Walking.{Walked, walked_more, walked_below, fit_below, tree_lines_few}
use Rattle.strat_check.proofs.walk.+walk.Goals as goal

pub bad_branch-bad_line-requires : goal.bad_branch-bad_line-requires
bad_branch-bad_line-requires t c =
    let e = ap branch_nodes (branches_at c.args.branches.now c.loop-branch.branch-index c.branch-item.result c.loop-branch-test.true c.branch-item.is) in
    let h = fewer_left c.args.branches.now c.loop-branch.branch-index in
    let b = c.next.ensures.before in
    let l = c.next.ensures.line in
    let i = c.loop-branch.invariant.2 in
    let f = fit_below c.is_fit.result c.loop-branch.at.before (is_kept c.args.sort c.branch-item.result.term) c.is_fit.ensures c.if-not-is_fit.false in
    (omega arith, (omega arith, omega arith))

pub bad_branch-returns-in-Some-clause-bad : goal.bad_branch-returns-in-Some-clause-bad
bad_branch-returns-in-Some-clause-bad t c =
    let e = branches_at c.args.branches.now c.loop-branch.branch-index c.branch-item.result c.loop-branch-test.true c.branch-item.is in
    let w = subst (λ (x : Branches). Walked c.loop-branch.at.line c.loop-branch.at.before x c.args.sort c.args.at.now.line c.args.at.now.before (branches_of c.args.branches.now)) e c.loop-branch.invariant.0 in
    let l : c.next.result.line ≡ suc c.loop-branch.at.line = omega (arith, c.next.ensures.line) in
    let b : c.next.result.before ≡ suc c.loop-branch.at.before = omega (arith, c.next.ensures.before) in
    walked_below c.loop-branch.at.line c.loop-branch.at.before c.branch-item.result.term (skeleton_of c.branch-item.result.rest) (branches_of (drop (c.loop-branch.branch-index + 1) c.args.branches.now))
    c.args.sort c.args.at.now.line c.args.at.now.before (branches_of c.args.branches.now) c.next.result.line c.next.result.before c.in-Some.line
    w (sym c.is_fit.ensures ∙ c.if-not-is_fit.false) l b (sym c.bad_line.ensures.bad ∙ c.in-Some.is)

pub bad_branch-loop-branch-preserved : goal.bad_branch-loop-branch-preserved
bad_branch-loop-branch-preserved t c =
    let e = branches_at c.args.branches.now c.loop-branch.branch-index c.branch-item.result c.loop-branch-test.true c.branch-item.is in
    let w = subst (λ (x : Branches). Walked c.loop-branch.at.line c.loop-branch.at.before x c.args.sort c.args.at.now.line c.args.at.now.before (branches_of c.args.branches.now)) e c.loop-branch.invariant.0 in
    let l : c.next.result.line ≡ suc c.loop-branch.at.line = omega (arith, c.next.ensures.line) in
    let b : c.next.result.before ≡ suc c.loop-branch.at.before = omega (arith, c.next.ensures.before) in
    let few = tree_lines_few (skeleton_of c.branch-item.result.rest) in
    let room = c.loop-branch.invariant.2 in
    let new_line = c.in_default.ensures.line in
    let new_before = c.in_default.ensures.before in (
      walked_more c.loop-branch.at.line c.loop-branch.at.before c.branch-item.result.term (skeleton_of c.branch-item.result.rest) (branches_of (drop (c.loop-branch.branch-index + 1) c.args.branches.now))
          c.args.sort c.args.at.now.line c.args.at.now.before (branches_of c.args.branches.now) c.next.result.line c.next.result.before c.bad_line.new.at.line c.bad_line.new.at.before
          w (sym c.is_fit.ensures ∙ c.if-not-is_fit.false) l b (sym c.bad_line.ensures.bad ∙ c.in_default.is) new_line new_before,
      c.bad_line.ensures.few,
      omega arith,
    )
