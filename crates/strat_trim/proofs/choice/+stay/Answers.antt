use Rattle.std.specs.Prelude.{suc, length, ◌+◌, ◌≡◌, ◌&&◌, not, ◌++◌, Bool, ℕ, List}
use Rattle.std.proofs.Common.{arith, ap, ap₂, ◌∙◌}
use Rattle.game_tree.specs.View.{skeleton_of, branches_of}
use Rattle.strat_trim.specs.Trimmed.{marked, with_first, stays}
use Rattle.strat_trim.proofs.ChoiceLemmas.{walked_first, walked_room, walked_step, walked_end, walked_has, walked_flags, walked_count}
use Rattle.strat_trim.proofs.choice.+stay.Goals as goal

pub stay_below-returns-clause-flags : goal.stay_below-returns-clause-flags
stay_below-returns-clause-flags t c =
    let e : c.args.node.now + 1 ≡ suc c.args.node.now = omega arith in
    c.ask.ensures c.args.flags.now (stays (skeleton_of c.args.rest.now) (marked c.args.named.now.paths) (marked c.args.named.now.nodes) (length c.args.flags.now) (suc c.args.node.now))
    (c.in_ok-has.ensures.flags ∙ ap (λ (i : ℕ). c.args.flags.now ++ stays (skeleton_of c.args.rest.now) (marked c.args.named.now.paths) (marked c.args.named.now.nodes) (length c.args.flags.now) i) e)
    c.len-first.ensures
    ∙ ap (λ (b : Bool). c.args.flags.now ++ with_first b (stays (skeleton_of c.args.rest.now) (marked c.args.named.now.paths) (marked c.args.named.now.nodes) (length c.args.flags.now) (suc c.args.node.now)))
    (c.alone.ensures ∙ ap₂ (λ (x y : Bool). x && not y) (c.is_marked-asked.ensures ∙ ap (λ (m : List Bool). marked m c.args.node.now) c.as_slice.ensures) c.in_ok-has.ensures.has)

pub stay_each-loop-branch-init : goal.stay_each-loop-branch-init
stay_each-loop-branch-init t c =
    walked_first (marked c.args.named.now.paths) (marked c.args.named.now.nodes) c.args.flags.now c.args.node.now (branches_of c.args.branches.now) c.requires

pub stay_each-stay_below-requires : goal.stay_each-stay_below-requires
stay_each-stay_below-requires t c =
    let r = walked_room (marked c.args.named.now.paths) (marked c.args.named.now.nodes) c.loop-branch.has c.loop-branch.flags c.loop-branch.node c.args.branches.now c.loop-branch.branch-index c.branch-item.result c.args.flags.now c.args.node.now (branches_of c.args.branches.now) c.loop-branch.invariant c.loop-branch-test.true c.branch-item.is in
    let a = r.0 in
    let b = r.1 in
    (omega arith, omega arith)

pub stay_each-loop-branch-preserved : goal.stay_each-loop-branch-preserved
stay_each-loop-branch-preserved t c =
    walked_step (marked c.args.named.now.paths) (marked c.args.named.now.nodes) c.loop-branch.has c.in_ok-one.one c.either-has.result c.loop-branch.flags c.stay_below.new.flags c.loop-branch.node c.stay_below.new.node c.args.branches.now c.loop-branch.branch-index c.branch-item.result c.args.flags.now c.args.node.now (branches_of c.args.branches.now) c.loop-branch.invariant c.loop-branch-test.true c.branch-item.is c.either-has.ensures c.in_ok-one.ensures.has c.in_ok-one.ensures.flags c.in_ok-one.ensures.node

pub stay_each-returns-clause-has : goal.stay_each-returns-clause-has
stay_each-returns-clause-has t c =
    walked_has (marked c.args.named.now.paths) (marked c.args.named.now.nodes) c.loop-branch.has c.loop-branch.flags c.loop-branch.node c.args.flags.now c.args.node.now (branches_of c.args.branches.now)
    (walked_end (marked c.args.named.now.paths) (marked c.args.named.now.nodes) c.loop-branch.has c.loop-branch.flags c.loop-branch.node c.args.branches.now c.loop-branch.branch-index c.args.flags.now c.args.node.now (branches_of c.args.branches.now) c.loop-branch.invariant c.loop-branch-test.false)

pub stay_each-returns-clause-flags : goal.stay_each-returns-clause-flags
stay_each-returns-clause-flags t c =
    walked_flags (marked c.args.named.now.paths) (marked c.args.named.now.nodes) c.loop-branch.has c.loop-branch.flags c.loop-branch.node c.args.flags.now c.args.node.now (branches_of c.args.branches.now)
    (walked_end (marked c.args.named.now.paths) (marked c.args.named.now.nodes) c.loop-branch.has c.loop-branch.flags c.loop-branch.node c.args.branches.now c.loop-branch.branch-index c.args.flags.now c.args.node.now (branches_of c.args.branches.now) c.loop-branch.invariant c.loop-branch-test.false)

pub stay_each-returns-clause-node : goal.stay_each-returns-clause-node
stay_each-returns-clause-node t c =
    walked_count (marked c.args.named.now.paths) (marked c.args.named.now.nodes) c.loop-branch.has c.loop-branch.flags c.loop-branch.node c.args.flags.now c.args.node.now (branches_of c.args.branches.now)
    (walked_end (marked c.args.named.now.paths) (marked c.args.named.now.nodes) c.loop-branch.has c.loop-branch.flags c.loop-branch.node c.args.branches.now c.loop-branch.branch-index c.args.flags.now c.args.node.now (branches_of c.args.branches.now) c.loop-branch.invariant c.loop-branch-test.false)
