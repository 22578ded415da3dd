use Rattle.std.proofs.Common.{arith, refl, subst}
use Rattle.std.specs.Prelude.{length, Option}
use Rattle.game_tree.specs.declared.Tree.{Tree}
use Rattle.strat_trim.specs.Parts.{IsPart}
use Rattle.game_tree.specs.View.{skeleton_of, branches_of}
use Rattle.strat_trim.specs.Trimmed.{marked}
use Rattle.strat_trim.proofs.PruningLemmas.{pruning_first, pruning_room, pruning_step, pruning_end, pruning_tree, pruning_marks, pruning_path, adds_kept, adds_none, part_none_of, part_some_of}
use Rattle.strat_trim.proofs.pruning.+pruned.Goals as goal

pub pruned_each-loop-branch-init : goal.pruned_each-loop-branch-init
pruned_each-loop-branch-init t c =
    pruning_first (marked c.args.chosen.now) c.new-left.result c.args.path.now c.args.marks.now (branches_of c.args.branches.now) c.new-left.ensures

pub pruned_each-add_pruned-requires : goal.pruned_each-add_pruned-requires
pruned_each-add_pruned-requires t c =
    let r = pruning_room (marked c.args.chosen.now) c.loop-branch.left c.loop-branch.path c.loop-branch.marks c.args.branches.now c.loop-branch.branch-index c.branch-item.result c.args.path.now (length c.args.chosen.now) c.args.marks.now c.loop-branch.invariant c.loop-branch-test.true c.branch-item.is c.requires in
    let a = r.0 in
    let b = r.1 in
    (omega arith, omega arith)

pub pruned_each-loop-branch-preserved : goal.pruned_each-loop-branch-preserved
pruned_each-loop-branch-preserved t c =
    pruning_step (marked c.args.chosen.now) c.loop-branch.left c.add_pruned.new.left c.loop-branch.path c.add_pruned.new.path c.loop-branch.marks c.add_pruned.new.marks c.args.marks.now c.args.path.now c.args.branches.now c.loop-branch.branch-index c.branch-item.result (branches_of c.args.branches.now) c.loop-branch.invariant c.loop-branch-test.true c.branch-item.is c.in_ok-add_pruned.ensures.left c.in_ok-add_pruned.ensures.marks c.in_ok-add_pruned.ensures.path

pub pruned_each-returns-clause-tree : goal.pruned_each-returns-clause-tree
pruned_each-returns-clause-tree t c =
    pruning_tree (marked c.args.chosen.now) c.loop-branch.left c.loop-branch.path c.loop-branch.marks c.args.path.now c.args.marks.now (branches_of c.args.branches.now)
    (pruning_end (marked c.args.chosen.now) c.loop-branch.left c.loop-branch.path c.loop-branch.marks c.args.branches.now c.loop-branch.branch-index c.args.path.now c.args.marks.now (branches_of c.args.branches.now) c.loop-branch.invariant c.loop-branch-test.false)

pub pruned_each-returns-clause-marks : goal.pruned_each-returns-clause-marks
pruned_each-returns-clause-marks t c =
    pruning_marks (marked c.args.chosen.now) c.loop-branch.left c.loop-branch.path c.loop-branch.marks c.args.path.now c.args.marks.now (branches_of c.args.branches.now)
    (pruning_end (marked c.args.chosen.now) c.loop-branch.left c.loop-branch.path c.loop-branch.marks c.args.branches.now c.loop-branch.branch-index c.args.path.now c.args.marks.now (branches_of c.args.branches.now) c.loop-branch.invariant c.loop-branch-test.false)

pub pruned_each-returns-clause-path : goal.pruned_each-returns-clause-path
pruned_each-returns-clause-path t c =
    pruning_path (marked c.args.chosen.now) c.loop-branch.left c.loop-branch.path c.loop-branch.marks c.args.path.now c.args.marks.now (branches_of c.args.branches.now)
    (pruning_end (marked c.args.chosen.now) c.loop-branch.left c.loop-branch.path c.loop-branch.marks c.args.branches.now c.loop-branch.branch-index c.args.path.now c.args.marks.now (branches_of c.args.branches.now) c.loop-branch.invariant c.loop-branch-test.false)

pub add_pruned-returns-in_ok-push-in-Some-clause-left : goal.add_pruned-returns-in_ok-push-in-Some-clause-left
add_pruned-returns-in_ok-push-in-Some-clause-left t c =
    adds_kept c.args.branch.now.term (skeleton_of c.args.branch.now.rest) (marked c.args.chosen.now) c.args.path.now c.args.left.now c.push.new.self (record { term = c.in_ok-term-in-Some.term; rest = c.in-Some.rest })
    (subst (λ (o : Option Tree). IsPart o (skeleton_of c.args.branch.now.rest) (marked c.args.chosen.now) c.args.path.now) c.in-Some.is c.in_ok-rest.ensures.tree)
    c.in_ok-term-in-Some.ensures c.in_ok-push-in-Some.ensures.ok

pub add_pruned-returns-in-None-clause-left : goal.add_pruned-returns-in-None-clause-left
add_pruned-returns-in-None-clause-left t c =
    adds_none c.args.branch.now.term (skeleton_of c.args.branch.now.rest) (marked c.args.chosen.now) c.args.path.now c.args.left.now c.args.left.now
    (subst (λ (o : Option Tree). IsPart o (skeleton_of c.args.branch.now.rest) (marked c.args.chosen.now) c.args.path.now) c.in-None.is c.in_ok-rest.ensures.tree) refl

pub pruned-returns-then-is_empty-clause-tree : goal.pruned-returns-then-is_empty-clause-tree
pruned-returns-then-is_empty-clause-tree t c =
    part_none_of c.args.tree.now c.in-Mine.branches c.as_slice.result.now c.in_ok-left-in-Mine.left (marked c.args.chosen.now) c.args.path.now c.is_empty.result c.in-Mine.is c.as_slice.ensures c.in_ok-left-in-Mine.ensures.tree c.is_empty.ensures c.if-is_empty.true

pub pruned-returns-else-is_empty-clause-tree : goal.pruned-returns-else-is_empty-clause-tree
pruned-returns-else-is_empty-clause-tree t c =
    part_some_of c.args.tree.now c.in-Mine.branches c.as_slice.result.now c.in_ok-left-in-Mine.left (marked c.args.chosen.now) c.args.path.now c.is_empty.result c.in-Mine.is c.as_slice.ensures c.in_ok-left-in-Mine.ensures.tree c.is_empty.ensures c.if-is_empty.false
