use Rattle.std.specs.Prelude.{drop}
use Rattle.std.proofs.Common.{arith, ap, ◌∙◌, refl}
use Rattle.std.proofs.lemmas.List.{drop_all}
use Rattle.game_tree.specs.Skeleton.{branch_nodes}
use Rattle.game_tree.specs.View.{skeleton_of}
use Rattle.game_tree.proofs.Views.{branches_at, fewer_left}
use Rattle.grown_tree.specs.declared.node.Node.TheVariants as variants
use Rattle.grown_tree.proofs.Growing.{fits_first, one_put, node_old, node_new, set_twice, within_below, sound_below, found_sound_so, found_old_so, found_new_so, new_sound_so, new_old_so, new_new_so}
use Rattle.grown_tree.proofs.grow.+grow.Goals as goal

pub grow_all-grow_branch-done-requires : goal.grow_all-grow_branch-done-requires
grow_all-grow_branch-done-requires t c =
    let bs = c.args.branches.now in
    let i = c.loop-branch.branch-index in
    let inv = c.loop-branch.invariant in
    let e = ap branch_nodes (branches_at bs i c.branch-item.result c.loop-branch-test.true c.branch-item.is) in
    let h = fewer_left bs i in
    (omega arith, (inv.0, (fits_first bs i c.branch-item.result c.args.rest.now c.loop-branch-test.true c.branch-item.is inv.3).0))

pub grow_all-returns-then-not-done-clause-old : goal.grow_all-returns-then-not-done-clause-old
grow_all-returns-then-not-done-clause-old t c =
    λ v l.
    node_old v c.args.node c.grow_branch-done.new.marks c.parts-marks.result.0 c.grow_branch-done.new.below c.parts-marks.result.1 c.args.rest.now (c.parts-marks.ensures.shown v c.args.rest.now)
    (c.grow_branch-done.ensures.old v l ∙ c.loop-branch.invariant.1 v l)

pub grow_all-loop-branch-preserved : goal.grow_all-loop-branch-preserved
grow_all-loop-branch-preserved t c =
    let bs = c.args.branches.now in
    let i = c.loop-branch.branch-index in
    let b = c.branch-item.result in
    let l = c.loop-branch-test.true in
    let inv = c.loop-branch.invariant in (
      c.grow_branch-done.ensures.sound,
      λ v k. c.grow_branch-done.ensures.old v k ∙ inv.1 v k,
      one_put c.args.stamp c.loop-branch.marks c.grow_branch-done.new.marks c.loop-branch.below c.grow_branch-done.new.below bs i b c.args.rest.now _ l c.branch-item.is (c.grow_branch-done.ensures.new c.if-not-done.false) inv.2,
      (fits_first bs i b c.args.rest.now l c.branch-item.is inv.3).1,
    )

pub grow_all-returns-clause-old : goal.grow_all-returns-clause-old
grow_all-returns-clause-old t c =
    λ v l.
    node_old v c.args.node c.loop-branch.marks c.parts-marks.result.0 c.loop-branch.below c.parts-marks.result.1 c.args.rest.now (c.parts-marks.ensures.shown v c.args.rest.now) (c.loop-branch.invariant.1 v l)

pub grow_all-returns-clause-new : goal.grow_all-returns-clause-new
grow_all-returns-clause-new t c =
    λ q.
    node_new c.args.stamp c.args.node c.loop-branch.marks c.parts-marks.result.0 c.loop-branch.below c.parts-marks.result.1 c.args.branches.now (drop c.loop-branch.branch-index c.args.branches.now) c.args.rest.now
    (c.parts-marks.ensures.shown c.args.stamp c.args.rest.now) (drop_all c.loop-branch.branch-index c.args.branches.now c.loop-branch-test.false) c.loop-branch.invariant.2

pub grow_branch-grow-new-requires : goal.grow_branch-grow-new-requires
grow_branch-grow-new-requires t c =
    (omega arith, (sound_below c.args.stamp c.args.marks.now c.args.below.now c.in-Some.place c.replace-old.result c.requires.sound c.in-Some.ensures.within c.replace-old.ensures.out, c.requires.fits))

pub grow_branch-returns-in-Some-clause-sound : goal.grow_branch-returns-in-Some-clause-sound
grow_branch-returns-in-Some-clause-sound t c =
    found_sound_so c.args.stamp c.args.marks.now c.args.below.now c.set.new.self c.in-Some.place c.grow-new.result.0
    (set_twice c.args.below.now c.replace-old.new.self c.set.new.self c.in-Some.place variants.End c.grow-new.result.0 c.replace-old.ensures.rest c.set.ensures) c.requires.sound c.grow-new.ensures.sound

pub grow_branch-returns-in-Some-clause-old : goal.grow_branch-returns-in-Some-clause-old
grow_branch-returns-in-Some-clause-old t c =
    λ v l.
    found_old_so v c.args.marks.now c.args.below.now c.set.new.self c.in-Some.place c.replace-old.result c.grow-new.result.0 c.args.rest.now
    (set_twice c.args.below.now c.replace-old.new.self c.set.new.self c.in-Some.place variants.End c.grow-new.result.0 c.replace-old.ensures.rest c.set.ensures)
    (within_below c.args.stamp c.args.marks.now c.args.below.now c.in-Some.place c.requires.sound c.in-Some.ensures.within) c.replace-old.ensures.out (c.grow-new.ensures.old v l)

pub grow_branch-returns-in-Some-clause-new : goal.grow_branch-returns-in-Some-clause-new
grow_branch-returns-in-Some-clause-new t c =
    λ q.
    found_new_so c.args.stamp c.args.marks.now c.args.below.now c.set.new.self c.in-Some.place c.replace-old.result c.grow-new.result.0 c.args.rest.now c.args.branch.now.term (skeleton_of c.args.branch.now.rest)
    (set_twice c.args.below.now c.replace-old.new.self c.set.new.self c.in-Some.place variants.End c.grow-new.result.0 c.replace-old.ensures.rest c.set.ensures) c.requires.sound c.grow-new.ensures.sound
    (within_below c.args.stamp c.args.marks.now c.args.below.now c.in-Some.place c.requires.sound c.in-Some.ensures.within) c.replace-old.ensures.out c.in-Some.ensures.value (c.grow-new.ensures.new q)

pub grow_branch-returns-in-None-clause-sound : goal.grow_branch-returns-in-None-clause-sound
grow_branch-returns-in-None-clause-sound t c =
    new_sound_so c.add.result c.args.stamp c.args.marks.now c.add.new.marks c.args.below.now c.add.new.below c.args.branch.now.term c.grow-new-in-None.result.0
    c.add.ensures.added c.add.ensures.below c.add.ensures.marks_kept c.add.ensures.below_kept c.requires.sound c.grow-new-in-None.ensures.sound

pub grow_branch-returns-in-None-clause-old : goal.grow_branch-returns-in-None-clause-old
grow_branch-returns-in-None-clause-old t c =
    λ v l.
    new_old_so c.add.result c.args.stamp v c.args.marks.now c.add.new.marks c.args.below.now c.add.new.below c.args.branch.now.term c.grow-new-in-None.result.0 c.args.rest.now
    c.add.ensures.added c.add.ensures.below c.add.ensures.marks_kept c.add.ensures.below_kept c.requires.sound l

pub grow_branch-returns-in-None-clause-new : goal.grow_branch-returns-in-None-clause-new
grow_branch-returns-in-None-clause-new t c =
    λ q.
    new_new_so c.add.result c.args.stamp c.args.marks.now c.add.new.marks c.args.below.now c.add.new.below c.grow-new-in-None.result.0 variants.End c.args.rest.now c.args.branch.now.term (skeleton_of c.args.branch.now.rest)
    c.add.ensures.added c.add.ensures.below c.requires.sound c.in-None.ensures.value refl c.requires.fits (c.grow-new-in-None.ensures.new c.if-not-done.false) q
