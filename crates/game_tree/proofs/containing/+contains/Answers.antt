use Rattle.std.specs.Prelude.{get_or}
use Rattle.std.proofs.Common.{arith, ap, ◌∙◌, sym, subst}
use Rattle.std.proofs.lemmas.List.{get_or_default}
use Rattle.game_tree.specs.Skeleton.{branch_nodes}
use Rattle.game_tree.specs.View.{skeleton_of, branches_of}
use Rattle.game_tree.specs.Union.{In}
use Rattle.game_tree.proofs.Followed.{refuted}
use Rattle.game_tree.proofs.Views.{branches_at, fewer_left}
use Rattle.game_tree.proofs.PathsIn.{not_in_end, not_in_theirs, not_in_mine, both_theirs, both_mine, placed, no_place, not_inside, one_inside, all_inside, distinct_at, full_at}
use Rattle.game_tree.proofs.containing.+contains.Goals as goal

pub has_paths-returns-in_default : goal.has_paths-returns-in_default
has_paths-returns-in_default t c = not_in_end c.args.whole.now c.args.part.now c.in-End.is c.in_default.not-End c.requires.full

pub has_paths-returns-in-Theirs-part : goal.has_paths-returns-in-Theirs-part
has_paths-returns-in-Theirs-part t c = both_theirs c.has_paths.result c.args.whole.now c.args.part.now _ _ c.get.result.now c.get-in-Theirs-part.result.now c.in-Theirs.is c.in-Theirs-part.is c.get.ensures c.get-in-Theirs-part.ensures c.has_paths.ensures

pub has_paths-returns-in_default-part : goal.has_paths-returns-in_default-part
has_paths-returns-in_default-part t c = not_in_theirs c.args.whole.now c.args.part.now _ c.in-Theirs.is c.in_default-part.not-Theirs c.requires.full

pub has_paths-returns-in-Mine-part : goal.has_paths-returns-in-Mine-part
has_paths-returns-in-Mine-part t c = both_mine c.have_paths.result c.args.whole.now c.args.part.now _ _ c.as_slice.result.now c.as_slice-in-Mine-part.result.now c.in-Mine.is c.in-Mine-part.is c.as_slice.ensures c.as_slice-in-Mine-part.ensures c.have_paths.ensures

pub has_paths-returns-in_default-part-2 : goal.has_paths-returns-in_default-part-2
has_paths-returns-in_default-part-2 t c = not_in_mine c.args.whole.now c.args.part.now _ c.in-Mine.is c.in_default-part-2.not-Mine c.requires.full

pub have_known_paths-returns-in-None : goal.have_known_paths-returns-in-None
have_known_paths-returns-in-None t c =
    no_place c.args.others.now c.args.branches.now c.loop-other.other-index c.other-item.result c.loop-other-test.true c.other-item.is c.requires.full (sym c.in-None.ensures.value)

pub have_known_paths-has_paths-requires : goal.have_known_paths-has_paths-requires
have_known_paths-has_paths-requires t c =
    let bs = c.args.branches.now in
    let cs = c.args.others.now in
    let j = c.in-Some.place in
    let b = get_or bs j c.index-branches-place.result in
    let h = placed c.other-item.result.term bs j b c.in-Some.ensures.value (get_or_default bs j c.index-branches-place.result b c.in-Some.ensures.within) in
    let e = ap branch_nodes (branches_at cs c.loop-other.other-index c.other-item.result c.loop-other-test.true c.other-item.is) in
    let l = fewer_left cs c.loop-other.other-index in (
      omega arith,
      (
        distinct_at c.other-item.result.term (skeleton_of b.rest) (branches_of bs) c.requires.distinct h,
        full_at cs c.loop-other.other-index c.other-item.result c.loop-other-test.true c.other-item.is c.requires.full,
      ),
    )

pub have_known_paths-returns-then-not-has_paths : goal.have_known_paths-returns-then-not-has_paths
have_known_paths-returns-then-not-has_paths t c =
    let bs = c.args.branches.now in
    let cs = c.args.others.now in
    let j = c.in-Some.place in
    let b = get_or bs j c.index-branches-place.result in
    let h = placed c.other-item.result.term bs j b c.in-Some.ensures.value (get_or_default bs j c.index-branches-place.result b c.in-Some.ensures.within) in
    not_inside cs bs c.loop-other.other-index c.other-item.result (skeleton_of b.rest) c.loop-other-test.true c.other-item.is c.requires.distinct h
    (refuted c.has_paths.result (In (skeleton_of c.other-item.result.rest) (skeleton_of b.rest)) c.has_paths.ensures c.if-not-has_paths.true)

pub have_known_paths-loop-other-preserved : goal.have_known_paths-loop-other-preserved
have_known_paths-loop-other-preserved t c =
    let bs = c.args.branches.now in
    let cs = c.args.others.now in
    let j = c.in-Some.place in
    let b = get_or bs j c.index-branches-place.result in
    let h = placed c.other-item.result.term bs j b c.in-Some.ensures.value (get_or_default bs j c.index-branches-place.result b c.in-Some.ensures.within) in
    one_inside cs (branches_of bs) c.loop-other.other-index c.other-item.result (skeleton_of b.rest) c.loop-other-test.true c.other-item.is h
    (c.has_paths.ensures.0 c.if-not-has_paths.false) c.loop-other.invariant

pub have_known_paths-returns : goal.have_known_paths-returns
have_known_paths-returns t c = all_inside c.args.others.now (branches_of c.args.branches.now) c.loop-other.other-index c.loop-other-test.false c.loop-other.invariant
