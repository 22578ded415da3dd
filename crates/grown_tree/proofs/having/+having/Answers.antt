use Rattle.std.specs.Prelude.{◌≡◌, ◌-◌, List, ◌∷◌, length, take, drop}
use Rattle.std.proofs.Common.{arith, ap, ◌∙◌, refl}
use Rattle.std.proofs.lemmas.Grind.{common_steps}
use Rattle.dom_core.specs.declared.Quant.{Quant}
use Rattle.dom_core.specs.declared.Quant.TheVariants.{Exists, Forall}
use Rattle.game_tree.specs.View.{skeleton_of, branches_of}
use Rattle.game_tree.specs.Union.{In}
use Rattle.game_tree.proofs.Followed.{refuted}
use Rattle.game_tree.proofs.PathsIn.{not_in_end, not_in_theirs, not_in_mine, both_theirs, no_place, not_inside, one_inside, all_inside, distinct_at, full_at}
use Rattle.grown_tree.specs.Shown.{shown, visible, all_shown}
use Rattle.grown_tree.proofs.Nodes.{shown_nil, shown_forall, nil_prefix}
use Rattle.grown_tree.proofs.Growing.{sound_below}
use Rattle.grown_tree.proofs.Haves.{marked_branch, marked_none, nothing_there, shown_moves, distinct_below, full_below, sound_marked, distinct_marked, own_part, marked_all}
use Rattle.grown_tree.proofs.having.+having.Goals as goal

pub has_all-returns-in_default : goal.has_all-returns-in_default
has_all-returns-in_default t c =
    let v = c.args.version in
    let n = c.args.node.now in
    let qs = c.args.prefix.now in
    not_in_end (shown v n qs) c.args.part.now (ap (λ (ps : List Quant). shown v n ps) (nil_prefix qs c.in-empty.len_below) ∙ shown_nil v n) c.in_default.not-End c.requires.full

pub has_all-has_all-requires : goal.has_all-has_all-requires
has_all-has_all-requires t c =
    let v = c.args.version in
    let n = c.args.node.now in
    let qs = c.args.prefix.now in
    let e : qs ≡ Forall ∷ take (length qs - 1) (drop 1 qs) = grind (arith, common_steps) in
    let k = ap (λ (ps : List Quant). length ps) e in (
      omega (arith, k),
      (c.requires.sound, (distinct_below v n qs (take (length qs - 1) (drop 1 qs)) e c.requires.distinct, full_below c.args.part.now c.in-Theirs.below c.get.result.now c.in-Theirs.is c.get.ensures c.requires.full)),
    )

pub has_all-returns-in-Theirs : goal.has_all-returns-in-Theirs
has_all-returns-in-Theirs t c =
    let v = c.args.version in
    let n = c.args.node.now in
    let qs = c.args.prefix.now in
    let e : qs ≡ Forall ∷ take (length qs - 1) (drop 1 qs) = grind (arith, common_steps) in
    let r = shown v n (take (length qs - 1) (drop 1 qs)) in
    both_theirs c.has_all.result (shown v n qs) c.args.part.now r c.in-Theirs.below r c.get.result.now (ap (λ (ps : List Quant). shown v n ps) e ∙ shown_forall v n (take (length qs - 1) (drop 1 qs))) c.in-Theirs.is refl c.get.ensures c.has_all.ensures

pub has_all-returns-in_default-part : goal.has_all-returns-in_default-part
has_all-returns-in_default-part t c =
    let v = c.args.version in
    let n = c.args.node.now in
    let qs = c.args.prefix.now in
    let e : qs ≡ Forall ∷ take (length qs - 1) (drop 1 qs) = grind (arith, common_steps) in
    not_in_theirs (shown v n qs) c.args.part.now (shown v n (take (length qs - 1) (drop 1 qs))) (ap (λ (ps : List Quant). shown v n ps) e ∙ shown_forall v n (take (length qs - 1) (drop 1 qs))) c.in_default-part.not-Theirs c.requires.full

pub has_all-returns-in-Mine : goal.has_all-returns-in-Mine
has_all-returns-in-Mine t c =
    let qs = c.args.prefix.now in
    let e : qs ≡ Exists ∷ take (length qs - 1) (drop 1 qs) = grind (arith, common_steps) in
    own_part c.args.version c.args.node.now qs (take (length qs - 1) (drop 1 qs)) c.args.part.now c.in-Mine.branches c.as_slice.result.now c.have_all.result e c.in-Mine.is c.as_slice.ensures c.have_all.ensures

pub has_all-returns-in_default-part-2 : goal.has_all-returns-in_default-part-2
has_all-returns-in_default-part-2 t c =
    let v = c.args.version in
    let n = c.args.node.now in
    let qs = c.args.prefix.now in
    let e : qs ≡ Exists ∷ take (length qs - 1) (drop 1 qs) = grind (arith, common_steps) in
    let g = shown_moves v n (take (length qs - 1) (drop 1 qs)) in
    not_in_mine (shown v n qs) c.args.part.now g.0 (ap (λ (ps : List Quant). shown v n ps) e ∙ g.1) c.in_default-part-2.not-Mine c.requires.full

pub have_all-returns-in-End : goal.have_all-returns-in-End
have_all-returns-in-End t c = nothing_there c.args.version c.args.branches.now c.args.node.now c.args.rest.now c.in-End.is c.requires.full

pub have_all-have_marked-requires : goal.have_all-have_marked-requires
have_all-have_marked-requires t c = (
  omega arith,
  (
    sound_marked c.args.version c.args.node.now c.in-Mine.marks c.in-Mine.below c.as_slice.result.now c.in-Mine.is c.as_slice.ensures c.requires.sound,
    (distinct_marked c.args.version c.args.node.now c.in-Mine.marks c.in-Mine.below c.as_slice.result.now c.args.rest.now c.in-Mine.is c.as_slice.ensures c.requires.distinct, c.requires.full.1),
  ),
)

pub have_all-returns-in-Mine : goal.have_all-returns-in-Mine
have_all-returns-in-Mine t c =
    marked_all c.args.version c.args.node.now c.in-Mine.marks c.in-Mine.below c.as_slice.result.now c.args.branches.now c.args.rest.now c.have_marked.result c.in-Mine.is c.as_slice.ensures c.have_marked.ensures

pub have_marked-returns-in-None : goal.have_marked-returns-in-None
have_marked-returns-in-None t c =
    let v = c.args.version in
    let ms = c.args.marks.now in
    let ns = c.args.below.now in
    let qs = c.args.rest.now in
    let b = c.branch-item.result in
    no_place c.args.branches.now (visible v ms (all_shown v ns qs)) c.loop-branch.branch-index b c.loop-branch-test.true c.branch-item.is c.requires.full (marked_none v ms ns qs b.term c.requires.sound c.in-None.ensures.value)

pub have_marked-has_all-requires : goal.have_marked-has_all-requires
have_marked-has_all-requires t c =
    let v = c.args.version in
    let ms = c.args.marks.now in
    let ns = c.args.below.now in
    let qs = c.args.rest.now in
    let b = c.branch-item.result in
    let n = c.index-below-place.result in
    let h = marked_branch v ms ns qs c.in-Some.place b.term n c.requires.sound c.in-Some.ensures.within c.in-Some.ensures.value c.index-below-place.is in (
      omega arith,
      (
        sound_below v ms ns c.in-Some.place n c.requires.sound c.in-Some.ensures.within c.index-below-place.is,
        (
          distinct_at b.term (skeleton_of (shown v n qs)) (branches_of (visible v ms (all_shown v ns qs))) c.requires.distinct h,
          full_at c.args.branches.now c.loop-branch.branch-index b c.loop-branch-test.true c.branch-item.is c.requires.full,
        ),
      ),
    )

pub have_marked-returns-then-not-has_all : goal.have_marked-returns-then-not-has_all
have_marked-returns-then-not-has_all t c =
    let v = c.args.version in
    let ms = c.args.marks.now in
    let ns = c.args.below.now in
    let qs = c.args.rest.now in
    let b = c.branch-item.result in
    let n = c.index-below-place.result in
    let S = skeleton_of (shown v n qs) in
    let h = marked_branch v ms ns qs c.in-Some.place b.term n c.requires.sound c.in-Some.ensures.within c.in-Some.ensures.value c.index-below-place.is in
    not_inside c.args.branches.now (visible v ms (all_shown v ns qs)) c.loop-branch.branch-index b S c.loop-branch-test.true c.branch-item.is c.requires.distinct h
    (refuted c.has_all.result (In (skeleton_of b.rest) S) c.has_all.ensures c.if-not-has_all.true)

pub have_marked-loop-branch-preserved : goal.have_marked-loop-branch-preserved
have_marked-loop-branch-preserved t c =
    let v = c.args.version in
    let ms = c.args.marks.now in
    let ns = c.args.below.now in
    let qs = c.args.rest.now in
    let b = c.branch-item.result in
    let n = c.index-below-place.result in
    let h = marked_branch v ms ns qs c.in-Some.place b.term n c.requires.sound c.in-Some.ensures.within c.in-Some.ensures.value c.index-below-place.is in
    one_inside c.args.branches.now (branches_of (visible v ms (all_shown v ns qs))) c.loop-branch.branch-index b (skeleton_of (shown v n qs)) c.loop-branch-test.true c.branch-item.is h
    (c.has_all.ensures.0 c.if-not-has_all.false) c.loop-branch.invariant

pub have_marked-returns : goal.have_marked-returns
have_marked-returns t c =
    all_inside c.args.branches.now (branches_of (visible c.args.version c.args.marks.now (all_shown c.args.version c.args.below.now c.args.rest.now))) c.loop-branch.branch-index c.loop-branch-test.false c.loop-branch.invariant
