use Rattle.std.specs.Prelude.{◌≡◌, ◌==◌, ◌-◌, ◌↔◌, IsTrue, false, List, ◌∷◌, length, take, drop}
use Rattle.std.proofs.Common.{arith, ap, sym, subst}
use Rattle.std.proofs.lemmas.Grind.{common_steps}
use Rattle.dom_core.specs.declared.Quant.{Quant}
use Rattle.dom_core.specs.declared.Quant.TheVariants.{Exists, Forall}
use Rattle.game_tree.specs.View.{skeleton_of}
use Rattle.grown_tree.specs.Shown.{shown}
use Rattle.grown_tree.proofs.Nodes.{equal_test, nil_prefix}
use Rattle.grown_tree.proofs.Showing.{visible_past, visible_done}
use Rattle.grown_tree.proofs.Compare.{all_compared, one_compared, one_differs, empty_test, end_branches, mine_branches, same_theirs, same_mine, not_end, not_theirs, not_mine}
use Rattle.grown_tree.proofs.same.+same.Goals as goal

pub all_same-returns-then-i-below : goal.all_same-returns-then-i-below
all_same-returns-then-i-below t c =
    let inv = c.loop-i.invariant in
    all_compared c.args.version c.args.marks.now c.args.below.now c.args.rest.now c.args.branches.now c.loop-i.i c.loop-i.next (c.loop-i.next == length c.args.branches.now)
    (visible_past c.args.version c.args.marks.now c.args.below.now c.args.rest.now c.loop-i.i c.if-i-below.true) inv.0 (equal_test c.loop-i.next (length c.args.branches.now)) inv.1

pub all_same-returns : goal.all_same-returns
all_same-returns t c =
    let inv = c.loop-i.invariant in
    all_compared c.args.version c.args.marks.now c.args.below.now c.args.rest.now c.args.branches.now c.loop-i.i c.loop-i.next (c.loop-i.next == length c.args.branches.now)
    (visible_done c.args.version c.args.marks.now c.args.below.now c.args.rest.now c.loop-i.i c.loop-i-test.false) inv.0 (equal_test c.loop-i.next (length c.args.branches.now)) inv.1

pub all_same-returns-in-None : goal.all_same-returns-in-None
all_same-returns-in-None t c =
    one_differs c.args.version c.args.marks.now c.args.below.now c.args.rest.now c.args.branches.now c.loop-i.i c.loop-i.next c.index-marks-i.result c.index-below-i.result
    c.loop-i-test.true c.if-i-below.false c.index-marks-i.is c.index-below-i.is c.in-None.ensures.cases c.loop-i.invariant.1

pub all_same-loop-i-preserved : goal.all_same-loop-i-preserved
all_same-loop-i-preserved t c = (
  c.in-Some.ensures.within,
  one_compared c.args.version c.args.marks.now c.args.below.now c.args.rest.now c.args.branches.now c.loop-i.i c.loop-i.next c.in-Some.more c.index-marks-i.result c.index-below-i.result
      c.loop-i-test.true c.if-i-below.false c.index-marks-i.is c.index-below-i.is c.in-Some.ensures.cases c.loop-i.invariant.1,
)

pub are_same_at-returns-in-End : goal.are_same_at-returns-in-End
are_same_at-returns-in-End t c =
    end_branches c.args.version c.args.node.now c.args.branches.now c.args.rest.now c.is_empty.result c.in-End.is (empty_test c.args.branches.now c.is_empty.result c.is_empty.ensures)

pub are_same_at-returns-in-Mine : goal.are_same_at-returns-in-Mine
are_same_at-returns-in-Mine t c =
    mine_branches c.args.version c.args.node.now c.in-Mine.marks c.as_slice.result.now c.in-Mine.below c.as_slice-in-Mine.result.now c.args.branches.now c.args.rest.now c.all_same.result
    c.in-Mine.is c.as_slice.ensures c.as_slice-in-Mine.ensures c.all_same.ensures

pub is_same_at-is_same_at-requires : goal.is_same_at-is_same_at-requires
is_same_at-is_same_at-requires t c =
    let qs = c.args.prefix.now in
    let e : qs ≡ Forall ∷ take (length qs - 1) (drop 1 qs) = grind (arith, common_steps) in
    let n = ap (λ (ps : List Quant). length ps) e in
    (omega (arith, n), tt)

pub is_same_at-returns-in_default : goal.is_same_at-returns-in_default
is_same_at-returns-in_default t c =
    subst (λ (ps : List Quant). IsTrue false ↔ (skeleton_of (shown c.args.version c.args.node.now ps) ≡ skeleton_of c.args.tree.now)) (sym (nil_prefix c.args.prefix.now c.in-empty.len_below))
    (not_end c.args.version c.args.node.now c.args.tree.now c.in_default.not-End)

pub is_same_at-returns-in-Theirs : goal.is_same_at-returns-in-Theirs
is_same_at-returns-in-Theirs t c =
    let qs = c.args.prefix.now in
    let e : qs ≡ Forall ∷ take (length qs - 1) (drop 1 qs) = grind (arith, common_steps) in
    subst (λ (ps : List Quant). IsTrue c.is_same_at.result ↔ (skeleton_of (shown c.args.version c.args.node.now ps) ≡ skeleton_of c.args.tree.now)) (sym e)
    (same_theirs c.args.version c.args.node.now c.args.tree.now c.in-Theirs.below c.get.result.now (take (length qs - 1) (drop 1 qs)) c.is_same_at.result c.in-Theirs.is c.get.ensures c.is_same_at.ensures)

pub is_same_at-returns-in_default-tree : goal.is_same_at-returns-in_default-tree
is_same_at-returns-in_default-tree t c =
    let qs = c.args.prefix.now in
    let e : qs ≡ Forall ∷ take (length qs - 1) (drop 1 qs) = grind (arith, common_steps) in
    subst (λ (ps : List Quant). IsTrue false ↔ (skeleton_of (shown c.args.version c.args.node.now ps) ≡ skeleton_of c.args.tree.now)) (sym e)
    (not_theirs c.args.version c.args.node.now c.args.tree.now (take (length qs - 1) (drop 1 qs)) c.in_default-tree.not-Theirs)

pub is_same_at-returns-in-Mine : goal.is_same_at-returns-in-Mine
is_same_at-returns-in-Mine t c =
    let qs = c.args.prefix.now in
    let e : qs ≡ Exists ∷ take (length qs - 1) (drop 1 qs) = grind (arith, common_steps) in
    subst (λ (ps : List Quant). IsTrue c.are_same_at.result ↔ (skeleton_of (shown c.args.version c.args.node.now ps) ≡ skeleton_of c.args.tree.now)) (sym e)
    (same_mine c.args.version c.args.node.now c.args.tree.now c.in-Mine.branches c.as_slice.result.now (take (length qs - 1) (drop 1 qs)) c.are_same_at.result c.in-Mine.is c.as_slice.ensures c.are_same_at.ensures)

pub is_same_at-returns-in_default-tree-2 : goal.is_same_at-returns-in_default-tree-2
is_same_at-returns-in_default-tree-2 t c =
    let qs = c.args.prefix.now in
    let e : qs ≡ Exists ∷ take (length qs - 1) (drop 1 qs) = grind (arith, common_steps) in
    subst (λ (ps : List Quant). IsTrue false ↔ (skeleton_of (shown c.args.version c.args.node.now ps) ≡ skeleton_of c.args.tree.now)) (sym e)
    (not_mine c.args.version c.args.node.now c.args.tree.now (take (length qs - 1) (drop 1 qs)) c.in_default-tree-2.not-Mine)
