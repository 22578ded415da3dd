use Rattle.std.specs.Prelude.{List}
use Rattle.std.proofs.Common.{ap, ◌∙◌, sym}
use Rattle.dom_core.specs.declared.Quant.{Quant}
use Rattle.game_tree.specs.View.{skeleton_of}
use Rattle.grown_tree.specs.Shown.{shown}
use Rattle.grown_tree.proofs.Growing.{from_nothing}
use Rattle.grown_tree.proofs.Lent.{fits_so, begun}
use Rattle.grown_tree.proofs.grown.Grown.begin.Goals as goal

pub grow-root-requires-clause-fits : goal.grow-root-requires-clause-fits
grow-root-requires-clause-fits t c =
    fits_so c.tree-tree.result.now c.args.first.now.tree t.D.Domain.SORT c.as_slice.result.now c.args.first.now.prefix c.tree-tree.ensures.value (c.as_slice.ensures ∙ c.in_ok-prefix.ensures ∙ c.prefix.ensures) c.tree-tree.ensures.kept.follows

pub invariant_of-result : goal.invariant_of-result
invariant_of-result t c =
    let S = c.args.first.now in
    let T = c.tree-tree.result.now in
    let qs = c.as_slice.result.now in
    let p = c.in_ok-prefix.ensures ∙ c.prefix.ensures in
    let f = fits_so T S.tree t.D.Domain.SORT qs S.prefix c.tree-tree.ensures.value (c.as_slice.ensures ∙ p) c.tree-tree.ensures.kept.follows in
    begun t.D.Domain.SORT c.in_ok-prefix.prefix c.grow-root.result.0 S c.nodes-bound.result c.grow-root.ensures.sound
    (ap (λ (ps : List Quant). skeleton_of (shown 0 c.grow-root.result.0 ps)) (sym c.as_slice.ensures) ∙ c.grow-root.ensures.new c.if-not-done.false ∙ from_nothing 0 qs (skeleton_of T) f ∙ ap skeleton_of c.tree-tree.ensures.value)
    p (record { follows = c.tree-tree.ensures.kept; few = c.requires }) c.nodes-bound.ensures

pub returns-clause-first : goal.returns-clause-first
returns-clause-first t c =
    let S = c.args.first.now in
    let T = c.tree-tree.result.now in
    let qs = c.as_slice.result.now in
    let f = fits_so T S.tree t.D.Domain.SORT qs S.prefix c.tree-tree.ensures.value (c.as_slice.ensures ∙ c.in_ok-prefix.ensures ∙ c.prefix.ensures) c.tree-tree.ensures.kept.follows in
    ap (λ (ps : List Quant). skeleton_of (shown 0 c.grow-root.result.0 ps)) (sym c.as_slice.ensures) ∙ c.grow-root.ensures.new c.if-not-done.false ∙ from_nothing 0 qs (skeleton_of T) f ∙ ap skeleton_of c.tree-tree.ensures.value
