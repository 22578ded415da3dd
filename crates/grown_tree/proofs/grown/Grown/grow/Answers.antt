use Rattle.std.specs.Prelude.{◌≡◌, ◌+◌, ◌<◌, List, IsTrue, length}
use Rattle.std.proofs.Common.{arith, ap, ◌∙◌, sym, subst}
use Rattle.dom_core.specs.declared.Quant.{Quant}
use Rattle.game_tree.specs.declared.Tree.{Tree}
use Rattle.game_tree.specs.Skeleton.{Skeleton, nodes, node_limit}
use Rattle.game_tree.specs.Union.{union}
use Rattle.game_tree.specs.View.{skeleton_of}
use Rattle.grown_tree.specs.declared.node.Node.{Node}
use Rattle.grown_tree.specs.Shown.{shown, is_sound}
use Rattle.grown_tree.specs.Versions.{Versions, newest}
use Rattle.grown_tree.proofs.Later.{sound_more}
use Rattle.grown_tree.proofs.Lent.{fits_so, later_so, next_so, next_union, next_nodes, stamp_nodes, up_to_length, up_to_newest, cut_grown, cut_versions, grown_at, list_at}
use Rattle.grown_tree.proofs.grown.Grown.grow.Goals as goal

pub grow-root-requires-clause-sound : goal.grow-root-requires-clause-sound
grow-root-requires-clause-sound t c =
    let n = c.self.inside.last in
    subst (λ (x : Node). IsTrue (is_sound (n + 1) x)) (sym c.replace-old.ensures.value) (sound_more c.self.inside.root n (n + 1) (omega arith) c.self.invariant.sound)

pub grow-root-requires-clause-fits : goal.grow-root-requires-clause-fits
grow-root-requires-clause-fits t c =
    let p = ap (λ (g : Versions). g.prefix) c.self.view_is ∙ c.requires in
    fits_so c.tree.result.now c.args.paths.now.tree t.D.Domain.SORT c.as_slice.result.now c.args.paths.now.prefix c.tree.ensures.value (c.as_slice.ensures ∙ p) c.tree.ensures.kept.follows

pub invariant_of-self : goal.invariant_of-self
invariant_of-self t c =
    let n = c.self.inside.last in
    let r = c.self.inside.root in
    let qs = c.self.inside.prefix in
    let new = c.grow-root.result.0 in
    let l = later_so qs c.as_slice.result.now r c.replace-old.result new n c.as_slice.ensures c.replace-old.ensures.value c.grow-root.ensures.sound c.grow-root.ensures.old in
    cut_grown t.D.Domain.SORT qs r new c.cut.result n c.self.inside.bound c.self.invariant l c.cut.ensures.sound c.cut.ensures.same

pub returns-then-not-done-clause-kept : goal.returns-then-not-done-clause-kept
returns-then-not-done-clause-kept t c =
    let n = c.self.inside.last in
    let r = c.self.inside.root in
    let qs = c.self.inside.prefix in
    let new = c.grow-root.result.0 in
    let l = later_so qs c.as_slice.result.now r c.replace-old.result new n c.as_slice.ensures c.replace-old.ensures.value c.grow-root.ensures.sound c.grow-root.ensures.old in
    cut_versions qs r new c.cut.result n l c.cut.ensures.same ∙ c.self.view_is

pub overflow_add-most : goal.overflow_add-most
overflow_add-most t c =
    omega (arith, c.self.invariant.within, c.nodes.ensures, c.tree.ensures.kept.countable)

pub bound_at-nodes-requires-clause-most : goal.bound_at-nodes-requires-clause-most
bound_at-nodes-requires-clause-most t c =
    let n = c.self.inside.last in
    let r = c.self.inside.root in
    let qs = c.self.inside.prefix in
    let new = c.grow-root.result.0 in
    let l = later_so qs c.as_slice.result.now r c.replace-old.result new n c.as_slice.ensures c.replace-old.ensures.value c.grow-root.ensures.sound c.grow-root.ensures.old in
    let u = next_so qs c.as_slice.result.now r c.replace-old.result new n c.tree.result.now c.args.paths.now.tree c.as_slice.ensures c.replace-old.ensures.value c.tree.ensures.value (c.grow-root.ensures.new c.if-not-done.false) in
    let k = next_nodes n r new qs (skeleton_of c.args.paths.now.tree) c.self.invariant.sound u in
    let e = stamp_nodes n new qs c.as_slice-2.result.now c.as_slice-2.ensures in
    omega (arith, k, e, c.self.invariant.counted, c.nodes.ensures)

pub bound_at-nodes-requires-clause-fits : goal.bound_at-nodes-requires-clause-fits
bound_at-nodes-requires-clause-fits t c =
    omega (arith, c.self.invariant.within, c.nodes.ensures, c.tree.ensures.kept.countable)

pub invariant_of-self-then-nodes-gt-NODES : goal.invariant_of-self-then-nodes-gt-NODES
invariant_of-self-then-nodes-gt-NODES t c =
    let n = c.self.inside.last in
    let r = c.self.inside.root in
    let qs = c.self.inside.prefix in
    let new = c.grow-root.result.0 in
    let l = later_so qs c.as_slice.result.now r c.replace-old.result new n c.as_slice.ensures c.replace-old.ensures.value c.grow-root.ensures.sound c.grow-root.ensures.old in
    cut_grown t.D.Domain.SORT qs r new c.cut-then-nodes-gt-NODES.result n c.self.inside.bound c.self.invariant l c.cut-then-nodes-gt-NODES.ensures.sound c.cut-then-nodes-gt-NODES.ensures.same

pub returns-then-nodes-gt-NODES-clause-kept : goal.returns-then-nodes-gt-NODES-clause-kept
returns-then-nodes-gt-NODES-clause-kept t c =
    let n = c.self.inside.last in
    let r = c.self.inside.root in
    let qs = c.self.inside.prefix in
    let new = c.grow-root.result.0 in
    let l = later_so qs c.as_slice.result.now r c.replace-old.result new n c.as_slice.ensures c.replace-old.ensures.value c.grow-root.ensures.sound c.grow-root.ensures.old in
    cut_versions qs r new c.cut-then-nodes-gt-NODES.result n l c.cut-then-nodes-gt-NODES.ensures.same ∙ c.self.view_is

pub returns-then-nodes-gt-NODES-clause-large : goal.returns-then-nodes-gt-NODES-clause-large
returns-then-nodes-gt-NODES-clause-large t c =
    let n = c.self.inside.last in
    let r = c.self.inside.root in
    let qs = c.self.inside.prefix in
    let new = c.grow-root.result.0 in
    let l = later_so qs c.as_slice.result.now r c.replace-old.result new n c.as_slice.ensures c.replace-old.ensures.value c.grow-root.ensures.sound c.grow-root.ensures.old in
    let u = next_so qs c.as_slice.result.now r c.replace-old.result new n c.tree.result.now c.args.paths.now.tree c.as_slice.ensures c.replace-old.ensures.value c.tree.ensures.value (c.grow-root.ensures.new c.if-not-done.false) in
    let k = c.bound_at-nodes.result in
    let T = skeleton_of c.args.paths.now.tree in
    let over : node_limit < k = c.if-nodes-gt-NODES.true in
    let w =
    c.bound_at-nodes.ensures.exact over ∙ stamp_nodes n new qs c.as_slice-2.result.now c.as_slice-2.ensures
    ∙ ap (λ (S : Skeleton). nodes S) (next_union n r new qs T c.self.invariant.sound u ∙ ap (λ (g : Versions). union (skeleton_of (newest g.versions)) T) c.self.view_is) in
    λ m q.
    let e : k ≡ m = cc in
    (sym e ∙ w, omega (arith, e, over))

pub invariant_of-self-2 : goal.invariant_of-self-2
invariant_of-self-2 t c =
    let n = c.self.inside.last in
    let r = c.self.inside.root in
    let qs = c.self.inside.prefix in
    let new = c.grow-root.result.0 in
    let l = later_so qs c.as_slice.result.now r c.replace-old.result new n c.as_slice.ensures c.replace-old.ensures.value c.grow-root.ensures.sound c.grow-root.ensures.old in
    let u = next_so qs c.as_slice.result.now r c.replace-old.result new n c.tree.result.now c.args.paths.now.tree c.as_slice.ensures c.replace-old.ensures.value c.tree.ensures.value (c.grow-root.ensures.new c.if-not-done.false) in
    let e = stamp_nodes n new qs c.as_slice-2.result.now c.as_slice-2.ensures in
    let p = ap (λ (g : Versions). g.prefix) c.self.view_is ∙ c.requires in
    grown_at t.D.Domain.SORT qs r new n c.self.inside.bound c.bound_at-nodes.result c.args.paths.now c.self.invariant l u p c.tree.ensures.kept (omega (arith, e, c.bound_at-nodes.ensures.bound)) c.if-nodes-gt-NODES.false

pub returns-clause-number : goal.returns-clause-number
returns-clause-number t c =
    sym (ap (λ (g : Versions). length g.versions) (sym c.self.view_is) ∙ up_to_length c.self.inside.root c.self.inside.prefix c.self.inside.last)

pub returns-clause-grown : goal.returns-clause-grown
returns-clause-grown t c =
    let n = c.self.inside.last in
    let r = c.self.inside.root in
    let qs = c.self.inside.prefix in
    let new = c.grow-root.result.0 in
    let l = later_so qs c.as_slice.result.now r c.replace-old.result new n c.as_slice.ensures c.replace-old.ensures.value c.grow-root.ensures.sound c.grow-root.ensures.old in
    let u = next_so qs c.as_slice.result.now r c.replace-old.result new n c.tree.result.now c.args.paths.now.tree c.as_slice.ensures c.replace-old.ensures.value c.tree.ensures.value (c.grow-root.ensures.new c.if-not-done.false) in
    list_at c.args.self.now.versions qs r new n (skeleton_of c.args.paths.now.tree) (ap (λ (g : Versions). g.versions) c.self.view_is) c.self.invariant.sound l u

pub returns-clause-few : goal.returns-clause-few
returns-clause-few t c =
    let n = c.self.inside.last in
    let new = c.grow-root.result.0 in
    let e = ap (λ (ps : List Quant). nodes (skeleton_of (shown (n + 1) new ps))) c.as_slice-2.ensures ∙ ap (λ (x : Tree). nodes (skeleton_of x)) (sym (up_to_newest new c.self.inside.prefix (n + 1))) in
    omega (arith, e, c.bound_at-nodes.ensures.bound, c.if-nodes-gt-NODES.false)
