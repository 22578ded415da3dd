use Rattle.std.specs.Prelude.{List, IsTrue, ◌↔◌}
use Rattle.std.proofs.Common.{arith, ap, ◌∙◌, sym, subst}
use Rattle.dom_core.specs.declared.Quant.{Quant}
use Rattle.game_tree.specs.declared.Tree.{Tree}
use Rattle.game_tree.specs.Full.{IsDistinctTree, IsFullTree}
use Rattle.game_tree.specs.Union.{In}
use Rattle.game_tree.specs.View.{skeleton_of}
use Rattle.game_tree.proofs.PathsIn.{follows_distinct, follows_full}
use Rattle.grown_tree.specs.Shown.{shown}
use Rattle.grown_tree.specs.Versions.{Versions, newest}
use Rattle.grown_tree.proofs.Lent.{up_to_newest}
use Rattle.grown_tree.proofs.grown.Grown.contains.Goals as goal

pub has_all-requires-clause-sound : goal.has_all-requires-clause-sound
has_all-requires-clause-sound t c = c.self.invariant.sound

pub has_all-requires-clause-distinct : goal.has_all-requires-clause-distinct
has_all-requires-clause-distinct t c =
    let n = c.self.inside.last in
    let r = c.self.inside.root in
    let qs = c.self.inside.prefix in
    subst (λ (ps : List Quant). IsDistinctTree (skeleton_of (shown n r ps))) (sym c.as_slice.ensures)
    (follows_distinct (skeleton_of (shown n r qs)) t.D.Domain.SORT qs 0 (c.self.invariant.lent n (omega arith)).follows.follows)

pub has_all-requires-clause-full : goal.has_all-requires-clause-full
has_all-requires-clause-full t c =
    subst (λ (x : Tree). IsFullTree (skeleton_of x)) (sym c.tree.ensures.value)
    (follows_full (skeleton_of c.args.paths.now.tree) t.D.Domain.SORT c.args.paths.now.prefix 0 c.tree.ensures.kept.follows)

pub returns : goal.returns
returns t c =
    let n = c.self.inside.last in
    let r = c.self.inside.root in
    let qs = c.self.inside.prefix in
    subst (λ (x : Tree). IsTrue c.has_all.result ↔ In (skeleton_of x) (skeleton_of (newest c.args.self.now.versions))) c.tree.ensures.value
    (subst (λ (x : Tree). IsTrue c.has_all.result ↔ In (skeleton_of c.tree.result.now) (skeleton_of x))
    (ap (λ (ps : List Quant). shown n r ps) c.as_slice.ensures ∙ sym (up_to_newest r qs n) ∙ ap (λ (g : Versions). newest g.versions) c.self.view_is) c.has_all.ensures)
