use Rattle.std.specs.Prelude.{List}
use Rattle.std.proofs.Common.{ap, ◌∙◌, sym}
use Rattle.dom_core.specs.declared.Quant.{Quant}
use Rattle.game_tree.specs.declared.Tree.{Tree}
use Rattle.game_tree.specs.Skeleton.{nodes}
use Rattle.game_tree.specs.View.{skeleton_of}
use Rattle.grown_tree.specs.Shown.{shown}
use Rattle.grown_tree.specs.Versions.{Versions, newest}
use Rattle.grown_tree.proofs.Lent.{up_to_newest}
use Rattle.grown_tree.proofs.grown.Grown.nodes.Goals as goal

pub returns : goal.returns
returns t c =
    let n = c.self.inside.last in
    let r = c.self.inside.root in
    c.count_at.ensures ∙ ap (λ (qs : List Quant). nodes (skeleton_of (shown n r qs))) c.as_slice.ensures
    ∙ ap (λ (x : Tree). nodes (skeleton_of x)) (sym (up_to_newest r c.self.inside.prefix n) ∙ ap (λ (g : Versions). newest g.versions) c.self.view_is)
