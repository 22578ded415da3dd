use Rattle.std.specs.Prelude.{List}
use Rattle.std.proofs.Common.{arith, ap, ◌∙◌, sym, subst}
use Rattle.dom_core.specs.declared.Quant.{Quant}
use Rattle.game_tree.specs.Written.{WrittenSkeleton}
use Rattle.grown_tree.specs.Shown.{shown}
use Rattle.grown_tree.specs.Versions.{Versions, IsLent, newest}
use Rattle.grown_tree.proofs.Lent.{up_to_newest}
use Rattle.grown_tree.proofs.grown.Grown.newest.Goals as goal

pub of_version-requires : goal.of_version-requires
of_version-requires t c =
    let n = c.self.inside.last in
    subst (λ (qs : List Quant). IsLent t.D.Domain.SORT (record { prefix = qs; tree = shown n c.self.inside.root qs })) (sym c.as_slice.ensures)
    (c.self.invariant.lent n (omega arith))

pub returns-clause-tree : goal.returns-clause-tree
returns-clause-tree t c =
    let n = c.self.inside.last in
    let r = c.self.inside.root in
    ap (λ (S : WrittenSkeleton). S.tree) c.of_version.ensures ∙ ap (λ (qs : List Quant). shown n r qs) c.as_slice.ensures
    ∙ sym (up_to_newest r c.self.inside.prefix n) ∙ ap (λ (g : Versions). newest g.versions) c.self.view_is
