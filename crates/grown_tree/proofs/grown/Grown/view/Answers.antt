use Rattle.std.specs.Prelude.{List, length, slice_get, Some, ◌+◌, ◌≡◌}
use Rattle.std.proofs.Common.{arith, ap, ◌∙◌, sym, subst}
use Rattle.dom_core.specs.declared.Quant.{Quant}
use Rattle.game_tree.specs.declared.Tree.{Tree}
use Rattle.game_tree.specs.Written.{WrittenSkeleton}
use Rattle.grown_tree.specs.Shown.{shown}
use Rattle.grown_tree.specs.Versions.{Versions, IsLent}
use Rattle.grown_tree.proofs.Lent.{up_to_length, up_to_get}
use Rattle.grown_tree.proofs.grown.Grown.view.Goals as goal

pub returns-then-version-self : goal.returns-then-version-self
returns-then-version-self t c =
    let e : length c.args.self.now.versions ≡ c.self.inside.last + 1 =
    ap (λ (g : Versions). length g.versions) (sym c.self.view_is) ∙ up_to_length c.self.inside.root c.self.inside.prefix c.self.inside.last in
    omega (arith, e, c.if-version-self.true)

pub of_version-requires : goal.of_version-requires
of_version-requires t c =
    subst (λ (qs : List Quant). IsLent t.D.Domain.SORT (record { prefix = qs; tree = shown c.args.version c.self.inside.root qs })) (sym c.as_slice.ensures)
    (c.self.invariant.lent c.args.version c.if-version-self.false)

pub returns : goal.returns
returns t c =
    let v = c.args.version in
    let r = c.self.inside.root in
    let e = c.of_version.ensures in
    let q = c.as_slice.ensures in (
      ap (λ (g : Versions). slice_get g.versions v) (sym c.self.view_is) ∙ up_to_get r c.self.inside.prefix c.self.inside.last v c.if-version-self.false
          ∙ ap (λ (x : Tree). Some x) (ap (λ (qs : List Quant). shown v r qs) (sym q) ∙ sym (ap (λ (S : WrittenSkeleton). S.tree) e)),
      ap (λ (S : WrittenSkeleton). S.prefix) e ∙ q ∙ ap (λ (g : Versions). g.prefix) c.self.view_is,
    )
