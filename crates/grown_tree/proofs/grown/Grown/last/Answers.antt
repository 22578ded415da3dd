use Rattle.std.specs.Prelude.{length}
use Rattle.std.proofs.Common.{ap, ◌∙◌, sym}
use Rattle.grown_tree.specs.Versions.{Versions}
use Rattle.grown_tree.proofs.Lent.{up_to_length}
use Rattle.grown_tree.proofs.grown.Grown.last.Goals as goal

pub returns : goal.returns
returns t c = ap (λ (g : Versions). length g.versions) (sym c.self.view_is) ∙ up_to_length c.self.inside.root c.self.inside.prefix c.self.inside.last
