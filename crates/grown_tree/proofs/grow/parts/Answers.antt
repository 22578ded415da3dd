use Rattle.std.specs.Prelude.{◌∷◌}
use Rattle.std.proofs.Common.{ap, ◌∙◌}
use Rattle.dom_core.specs.declared.Quant.TheVariants.{Exists}
use Rattle.grown_tree.specs.Shown.{shown}
use Rattle.grown_tree.proofs.Nodes.{shown_mine}
use Rattle.grown_tree.proofs.grow.parts.Goals as goal

pub returns-in-Mine-clause-shown : goal.returns-in-Mine-clause-shown
returns-in-Mine-clause-shown c = λ v qs. ap (λ n. shown v n (Exists ∷ qs)) c.in-Mine.is ∙ shown_mine v c.in-Mine.marks c.in-Mine.below qs
