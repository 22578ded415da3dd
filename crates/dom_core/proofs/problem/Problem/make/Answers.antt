use Rattle.std.proofs.Common.{subst, sym, ◌∙◌}
use Rattle.std.specs.Prelude.{None, ◌≡◌}
use Rattle.lin_term.specs.declared.Sort.{Sort}
use Rattle.lin_term.specs.Wide.{first_past}
use Rattle.dom_core.specs.View.{matrix_of}
use Rattle.dom_core.specs.Negation.{negation_numbers}
use Rattle.dom_core.proofs.Negations.{within_kept}
use Rattle.dom_core.proofs.problem.Problem.make.Goals as goal

pub from_parts-requires : goal.from_parts-requires
from_parts-requires g c =
    (c.requires.few, c.requires.over, within_kept (matrix_of c.args.matrix) g.D.Domain.SORT c.requires.primitive (subst (λ (s : Sort). first_past (negation_numbers (matrix_of c.args.matrix) s) ≡ None) c.SORT.ensures (sym c.in_ok-number.ensures ∙ c.in-None.is)))
