use Rattle.std.proofs.Common.{ℕ, ℤ, ◌≤◌, nat_abs, List, subst}
use Rattle.lin_term.specs.Form.{Form, AreTerms, IsRow, cap}
use Rattle.cube_rules.proofs.step.keep_row.Goals as goal

pub returns : goal.returns
returns c =
    subst (λ (f : Form). IsRow f) c.row-row.ensures (
      subst (λ (ts : List (ℕ × ℤ)). AreTerms 0 ts) c.coefs.ensures.terms c.coefs.ensures.kept,
      subst (λ (z : ℤ). nat_abs z ≤ cap) c.constant_part.ensures.value c.constant_part.ensures.kept,
    )
