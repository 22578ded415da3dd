use Rattle.std.proofs.Common.{ℕ, ℤ, ◌≤◌, nat_abs, List, subst}
use Rattle.lin_term.specs.Form.{AreTerms, cap}
use Rattle.lin_term.proofs.Capping.{row_fits}
use Rattle.cube_rules.proofs.literal.row_within.Goals as goal

pub returns-clause-kept : goal.returns-clause-kept
returns-clause-kept c =
    row_fits c.args.row.now (
      subst (λ (ts : List (ℕ × ℤ)). AreTerms 0 ts) c.coefs.ensures.terms c.coefs.ensures.kept,
      subst (λ (z : ℤ). nat_abs z ≤ cap) c.constant_part.ensures.value c.constant_part.ensures.kept,
    )
