use Rattle.std.specs.Prelude.{ℕ, ℤ, List, [], ◌∷◌, ◌++◌, ◌≤◌, nat_abs}
use Rattle.std.proofs.Common.{arith, subst, sym, ap, ◌∙◌, w64, SFits, to_z-of_z}
use Rattle.lin_term.specs.Form.{AreTerms, cap}
use Rattle.lin_term.proofs.Defining.{are_last}
use Rattle.lin_term.proofs.definition.with_last.Goals as goal

pub from_parts-requires : goal.from_parts-requires
from_parts-requires c =
    let fk : SFits w64 c.args.constant = c.ranges.constant in
    let fc : SFits w64 c.args.coef = c.ranges.coef in
    let e = simp to_z-of_z at c.in-Ok.ensures.ok in
    let r = c.args.row in (
      subst (λ (ts : List (ℕ × ℤ)). AreTerms 0 ts) (sym (e ∙ ap (λ (ts : List (ℕ × ℤ)). ts ++ (c.args.var, c.args.coef) ∷ []) c.into_parts-coefs.ensures.terms))
          (are_last 0 c.args.var c.args.coef r.terms (omega arith) c.requires.few c.requires.nonzero c.requires.coef_kept c.into_parts-coefs.ensures.row.0 c.requires.below),
      subst (λ (z : ℤ). nat_abs z ≤ cap) (sym (to_z-of_z fk)) c.requires.constant_kept,
    )
