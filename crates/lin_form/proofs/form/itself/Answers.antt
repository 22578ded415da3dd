use Rattle.std.proofs.Common.{ℕ, ℤ, ◌≡◌, ◌≤◌, ◌∙◌, nat_abs, ap, ap₂, subst, arith, List, w64, SFits, to_z-of_z}
use Rattle.std.proofs.lemmas.Int.{ints}
use Rattle.lin_term.specs.Form.{Form, AreTerms, cap}
use Rattle.lin_form.specs.Lin.{Lin}
use Rattle.lin_form.proofs.Opposite.{itself_kept}
use Rattle.lin_form.proofs.form.itself.Goals as goal

pub returns : goal.returns
returns c =
    let fx : SFits w64 c.constant_part.result = omega (arith, ints, c.constant_part.ensures.kept) in
    let row : c.from_parts.result ≡ record { terms = c.in_ok-coefs.coefs.items; constant = c.constant_part.result } = simp to_z-of_z at c.from_parts.ensures in (
      itself_kept c.args.x.now
          (subst (λ (ts : List (ℕ × ℤ)). AreTerms 0 ts) (c.coefs.ensures.terms ∙ ap (λ (x : Lin). x.form.terms) c.x.view_is) c.coefs.ensures.kept)
          (subst (λ (z : ℤ). nat_abs z ≤ cap) (c.constant_part.ensures.value ∙ ap (λ (x : Lin). x.form.constant) c.x.view_is) c.constant_part.ensures.kept)
          (subst (λ (n : ℕ). n ≤ cap) c.den.ensures.value c.den.ensures.greatest),
      ap₂ (λ (f : Form) (d : ℕ). record { form = f; den = d })
          (row ∙ ap₂ (λ (ts : List (ℕ × ℤ)) (z : ℤ). record { terms = ts; constant = z }) (c.in_ok-coefs.ensures.ok ∙ c.coefs.ensures.terms ∙ ap (λ (x : Lin). x.form.terms) c.x.view_is) (c.constant_part.ensures.value ∙ ap (λ (x : Lin). x.form.constant) c.x.view_is))
          c.den.ensures.value,
    )
