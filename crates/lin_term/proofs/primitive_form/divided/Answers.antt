use Rattle.std.proofs.Common.{ℕ, ◌≡◌, subst, sym, ◌∙◌, ap, w64, SFits, to_z-of_z}
use Rattle.lin_term.specs.Linear.{Form}
use Rattle.lin_term.specs.Literal.{quotient}
use Rattle.lin_term.specs.Wide.{Capped, form_numbers}
use Rattle.lin_term.proofs.Terms.{word_wide}
use Rattle.lin_term.proofs.Lowest.{quotient_one}
use Rattle.lin_term.proofs.primitive_form.divided.Goals as goal

pub returns-then-g-eq1 : goal.returns-then-g-eq1
returns-then-g-eq1 c =
    let f : Form = record { terms = c.args.coefs.items; constant = c.args.constant } in
    let fits : SFits w64 c.args.constant = c.ranges.constant in
    let wide = word_wide c.args.constant fits in
    let r = simp (to_z-of_z, wide) at c.row_with.ensures in
    let e : quotient f c.args.g ≡ f = ap (λ (n : ℕ). quotient f n) c.if-g-eq1.true ∙ quotient_one f in
    subst (λ (h : Form). Capped (form_numbers h) h c.row_with.result) (sym e) r
