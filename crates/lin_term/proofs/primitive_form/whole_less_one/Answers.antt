use Rattle.std.specs.Prelude.{◌-ℤ◌}
use Rattle.std.proofs.Common.{ℤ, ◌≡◌, ◌≤◌, pos, nat_abs, sym, subst, ap, ◌∙◌, to_z, of_z, w64}
use Rattle.lin_term.specs.Form.{Form, cap}
use Rattle.lin_term.specs.Literal.{whole_form}
use Rattle.lin_term.specs.Wide.{Capped, form_numbers}
use Rattle.lin_term.proofs.Terms.{word_of}
use Rattle.lin_term.proofs.KeptMoves.{of_word}
use Rattle.lin_term.proofs.Negating.{less_one}
use Rattle.lin_term.proofs.primitive_form.whole_less_one.Goals as goal

pub one_less-requires : goal.one_less-requires
one_less-requires c =
    let p = c.into_parts-coefs in
    let k = subst (λ (z : ℤ). nat_abs z ≤ cap) (sym p.ensures.constant) p.ensures.row.1 in
    subst (λ (z : ℤ). nat_abs z ≤ cap) (sym (word_of p.result.1 k)) k

pub returns : goal.returns
returns c =
    let p = c.into_parts-coefs in
    let w = word_of p.result.1 (subst (λ (z : ℤ). nat_abs z ≤ cap) (sym p.ensures.constant) p.ensures.row.1) ∙ p.ensures.constant in
    let k : to_z w64 (of_z w64 c.one_less.result) ≡ c.args.row.constant -ℤ pos 1 = of_word c.one_less.result c.one_less.ensures.size ∙ c.one_less.ensures.value ∙ ap (λ (z : ℤ). z -ℤ pos 1) w in
    subst (λ (f : Form). Capped {A = Form} (form_numbers (whole_form f)) (whole_form f) c.divided_in_int.result)
    (less_one c.args.row p.result.0.items (to_z w64 (of_z w64 c.one_less.result)) p.ensures.row p.ensures.terms k) c.divided_in_int.ensures
