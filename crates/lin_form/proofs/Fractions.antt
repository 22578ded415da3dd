-- A value in lowest terms is the fraction of lin_term, as a form without variables.
use Rattle.std.specs.Prelude.{ℕ, ◌/◌, ◌≡◌, ℤ, pos, nat_abs, true, false, None, Some, Ok, Err, List, [], ◌∷◌, ◌++◌}
use Rattle.std.proofs.Common.{ap, ◌∙◌, sym, subst, refl}
use Rattle.lin_term.specs.Linear.{Value, floor_div}
use Rattle.lin_term.specs.Literal.{gcd, or_one}
use Rattle.lin_term.specs.Fraction.{lowest_value, value_numbers}
use Rattle.lin_term.specs.Wide.{fits, first_past}
use Rattle.lin_form.specs.declared.fault.FormFault.TheVariants as faults
use Rattle.lin_form.specs.Kept.{within, lins_numbers}
use Rattle.lin_form.specs.Low.{as_lin, lowest}
use Rattle.lin_form.specs.Outcome.{Formed}
use Rattle.lin_form.proofs.Keeping.{past_none, past_some, swapped}

alone : (n : ℕ) → gcd n 0 ≡ n
unfolding gcd
alone n = refl

-- the two definitions agree
pub lowest_same : (v : Value) → lowest v ≡ lowest_value v
lowest_same v = ap (λ (n : ℕ). let w : Value = record { num = floor_div v.num (or_one (gcd v.den n)); den = v.den / or_one (gcd v.den n) } in w) (alone (nat_abs v.num))

-- within the cap in either order
pub fraction_made : (v w : Value) → w ≡ lowest_value v → first_past (value_numbers w) ≡ None → Formed (as_lin (lowest v) ∷ []) (as_lin (lowest v)) (Ok (as_lin w))
fraction_made v w e h =
    let is : w ≡ lowest v = e ∙ sym (lowest_same v) in
    (ap (λ (x : Value). within (lins_numbers (as_lin x ∷ []))) (sym is) ∙ swapped (pos w.den) w.num ∙ past_none (value_numbers w) h, ap as_lin is)

pub fraction_past : (v : Value) (z : ℤ) → first_past (value_numbers (lowest_value v)) ≡ Some z → Formed (as_lin (lowest v) ∷ []) (as_lin (lowest v)) (Err faults.Number)
fraction_past v z h =
    ap (λ (x : Value). within (lins_numbers (as_lin x ∷ []))) (lowest_same v) ∙ swapped (pos (lowest_value v).den) (lowest_value v).num ∙ past_some (value_numbers (lowest_value v)) z h
