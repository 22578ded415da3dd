use Rattle.std.specs.Prelude.{ℕ, ℤ, Ok, None, Some, [], ◌∷◌}
use Rattle.std.proofs.Common.{◌≡◌, ◌∙◌, ap, sym, subst, arith, nat_abs, SFits, to_z, to_z-of_z}
use Rattle.std.proofs.lemmas.Int.{to_z_pos}
use Rattle.lin_term.specs.Linear.{Value}
use Rattle.lin_term.specs.Fraction.{lowest_value, value_numbers}
use Rattle.lin_term.specs.Wide.{first_past}
use Rattle.lin_form.specs.Lin.{Lin}
use Rattle.lin_form.specs.Low.{as_lin, lowest}
use Rattle.lin_form.specs.Outcome.{Formed}
use Rattle.lin_form.proofs.Fractions.{fraction_made, fraction_past}
use Rattle.lin_form.proofs.form.lowest_value.Goals as goal

abbrev value_with : ℤ → ℕ → Value
value_with n d = record { num = n; den = d }

pub returns-in-Ok : goal.returns-in-Ok
returns-in-Ok c =
    let f : SFits mir.Syntax.w128 c.args.num = c.ranges.num in
    let v : Value = value_with c.args.num c.args.den in
    let tz : nat_abs (to_z mir.Syntax.w128 c.args.den) ≡ c.args.den = ap nat_abs (to_z_pos mir.Syntax.w128 c.args.den (omega (arith, c.requires.den_greatest))) in
    let h : (first_past (value_numbers (lowest_value (value_with c.args.num (nat_abs (to_z mir.Syntax.w128 c.args.den))))) ≡ None) × (c.in-Ok.value ≡ lowest_value (value_with c.args.num (nat_abs (to_z mir.Syntax.w128 c.args.den)))) = simp to_z-of_z at c.in-Ok.ensures in
    let k = subst (λ (d : ℕ). (first_past (value_numbers (lowest_value (value_with c.args.num d))) ≡ None) × (c.in-Ok.value ≡ lowest_value (value_with c.args.num d))) tz h in
    subst (λ (x : Lin). Formed (as_lin (lowest v) ∷ []) (as_lin (lowest v)) (Ok x)) (sym c.form_of.ensures)
    (fraction_made v c.in-Ok.value k.1 (ap (λ (w : Value). first_past (value_numbers w)) k.1 ∙ k.0))

pub returns-in-Err : goal.returns-in-Err
returns-in-Err c =
    let f : SFits mir.Syntax.w128 c.args.num = c.ranges.num in
    let tz : nat_abs (to_z mir.Syntax.w128 c.args.den) ≡ c.args.den = ap nat_abs (to_z_pos mir.Syntax.w128 c.args.den (omega (arith, c.requires.den_greatest))) in
    let h : first_past (value_numbers (lowest_value (value_with c.args.num (nat_abs (to_z mir.Syntax.w128 c.args.den))))) ≡ Some c.in-Err.field-0.number = simp to_z-of_z at c.in-Err.ensures in
    fraction_past (value_with c.args.num c.args.den) c.in-Err.field-0.number (subst (λ (d : ℕ). first_past (value_numbers (lowest_value (value_with c.args.num d))) ≡ Some c.in-Err.field-0.number) tz h)
