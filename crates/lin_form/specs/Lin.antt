-- Linear forms over one positive denominator in lowest terms.
use Rattle.std.specs.Prelude.{ℕ, zero, suc, ◌*◌, ◌/◌, ℤ, pos, negsuc, neg_ℤ, nat_abs, List, [], ◌∷◌}
use Rattle.lin_term.specs.Linear.{Form, Value, plus, times, constant_form, variable_form}
use Rattle.lin_term.specs.Literal.{gcd, gcd_terms, or_one, quotient}

-- form / den
pub record Lin : Type 0 where
  pub form : Form
  pub den : ℕ

abbrev pub common : Lin → ℕ
common x = or_one (gcd x.den (gcd (nat_abs x.form.constant) (gcd_terms x.form.terms)))

abbrev pub reduced : Lin → Lin
reduced x = record { form = quotient x.form (common x); den = x.den / common x }

abbrev pub lin_constant : Value → Lin
lin_constant v = reduced (record { form = constant_form v.num; den = v.den })

abbrev pub lin_variable : ℕ → Lin
lin_variable i = record { form = variable_form (pos 1) i; den = 1 }

-- p times x and q times y over both denominators
abbrev pub combination : ℤ → Lin → ℤ → Lin → Lin
combination p x q y = reduced (record { form = plus (times p x.form) (times q y.form); den = x.den * y.den })

abbrev pub lin_plus : Lin → Lin → Lin
lin_plus x y = reduced (record { form = plus (times (pos y.den) x.form) (times (pos x.den) y.form); den = x.den * y.den })

-- n/d times
abbrev pub lin_scale : ℤ → ℕ → Lin → Lin
lin_scale n d x = reduced (record { form = times n x.form; den = d * x.den })

abbrev pub lin_neg : Lin → Lin
lin_neg x = lin_scale (negsuc 0) 1 x

abbrev pub lin_minus : Lin → Lin → Lin
lin_minus x y = reduced (record { form = plus (times (pos y.den) x.form) (times (neg_ℤ (pos x.den)) y.form); den = x.den * y.den })

abbrev pub scaled_by : List (ℕ × ℤ) → Lin → Lin → Lin
scaled_by [] x y = lin_scale x.form.constant x.den y
scaled_by (t ∷ ts) x y = lin_scale y.form.constant y.den x

-- one of the two has no variables
abbrev pub lin_times : Lin → Lin → Lin
lin_times x y = scaled_by x.form.terms x y

abbrev pub over_constant : ℤ → ℕ → Lin → Lin
over_constant (pos zero) e x = x
over_constant (pos (suc m)) e x = lin_scale (pos e) (suc m) x
over_constant (negsuc m) e x = lin_scale (neg_ℤ (pos e)) (suc m) x

abbrev pub lin_over : Lin → Value → Lin
lin_over x v = over_constant v.num v.den x
