-- The numbers of a form and of its negative are within the cap, where the row's and the denominator are.
use Rattle.std.specs.Prelude.{ℕ, zero, suc, ◌+◌, ◌*◌, ◌/◌, ◌≤◌, ◌≡◌, ℤ, pos, negsuc, ◌*ℤ◌, nat_abs, true, None, List, [], ◌∷◌}
use Rattle.std.proofs.Common.{arith, ◌∙◌, refl}
use Rattle.std.proofs.lemmas.Int.{ints}
use Rattle.lin_term.specs.Form.{AreTerms, cap}
use Rattle.lin_term.specs.Linear.{put_front, times, times_terms, floor_div}
use Rattle.lin_term.specs.Literal.{quotient_terms}
use Rattle.lin_term.specs.Wide.{first_past, coefficients}
use Rattle.lin_term.proofs.Capping.{coefficients_fit, fits_within, past-within}
use Rattle.lin_term.proofs.Quotients.{abs-floor_div}
use Rattle.lin_form.specs.Lin.{Lin, common, lin_neg}
use Rattle.lin_form.specs.Kept.{within, lins_numbers}
use Rattle.lin_form.proofs.Keeping.{form_kept}

pub itself_kept : (x : Lin) → AreTerms 0 x.form.terms → nat_abs x.form.constant ≤ cap → x.den ≤ cap → within (lins_numbers (x ∷ [])) ≡ true
itself_kept x a h d = form_kept x (fits_within (pos x.den) d) (coefficients_fit 0 x.form.terms a) (fits_within x.form.constant h)

kept_quotient : (z : ℤ) (g : ℕ) → nat_abs z ≤ cap → nat_abs (floor_div z g) ≤ cap
kept_quotient z g h = omega (arith, abs-floor_div z g, h)

kept_opposite : (z : ℤ) → nat_abs z ≤ cap → nat_abs (negsuc 0 *ℤ z) ≤ cap
kept_opposite z h = omega (arith, ints, h)

front_fits : (i g : ℕ) (c : ℤ) (ts : List (ℕ × ℤ)) → nat_abs c ≤ cap → first_past (coefficients (quotient_terms ts g)) ≡ None → first_past (coefficients (quotient_terms (put_front i c ts) g)) ≡ None
front_fits i g (pos zero) ts h e = e
front_fits i g (pos (suc k)) ts h e = past-within (floor_div (pos (suc k)) g) (coefficients (quotient_terms ts g)) (kept_quotient (pos (suc k)) g h) ∙ e
front_fits i g (negsuc k) ts h e = past-within (floor_div (negsuc k) g) (coefficients (quotient_terms ts g)) (kept_quotient (negsuc k) g h) ∙ e

opposites_fit : (n g : ℕ) (ts : List (ℕ × ℤ)) → AreTerms n ts → first_past (coefficients (quotient_terms (times_terms (negsuc 0) ts) g)) ≡ None
opposites_fit n g [] a = refl
opposites_fit n g (t ∷ ts) a = front_fits t.0 g (negsuc 0 *ℤ t.1) (times_terms (negsuc 0) ts) (kept_opposite t.1 a.3) (opposites_fit (t.0 + 1) g ts a.4)

pub negative_kept : (x : Lin) → AreTerms 0 x.form.terms → nat_abs x.form.constant ≤ cap → x.den ≤ cap → within (lins_numbers (lin_neg x ∷ [])) ≡ true
negative_kept x a h d =
    let g : ℕ = common (record { form = times (negsuc 0) x.form; den = 1 * x.den }) in
    form_kept (lin_neg x)
    (fits_within (pos ((1 * x.den) / g)) (kept_quotient (pos (1 * x.den)) g (omega (arith, d))))
    (opposites_fit 0 g x.form.terms a)
    (fits_within (floor_div (negsuc 0 *ℤ x.form.constant) g) (kept_quotient (negsuc 0 *ℤ x.form.constant) g (kept_opposite x.form.constant h)))
