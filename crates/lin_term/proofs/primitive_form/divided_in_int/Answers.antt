use Rattle.std.proofs.Common.{ℕ, ◌≡◌, ◌≤◌, arith, subst, sym, ap, ◌∙◌, w64, SFits, to_z-of_z, length, Bool, false, zero, suc, refl, ◌==◌}
use Rattle.std.proofs.lemmas.Bool.{eqb-false}
use Rattle.lin_term.specs.Form.{AreTerms, cap}
use Rattle.lin_term.specs.Linear.{Form}
use Rattle.lin_term.specs.Literal.{quotient_terms, quotient, gcd_terms, or_one, whole_form}
use Rattle.lin_term.specs.Wide.{Capped, form_numbers}
use Rattle.lin_term.proofs.Divisors.{gcd_zero_left}
use Rattle.lin_term.proofs.Quotients.{quotient_are, divisor_divides, gcd_terms_kept, gcd_terms_least, or_one_same, whole_nonempty}
use Rattle.lin_term.proofs.primitive_form.divided_in_int.Goals as goal

some : (n : ℕ) (b : Bool) → b ≡ (n == 0) → b ≡ false → 1 ≤ n
some n b e f = let z = eqb-false n 0 (sym e ∙ f) in from n z
  where
    from : (n : ℕ) → (n ≡ 0 → ⊥) → 1 ≤ n
    from zero z = absurd (z refl)
    from (suc n) z = omega arith

-- the number that is divided by
by : (c : goal.After-common_divisor-g) → c.common_divisor-g.result ≡ gcd_terms c.args.coefs.items
by c = c.common_divisor-g.ensures ∙ gcd_zero_left (gcd_terms c.as_slice.result.now) ∙ ap gcd_terms c.as_slice.ensures

by' : (c : goal.After-divided) → c.common_divisor-g.result ≡ gcd_terms c.args.coefs.items
by' c = c.common_divisor-g.ensures ∙ gcd_zero_left (gcd_terms c.as_slice.result.now) ∙ ap gcd_terms c.as_slice.ensures

pub divided-requires-clause-exact : goal.divided-requires-clause-exact
divided-requires-clause-exact c =
    let ts = c.args.coefs.items in
    let l = gcd_terms_least 0 ts c.requires (some (length c.args.coefs.items) c.is_empty.result c.is_empty.ensures c.if-is_empty.false) in
    let e = or_one_same (gcd_terms ts) l in
    subst (λ (g : ℕ). AreTerms 0 (quotient_terms ts g)) (e ∙ sym (by c))
    (quotient_are 0 ts (or_one (gcd_terms ts)) (subst (λ (n : ℕ). 1 ≤ n) (sym e) l) (divisor_divides ts) c.requires)

pub divided-requires-clause-least : goal.divided-requires-clause-least
divided-requires-clause-least c = subst (λ (g : ℕ). 1 ≤ g) (sym (by c)) (gcd_terms_least 0 c.args.coefs.items c.requires (some (length c.args.coefs.items) c.is_empty.result c.is_empty.ensures c.if-is_empty.false))

pub divided-requires-clause-greatest : goal.divided-requires-clause-greatest
divided-requires-clause-greatest c = subst (λ (g : ℕ). g ≤ cap) (sym (by c)) (gcd_terms_kept 0 c.args.coefs.items c.requires)

pub returns : goal.returns
returns c =
    let f : Form = record { terms = c.args.coefs.items; constant = c.args.constant } in
    let fits : SFits w64 c.args.constant = c.ranges.constant in
    let s = some (length c.args.coefs.items) c.is_empty.result c.is_empty.ensures c.if-is_empty.false in
    let d : Capped (form_numbers (quotient f c.common_divisor-g.result)) (quotient f c.common_divisor-g.result) c.divided.result = simp to_z-of_z at c.divided.ensures in
    let e : quotient f c.common_divisor-g.result ≡ whole_form f = ap (λ (g : ℕ). quotient f g) (by' c ∙ sym (or_one_same (gcd_terms f.terms) (gcd_terms_least 0 f.terms c.requires s))) ∙ whole_nonempty f s in
    subst (λ (h : Form). Capped (form_numbers h) h c.divided.result) e d
