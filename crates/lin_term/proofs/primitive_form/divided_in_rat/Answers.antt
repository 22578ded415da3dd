use Rattle.std.proofs.Common.{ℕ, ◌≡◌, ◌≤◌, subst, sym, ap, ap₂, ◌∙◌, nat_abs, List}
use Rattle.lin_term.specs.Form.{AreTerms, cap}
use Rattle.lin_term.specs.Linear.{Rat}
use Rattle.lin_term.specs.Literal.{quotient_terms, divisor, gcd, gcd_terms, or_one}
use Rattle.lin_term.proofs.Terms.{word_of}
use Rattle.lin_term.proofs.Quotients.{quotient_are, rat_divides, rat_divisor_kept, or_one_max}
use Rattle.lin_term.proofs.PrimitiveLemmas.{or_one_pos}
use Rattle.lin_term.proofs.primitive_form.divided_in_rat.Goals as goal

-- the number that is divided by
by : (c : goal.After-max) → c.max.result ≡ divisor Rat c.args.row
by c =
    let k : nat_abs c.into_parts-coefs.result.1 ≤ cap = subst (λ z. nat_abs z ≤ cap) (sym c.into_parts-coefs.ensures.constant) c.into_parts-coefs.ensures.row.1 in
    let w = word_of c.into_parts-coefs.result.1 k in
    let a : c.unsigned_abs.result ≡ nat_abs c.args.row.constant = c.unsigned_abs.ensures.value ∙ ap nat_abs (w ∙ c.into_parts-coefs.ensures.constant) in
    let t : gcd_terms c.as_slice.result.now ≡ gcd_terms c.args.row.terms = ap gcd_terms (c.as_slice.ensures ∙ c.into_parts-coefs.ensures.terms) in
    c.max.ensures ∙ or_one_max c.common_divisor-g.result ∙ ap or_one (c.common_divisor-g.ensures ∙ ap₂ (λ (m n : ℕ). gcd m n) a t)

pub divided-requires-clause-exact : goal.divided-requires-clause-exact
divided-requires-clause-exact c =
    let row = c.args.row in
    subst (λ (g : ℕ). AreTerms 0 (quotient_terms c.into_parts-coefs.result.0.items g)) (sym (by c))
    (subst (λ (ts : List (ℕ × _)). AreTerms 0 (quotient_terms ts (divisor Rat row))) (sym c.into_parts-coefs.ensures.terms)
    (quotient_are 0 row.terms (divisor Rat row) (or_one_pos (gcd (nat_abs row.constant) (gcd_terms row.terms))) (rat_divides row) c.into_parts-coefs.ensures.row.0))

pub divided-requires-clause-greatest : goal.divided-requires-clause-greatest
divided-requires-clause-greatest c = subst (λ (g : ℕ). g ≤ cap) (sym (by c)) (rat_divisor_kept c.args.row c.into_parts-coefs.ensures.row)
