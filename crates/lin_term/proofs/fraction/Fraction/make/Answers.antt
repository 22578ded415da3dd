use Rattle.std.specs.Prelude.{ℕ, ℤ, ◌≡◌, ◌≤ℤ◌, pos, nat_abs}
use Rattle.std.proofs.Common.{ap, ap₂, ◌∙◌, sym, subst, SFits, to_z-of_z}
use mir.Syntax.{w128}
use Rattle.lin_term.specs.Linear.{Value, floor_div}
use Rattle.lin_term.specs.Literal.{gcd}
use Rattle.lin_term.specs.Fraction.{value_numbers}
use Rattle.lin_term.specs.Wide.{CappedWide}
use Rattle.lin_term.proofs.Fractions.{value_with, made_value, made_alone, made_least}
use Rattle.lin_term.proofs.Terms.{two_words}
use Rattle.lin_term.proofs.fraction.Fraction.make.Goals as goal

pub kept_fraction-requires-clause-least : goal.kept_fraction-requires-clause-least
kept_fraction-requires-clause-least c =
    let fn : SFits w128 c.args.num = c.ranges.num in
    let fd : SFits w128 c.args.den = c.ranges.den in
    let fg = two_words c.divisor_of-g.result c.divisor_of-g.type_inv in
    let fb = two_words c.floor_quotient-below.result c.floor_quotient-below.type_inv in
    let g = simp to_z-of_z at c.divisor_of-g.ensures.value in
    let b : c.floor_quotient-below.result ≡ floor_div c.args.den (nat_abs c.divisor_of-g.result) = simp (to_z-of_z, fg) at c.floor_quotient-below.ensures in
    subst (λ (z : ℤ). pos 1 ≤ℤ z) (sym fb) (made_least c.args.num c.args.den c.divisor_of-g.result c.floor_quotient-below.result c.requires g b)

pub kept_fraction-requires-clause-lowest : goal.kept_fraction-requires-clause-lowest
kept_fraction-requires-clause-lowest c =
    let fn : SFits w128 c.args.num = c.ranges.num in
    let fd : SFits w128 c.args.den = c.ranges.den in
    let fg = two_words c.divisor_of-g.result c.divisor_of-g.type_inv in
    let fa = two_words c.floor_quotient-above.result c.floor_quotient-above.type_inv in
    let fb = two_words c.floor_quotient-below.result c.floor_quotient-below.type_inv in
    let g = simp to_z-of_z at c.divisor_of-g.ensures.value in
    let a : c.floor_quotient-above.result ≡ floor_div c.args.num (nat_abs c.divisor_of-g.result) = simp (to_z-of_z, fg) at c.floor_quotient-above.ensures in
    let b : c.floor_quotient-below.result ≡ floor_div c.args.den (nat_abs c.divisor_of-g.result) = simp (to_z-of_z, fg) at c.floor_quotient-below.ensures in
    ap₂ (λ (x y : ℕ). gcd x y) (ap nat_abs fb) (ap nat_abs fa)
    ∙ made_alone c.args.num c.args.den c.divisor_of-g.result c.floor_quotient-above.result c.floor_quotient-below.result c.requires g a b

pub returns : goal.returns
returns c =
    let fn : SFits w128 c.args.num = c.ranges.num in
    let fd : SFits w128 c.args.den = c.ranges.den in
    let fg = two_words c.divisor_of-g.result c.divisor_of-g.type_inv in
    let fa = two_words c.floor_quotient-above.result c.floor_quotient-above.type_inv in
    let fb = two_words c.floor_quotient-below.result c.floor_quotient-below.type_inv in
    let g = simp to_z-of_z at c.divisor_of-g.ensures.value in
    let a : c.floor_quotient-above.result ≡ floor_div c.args.num (nat_abs c.divisor_of-g.result) = simp (to_z-of_z, fg) at c.floor_quotient-above.ensures in
    let b : c.floor_quotient-below.result ≡ floor_div c.args.den (nat_abs c.divisor_of-g.result) = simp (to_z-of_z, fg) at c.floor_quotient-below.ensures in
    subst (λ (v : Value). CappedWide (value_numbers v) v c.kept_fraction.result)
    (ap₂ value_with fa (ap nat_abs fb) ∙ made_value c.args.num c.args.den c.divisor_of-g.result c.floor_quotient-above.result c.floor_quotient-below.result c.requires g a b)
    c.kept_fraction.ensures
