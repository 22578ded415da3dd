use Rattle.std.specs.Prelude.{◌≡◌, ◌*◌, ◌*ℤ◌, pos, nat_abs}
use Rattle.std.proofs.Common.{arith, ap, ap₂, ◌∙◌, subst, w64, SFits, to_z-of_z}
use Rattle.lin_term.specs.Linear.{Value}
use Rattle.lin_term.specs.Fraction.{lowest_value, value_numbers}
use Rattle.lin_term.specs.Wide.{CappedWide}
use Rattle.lin_term.proofs.Fractions.{value_with}
use Rattle.lin_term.proofs.Terms.{two_words, wide_of}
use Rattle.lin_term.proofs.fraction.quotient_by.Goals as goal

pub returns : goal.returns
returns c =
    let fn : SFits w64 c.args.num = c.ranges.num in
    let fd : SFits w64 c.args.den = c.ranges.den in
    let fb : SFits w64 c.args.below = c.ranges.below in
    let fo : SFits w64 c.args.over = c.ranges.over in
    let wn = wide_of c.product-num.result (omega (arith, c.product-num.ensures.size)) in
    let wd = two_words c.common-den.result c.common-den.type_inv in
    let v : c.product-num.result ≡ c.args.num *ℤ c.args.over = simp to_z-of_z at c.product-num.ensures.value in
    let d : c.common-den.result ≡ pos (nat_abs c.args.den * nat_abs c.args.below) = simp to_z-of_z at c.common-den.ensures.value in
    subst (λ (u : Value). CappedWide (value_numbers (lowest_value u)) (lowest_value u) c.make.result)
    (ap₂ value_with (wn ∙ v) (ap nat_abs (wd ∙ d)))
    c.make.ensures
