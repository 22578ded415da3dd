use Rattle.std.specs.Prelude.{ℕ, ℤ, ◌≡◌, ◌*◌, ◌*ℤ◌, ◌<ℤ◌, ◌≤ℤ◌, neg_ℤ, pos, nat_abs}
use Rattle.std.proofs.Common.{arith, ap, ap₂, ◌∙◌, subst, w64, to_z, of_z}
use Rattle.std.proofs.lemmas.Int.{ints}
use Rattle.lin_term.specs.Linear.{Value}
use Rattle.lin_term.specs.Fraction.{lowest_value, value_numbers}
use Rattle.lin_term.specs.Wide.{CappedWide}
use Rattle.lin_term.proofs.Dividing.{abs_neg}
use Rattle.lin_term.proofs.Fractions.{value_with, over_above, over_below}
use Rattle.lin_term.proofs.Terms.{word_of}
use Rattle.lin_term.proofs.fraction.Fraction.quotient.Goals as goal

pub returns-then-below-gt0 : goal.returns-then-below-gt0
returns-then-below-gt0 c =
    let x = c.args.self in
    let y = c.args.other in
    let n : to_z w64 (of_z w64 c.num-num.result) ≡ x.num = word_of c.num-num.result c.num-num.ensures.kept ∙ c.num-num.ensures.value in
    let d : to_z w64 (of_z w64 c.den-den.result) ≡ pos x.den = word_of c.den-den.result c.den-den.ensures.kept ∙ c.den-den.ensures.value in
    let b : to_z w64 (of_z w64 c.num-below.result) ≡ y.num = word_of c.num-below.result c.num-below.ensures.kept ∙ c.num-below.ensures.value in
    let o : to_z w64 (of_z w64 c.den-over.result) ≡ pos y.den = word_of c.den-over.result c.den-over.ensures.kept ∙ c.den-over.ensures.value in
    let g : pos 0 <ℤ to_z w64 (of_z w64 c.num-below.result) = omega (arith, ints, c.if-below-gt0.true) in
    subst (λ (u : Value). CappedWide (value_numbers (lowest_value u)) (lowest_value u) c.quotient_by.result)
    (ap₂ value_with (λ k. n k *ℤ o k) (λ k. nat_abs (d k) * nat_abs (b k)) ∙ over_above x y.num y.den (subst (λ (z : ℤ). pos 0 <ℤ z) b g))
    c.quotient_by.ensures

pub returns : goal.returns
returns c =
    let x = c.args.self in
    let y = c.args.other in
    let n : to_z w64 (of_z w64 c.num-num.result) ≡ x.num = word_of c.num-num.result c.num-num.ensures.kept ∙ c.num-num.ensures.value in
    let d : to_z w64 (of_z w64 c.den-den.result) ≡ pos x.den = word_of c.den-den.result c.den-den.ensures.kept ∙ c.den-den.ensures.value in
    let b : to_z w64 (of_z w64 c.num-below.result) ≡ y.num = word_of c.num-below.result c.num-below.ensures.kept ∙ c.num-below.ensures.value in
    let o : to_z w64 (of_z w64 c.den-over.result) ≡ pos y.den = word_of c.den-over.result c.den-over.ensures.kept ∙ c.den-over.ensures.value in
    let m : to_z w64 (of_z w64 c.opposite.result) ≡ neg_ℤ x.num = word_of c.opposite.result c.opposite.ensures.size ∙ c.opposite.ensures.value ∙ ap neg_ℤ n in
    let e : to_z w64 (of_z w64 c.opposite-2.result) ≡ neg_ℤ y.num = word_of c.opposite-2.result c.opposite-2.ensures.size ∙ c.opposite-2.ensures.value ∙ ap neg_ℤ b in
    let g : to_z w64 (of_z w64 c.num-below.result) ≤ℤ pos 0 = omega (arith, ints, c.if-below-gt0.false) in
    subst (λ (u : Value). CappedWide (value_numbers (lowest_value u)) (lowest_value u) c.quotient_by-2.result)
    (ap₂ value_with (λ k. m k *ℤ o k) ((λ k. nat_abs (d k) * nat_abs (e k)) ∙ ap (λ (z : ℕ). x.den * z) (abs_neg y.num)) ∙ over_below x y.num y.den c.requires (subst (λ (z : ℤ). z ≤ℤ pos 0) b g))
    c.quotient_by-2.ensures
