use Rattle.std.specs.Prelude.{◌≡◌, ◌*◌, ◌+ℤ◌, ◌*ℤ◌, neg_ℤ, pos, nat_abs}
use Rattle.std.proofs.Common.{arith, ap, ap₂, ◌∙◌, subst, w64, to_z, of_z}
use Rattle.lin_term.specs.Linear.{Value}
use Rattle.lin_term.specs.Fraction.{lowest_value, value_numbers}
use Rattle.lin_term.specs.Wide.{CappedWide}
use Rattle.lin_term.proofs.Fractions.{value_with}
use Rattle.lin_term.proofs.Terms.{two_words, wide_of, word_of}
use Rattle.lin_term.proofs.fraction.Fraction.difference.Goals as goal

pub returns : goal.returns
returns c =
    let x = c.args.self in
    let y = c.args.other in
    let o1 : to_z w64 (of_z w64 c.num.result) ≡ y.num = word_of c.num.result c.num.ensures.kept ∙ c.num.ensures.value in
    let n1 : to_z w64 (of_z w64 c.num-2.result) ≡ x.num = word_of c.num-2.result c.num-2.ensures.kept ∙ c.num-2.ensures.value in
    let d1 : to_z w64 (of_z w64 c.den.result) ≡ pos y.den = word_of c.den.result c.den.ensures.kept ∙ c.den.ensures.value in
    let n2 : to_z w64 (of_z w64 c.opposite-less.result) ≡ neg_ℤ y.num = word_of c.opposite-less.result c.opposite-less.ensures.size ∙ c.opposite-less.ensures.value ∙ ap neg_ℤ o1 in
    let d2 : to_z w64 (of_z w64 c.den-2.result) ≡ pos x.den = word_of c.den-2.result c.den-2.ensures.kept ∙ c.den-2.ensures.value in
    let d3 : to_z w64 (of_z w64 c.den-3.result) ≡ pos x.den = word_of c.den-3.result c.den-3.ensures.kept ∙ c.den-3.ensures.value in
    let d4 : to_z w64 (of_z w64 c.den-4.result) ≡ pos y.den = word_of c.den-4.result c.den-4.ensures.kept ∙ c.den-4.ensures.value in
    let wn = wide_of c.sum_of_products-num.result (omega (arith, c.sum_of_products-num.ensures.size)) in
    let wd = two_words c.common-den.result c.common-den.type_inv in
    let v : c.sum_of_products-num.result ≡ x.num *ℤ pos y.den +ℤ neg_ℤ y.num *ℤ pos x.den = c.sum_of_products-num.ensures.value ∙ (λ k. n1 k *ℤ d1 k +ℤ n2 k *ℤ d2 k) in
    let d : c.common-den.result ≡ pos (x.den * y.den) = c.common-den.ensures.value ∙ (λ k. pos (nat_abs (d3 k) * nat_abs (d4 k))) in
    subst (λ (u : Value). CappedWide (value_numbers (lowest_value u)) (lowest_value u) c.make.result)
    (ap₂ value_with (wn ∙ v) (ap nat_abs (wd ∙ d)))
    c.make.ensures
