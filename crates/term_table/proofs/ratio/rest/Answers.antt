use Rattle.std.proofs.Common.{◌≡◌, ◌*◌, ◌+ℤ◌, ◌*ℤ◌, neg_ℤ, pos, nat_abs, ℕ, ℤ, arith, ap, ap₂, ◌∙◌, subst, w64, SFits, to_z, of_z, to_z-of_z}
use mir.Syntax.{w128}
use Rattle.std.proofs.lemmas.Int.{ints}
use Rattle.lin_term.specs.Linear.{Value}
use Rattle.lin_term.specs.Fraction.{lowest_value, value_numbers}
use Rattle.lin_term.specs.Wide.{CappedWide}
use Rattle.lin_term.proofs.Fractions.{value_with}
use Rattle.lin_term.proofs.Terms.{two_words, wide_of}
use Rattle.lin_truth.specs.Value.{v_mod, whole_div}
use Rattle.term_table.proofs.ratio.rest.Goals as goal

pub overflow_add-left : goal.overflow_add-left
overflow_add-left c =
    let l = wide_of c.times-left.result (omega (arith, c.times-left.ensures.size)) in
    let r = wide_of c.times-right.result (omega (arith, c.times-right.ensures.size)) in
    omega (arith, ints, l, r, c.times-left.ensures.size, c.times-right.ensures.size)

pub returns : goal.returns
returns c =
    let x = c.args.x in
    let y = c.args.y in
    let left = c.times-left.result in
    let right = c.times-right.result in
    let both = c.common-both.result in
    let f1 : SFits w64 c.num-above.result = omega (arith, ints, c.num-above.ensures.kept) in
    let f2 : SFits w64 c.den-den.result = omega (arith, ints, c.den-den.ensures.kept) in
    let f3 : SFits w64 c.num-below.result = omega (arith, ints, c.num-below.ensures.kept) in
    let f4 : SFits w64 c.den-over.result = omega (arith, ints, c.den-over.ensures.kept) in
    let f5 : SFits w64 c.multiple.result = omega (arith, ints, c.multiple.ensures.size) in
    let s : nat_abs c.opposite.result ≡ nat_abs c.multiple.result = simp to_z-of_z at c.opposite.ensures.size in
    let f6 : SFits w64 c.opposite.result = omega (arith, ints, s, c.multiple.ensures.size) in
    let m : c.multiple.result ≡ c.num-below.result *ℤ whole_div c.num-above.result c.num-below.result = simp to_z-of_z at c.multiple.ensures.value in
    let o : c.opposite.result ≡ neg_ℤ c.multiple.result = simp to_z-of_z at c.opposite.ensures.value in
    let g1 : SFits w128 left = omega (arith, ints, c.times-left.ensures.size) in
    let g2 : SFits w128 right = omega (arith, ints, c.times-right.ensures.size) in
    let g3 : SFits w128 (left +ℤ right) = omega (arith, ints, c.times-left.ensures.size, c.times-right.ensures.size) in
    let wb = two_words both c.common-both.type_inv in
    let l : left ≡ c.num-above.result *ℤ c.den-over.result = simp to_z-of_z at c.times-left.ensures.value in
    let r : right ≡ c.opposite.result *ℤ c.den-den.result = simp to_z-of_z at c.times-right.ensures.value in
    let k : both ≡ c.den-den.result *ℤ c.den-over.result = simp to_z-of_z at c.common-both.ensures.value in
    let y1 : y.den ≡ y.den * 1 = omega arith in
    let l2 : left ≡ x.num *ℤ pos (y.den * 1) = l ∙ (λ i. c.num-above.ensures.value i *ℤ (c.den-over.ensures.value ∙ ap pos y1) i) in
    let m2 : c.multiple.result ≡ y.num *ℤ whole_div x.num y.num = m ∙ (λ i. c.num-below.ensures.value i *ℤ whole_div (c.num-above.ensures.value i) (c.num-below.ensures.value i)) in
    let r2 : right ≡ neg_ℤ (y.num *ℤ whole_div x.num y.num) *ℤ pos x.den = r ∙ (λ i. (o ∙ ap neg_ℤ m2) i *ℤ c.den-den.ensures.value i) in
    let d2 : nat_abs both ≡ x.den * (y.den * 1) = ap nat_abs (k ∙ (λ i. c.den-den.ensures.value i *ℤ c.den-over.ensures.value i)) ∙ ap (λ (n : ℕ). x.den * n) y1 in
    let e : to_z w128 (of_z w128 (to_z w128 (of_z w128 left) +ℤ to_z w128 (of_z w128 right))) ≡ left +ℤ right = simp to_z-of_z in
    c.kept.ensures (v_mod x y)
    (subst (λ (v : Value). CappedWide (value_numbers (lowest_value v)) (lowest_value v) c.make.result) (ap₂ value_with (e ∙ (λ i. l2 i +ℤ r2 i)) (ap nat_abs wb ∙ d2)) c.make.ensures)
