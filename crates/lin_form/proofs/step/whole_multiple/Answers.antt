use Rattle.std.proofs.Common.{ℤ, ◌≡◌, ◌∙◌, ◌≤◌, ◌^◌, ◌*ℤ◌, ap, arith, nat_abs, w64, SFits, to_z-of_z}
use Rattle.std.proofs.lemmas.Int.{ints}
use Rattle.lin_truth.specs.Value.{whole_div}
use Rattle.lin_form.proofs.Rests.{multiple_small}
use Rattle.lin_form.proofs.step.whole_multiple.Goals as goal

pub overflow_mul-result : goal.overflow_mul-result
overflow_mul-result c =
    let fa : SFits w64 c.args.a = c.ranges.a in
    let fn : SFits w64 c.args.n = c.ranges.n in
    let fq : SFits w64 c.whole_quotient-quotient.result = omega (arith, ints, c.whole_quotient-quotient.ensures.small) in
    let q : c.whole_quotient-quotient.result ≡ whole_div c.args.a c.args.n = simp to_z-of_z at c.whole_quotient-quotient.ensures.value in
    let s : nat_abs (c.args.n *ℤ c.whole_quotient-quotient.result) ≤ 2 ^ 53 = omega (arith, ap (λ (z : ℤ). nat_abs (c.args.n *ℤ z)) q, multiple_small c.args.a c.args.n, c.requires.a_kept, c.requires.n_kept) in
    let f : SFits w64 (c.args.n *ℤ c.whole_quotient-quotient.result) = omega (arith, ints, s) in
    simp to_z-of_z f

pub returns-clause-small : goal.returns-clause-small
returns-clause-small c =
    let fa : SFits w64 c.args.a = c.ranges.a in
    let fn : SFits w64 c.args.n = c.ranges.n in
    let fq : SFits w64 c.whole_quotient-quotient.result = omega (arith, ints, c.whole_quotient-quotient.ensures.small) in
    let q : c.whole_quotient-quotient.result ≡ whole_div c.args.a c.args.n = simp to_z-of_z at c.whole_quotient-quotient.ensures.value in
    let s : nat_abs (c.args.n *ℤ c.whole_quotient-quotient.result) ≤ 2 ^ 53 = omega (arith, ap (λ (z : ℤ). nat_abs (c.args.n *ℤ z)) q, multiple_small c.args.a c.args.n, c.requires.a_kept, c.requires.n_kept) in
    let f : SFits w64 (c.args.n *ℤ c.whole_quotient-quotient.result) = omega (arith, ints, s) in
    simp to_z-of_z s
