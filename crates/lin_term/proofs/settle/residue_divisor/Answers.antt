use Rattle.std.proofs.Common.{ℕ, ◌≡◌, ◌≤◌, ◌∙◌, ◌^◌, pos, nat_abs, ap, arith, w64, SFits, to_z-of_z, to_z}
use mir.Syntax.{w128}
use Rattle.std.proofs.lemmas.Int.{ints}
use Rattle.lin_term.specs.Literal.{gcd, gcd_terms}
use Rattle.lin_term.specs.Blend.{reduce_by, sum_terms}
use Rattle.lin_term.proofs.Residues.{three_least, three_greatest}
use Rattle.lin_term.proofs.Terms.{wide_of}
use Rattle.lin_term.proofs.settle.residue_divisor.Goals as goal

value : (c : goal.After-common_of_sum) → c.common_of_sum.result ≡ gcd (gcd (nat_abs c.args.modulus) (nat_abs c.args.constant)) (gcd_terms (reduce_by (nat_abs c.args.modulus) (sum_terms c.args.p c.args.left.now c.args.q c.args.right.now c.args.skip)))
value c =
    let fm : SFits w128 c.args.modulus = c.ranges.modulus in
    let fc : SFits w128 c.args.constant = c.ranges.constant in
    let fp : SFits w64 c.args.p = c.ranges.p in
    let fq : SFits w64 c.args.q = c.ranges.q in
    let a = simp to_z-of_z at c.unsigned_abs.ensures.value in
    let b = simp to_z-of_z at c.unsigned_abs-2.ensures.value in
    let e = simp to_z-of_z at c.common_of_sum.ensures in
    let s = c.gcd_of-start.ensures ∙ ap (λ (n : ℕ). gcd n c.unsigned_abs-2.result) a ∙ ap (gcd (nat_abs c.args.modulus)) b in
    e ∙ ap (λ (n : ℕ). gcd n (gcd_terms (reduce_by (nat_abs c.args.modulus) (sum_terms c.args.p c.args.left.now c.args.q c.args.right.now c.args.skip)))) s

bound : (c : goal.After-common_of_sum) → c.common_of_sum.result ≤ 2 ^ 106
bound c =
    let g = three_greatest (nat_abs c.args.modulus) (nat_abs c.args.constant) (gcd_terms (reduce_by (nat_abs c.args.modulus) (sum_terms c.args.p c.args.left.now c.args.q c.args.right.now c.args.skip))) (omega (arith, ints)) in
    omega (arith, value c, c.requires.modulus_greatest)

number : (n : ℕ) → n ≤ 2 ^ 106 → to_z w128 n ≡ pos n
number n h = wide_of (pos n) h

pub overflow_cast-result : goal.overflow_cast-result
overflow_cast-result c = let h = bound c in omega (arith, ints)

pub returns-clause-value : goal.returns-clause-value
returns-clause-value c = number c.common_of_sum.result (bound c) ∙ ap pos (value c)

pub returns-clause-least : goal.returns-clause-least
returns-clause-least c =
    let l = three_least (nat_abs c.args.modulus) (nat_abs c.args.constant) (gcd_terms (reduce_by (nat_abs c.args.modulus) (sum_terms c.args.p c.args.left.now c.args.q c.args.right.now c.args.skip))) (omega (arith, ints)) in
    let e = number c.common_of_sum.result (bound c) in
    omega (arith, ints, value c)
