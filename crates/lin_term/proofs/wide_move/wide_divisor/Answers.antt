use Rattle.std.specs.Prelude.{ℕ, ℤ, ◌≡◌, ◌≤◌, ◌^◌, ◌≤ℤ◌, pos, nat_abs}
use Rattle.std.proofs.Common.{arith, ap, ◌∙◌, sym, subst, w64, SFits, to_z, to_z-of_z}
use mir.Syntax.{w128}
use Rattle.std.proofs.lemmas.Int.{ints, to_z_pos}
use Rattle.lin_term.specs.Literal.{gcd, gcd_terms}
use Rattle.lin_term.specs.Move.{Move, move_divisor}
use Rattle.lin_term.specs.Blend.{sum_terms}
use Rattle.lin_term.specs.Settle.{sum_form}
use Rattle.lin_term.proofs.Lowering.{move_with, divisor_pos, divisor_within}
use Rattle.lin_term.proofs.WideMoves.{wide_divisor_is}
use Rattle.lin_term.proofs.wide_move.wide_divisor.Goals as goal
use Rattle.lin_term.proofs.wide_move.wide_divisor.Goals.{After-common_of_sum}

abbrev of_args : After-common_of_sum → Move
of_args c = move_with (sum_form c.args.p c.args.left.now c.args.q c.args.right.now (2 ^ 20) c.args.constant) (nat_abs c.args.div)

some : (c : After-common_of_sum) → 1 ≤ nat_abs c.args.div
some c = omega (arith, ints, c.requires.least)

number : (c : After-common_of_sum) → c.common_of_sum.result ≡ move_divisor c.args.sort (of_args c)
number c =
    let fp : SFits w64 c.args.p = c.ranges.p in
    let fq : SFits w64 c.args.q = c.ranges.q in
    let fc : SFits w128 c.args.constant = c.ranges.constant in
    let fd : SFits w128 c.args.div = c.ranges.div in
    let e = simp to_z-of_z at c.common_of_sum.ensures in
    let s = simp to_z-of_z at c.wide_start-start.ensures in
    let ts = sum_terms c.args.p c.args.left.now c.args.q c.args.right.now (2 ^ 20) in
    wide_divisor_is c.args.sort (sum_form c.args.p c.args.left.now c.args.q c.args.right.now (2 ^ 20) c.args.constant) (nat_abs c.args.div) c.common_of_sum.result (some c) (e ∙ ap (λ (n : ℕ). gcd n (gcd_terms ts)) s)

most : (c : After-common_of_sum) → c.common_of_sum.result ≤ nat_abs c.args.div
most c = let w = divisor_within c.args.sort (of_args c) (some c) in omega (arith, number c, w)

pub overflow_cast-result : goal.overflow_cast-result
overflow_cast-result c =
    let fd : SFits w128 c.args.div = c.ranges.div in
    let m = most c in
    omega (arith, ints)

value : (c : After-common_of_sum) → to_z w128 c.common_of_sum.result ≡ pos (move_divisor c.args.sort (of_args c))
value c =
    let fd : SFits w128 c.args.div = c.ranges.div in
    let m = most c in
    let l = c.requires.least in
    to_z_pos w128 c.common_of_sum.result (omega (arith, ints)) ∙ ap pos (number c)

pub returns-clause-value : goal.returns-clause-value
returns-clause-value c = value c

pub returns-clause-least : goal.returns-clause-least
returns-clause-least c =
    subst (λ (z : ℤ). pos 1 ≤ℤ z) (sym (value c)) (let p = divisor_pos c.args.sort (of_args c) in omega (arith, ints))
