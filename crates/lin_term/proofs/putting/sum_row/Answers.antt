use Rattle.std.proofs.Common.{ℕ, ◌≡◌, ◌≤◌, ◌^◌, ◌∙◌, pos, nat_abs, arith, ap, sym, subst, w64, SFits, to_z-of_z, to_z, of_z}
use mir.Syntax.{w128}
use Rattle.std.proofs.lemmas.Int.{ints}
use Rattle.lin_term.specs.Settle.{sum_form}
use Rattle.lin_term.proofs.Settling.{divisor_least}
use Rattle.lin_term.proofs.Sizes.{divisor_small}
use Rattle.lin_term.proofs.Terms.{wide_of}
use Rattle.lin_term.proofs.putting.sum_row.Goals as goal

small : (c : goal.After-divisor_of_sum-g) → c.divisor_of_sum-g.result ≤ 2 ^ 106
small c =
    let fc : SFits w128 c.args.constant = c.ranges.constant in
    let fp : SFits w64 c.args.p = c.ranges.p in
    let fq : SFits w64 c.args.q = c.ranges.q in
    let e = simp to_z-of_z at c.divisor_of_sum-g.ensures in
    subst (λ (n : ℕ). n ≤ 2 ^ 106) (sym e) (divisor_small c.args.sort c.args.p c.args.left.now c.args.q c.args.right.now c.args.skip c.args.constant c.requires.p_kept c.requires.q_kept c.requires.left_kept c.requires.right_kept c.requires.constant_size)

same : (c : goal.After-divisor_of_sum-g) → to_z w128 c.divisor_of_sum-g.result ≡ pos c.divisor_of_sum-g.result
same c = wide_of (pos c.divisor_of_sum-g.result) (small c)

pub overflow_cast-g : goal.overflow_cast-g
overflow_cast-g c = let h = small c in omega (arith, ints)

pub inequality_row-requires-clause-least : goal.inequality_row-requires-clause-least
inequality_row-requires-clause-least c =
    let e = same c in
    let d = c.divisor_of_sum-g.ensures in
    let l = divisor_least c.args.sort (sum_form (to_z w64 (of_z w64 c.args.p)) c.args.left.now (to_z w64 (of_z w64 c.args.q)) c.args.right.now c.args.skip (to_z w128 (of_z w128 c.args.constant))) in
    omega (arith, ints)

pub inequality_row-requires-clause-divides : goal.inequality_row-requires-clause-divides
inequality_row-requires-clause-divides c = ap nat_abs (same c) ∙ c.divisor_of_sum-g.ensures
