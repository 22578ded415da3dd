use Rattle.std.proofs.Common.{ap, ◌∙◌, w64, SFits, to_z-of_z, ℕ}
use mir.Syntax.{w128}
use Rattle.lin_term.specs.Literal.{gcd, gcd_terms}
use Rattle.lin_term.specs.Blend.{sum_terms}
use Rattle.lin_term.specs.Settle.{sum_form}
use Rattle.lin_term.proofs.Settling.{divisor_by}
use Rattle.lin_term.proofs.settle.divisor_of_sum.Goals as goal

pub returns : goal.returns
returns c =
    let fc : SFits w128 c.args.constant = c.ranges.constant in
    let fp : SFits w64 c.args.p = c.ranges.p in
    let fq : SFits w64 c.args.q = c.ranges.q in
    let e = simp to_z-of_z at c.common_of_sum.ensures in
    let s = simp to_z-of_z at c.divisor_start-start.ensures in
    divisor_by c.args.sort (sum_form c.args.p c.args.left.now c.args.q c.args.right.now c.args.skip c.args.constant) c.common_of_sum.result c.max.result
    (e ∙ ap (λ (n : ℕ). gcd n (gcd_terms (sum_terms c.args.p c.args.left.now c.args.q c.args.right.now c.args.skip))) s) c.max.ensures
