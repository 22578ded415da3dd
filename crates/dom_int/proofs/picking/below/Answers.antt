use Rattle.std.proofs.Common.{ℤ, ◌≡◌, ◌∙◌, ◌-ℤ◌, ◌*ℤ◌, pos, neg_ℤ, arith, ap, w64, SFits, to_z-of_z}
use mir.Syntax.{w128}
use Rattle.std.proofs.lemmas.Int.{ints}
use Rattle.lin_term.specs.Form.{Form}
use Rattle.lin_term.specs.Linear.{dot, floor_div}
use Rattle.lin_term.specs.Literal.{residue}
use Rattle.lin_term.specs.PutIn.{coef}
use Rattle.dom_core.specs.Elimination.{size_at}
use Rattle.dom_core.specs.Pick.{upper_bound}
use Rattle.dom_core.proofs.Bounding.{upper_coef, wide_word}
use Rattle.dom_int.proofs.Congruents.{lowered_is}
use Rattle.dom_int.proofs.picking.below.Goals as goal

pub returns : goal.returns
returns c =
    let x = c.args.var in
    let l = c.args.up.lit.now in
    let n = c.args.n in
    let K : ℤ = c.coefficient_at-c.result in
    let J : ℤ = c.residue-j.result in
    let D : ℤ = c.difference.result in
    let N : ℤ = c.args.up.num in
    let V : ℤ = c.args.v in
    let P : ℤ = c.product.result in
    let s = c.coefficient_at-c.ensures.size in
    let js = c.residue-j.ensures.size in
    let vs = c.requires.v_kept in
    let num = c.requires.is.1.0 in
    let ns = c.requires.is.1.4 in
    let q = c.coefficient_at-c.ensures.value ∙ ap (λ (f : Form). coef f.terms x) c.row.ensures in
    let g = (upper_coef x l (neg_ℤ K) c.requires.is.0 (ap neg_ℤ q)).0 in
    let fk : SFits w64 K = omega (arith, ints, s) in
    let fj : SFits w64 J = omega (arith, ints, js) in
    let fv : SFits w64 V = c.ranges.v in
    let fw : SFits w128 V = omega (arith, ints, vs) in
    let fn : SFits w128 N = omega (arith, ints, ns) in
    let d : D ≡ N -ℤ V = simp to_z-of_z at c.difference.ensures in
    let fd : SFits w128 D = omega (arith, ints, d, vs, ns) in
    let j : J ≡ pos (residue D n) = simp to_z-of_z at c.residue-j.ensures.value in
    let e : P ≡ K *ℤ J = simp to_z-of_z at c.product.ensures.value in
    let ps = c.product.ensures.size in
    let w = wide_word P (omega (arith, ps)) in
    let z : ℤ = pos (residue (floor_div (dot (upper_bound x l).numer c.args.point.now) (size_at x l) -ℤ V) n) in
    let k : J ≡ z = j ∙ ap (λ (y : ℤ). pos (residue y n)) d ∙ ap (λ (y : ℤ). pos (residue (y -ℤ V) n)) num in
    c.below_upper.ensures (neg_ℤ z) (w ∙ lowered_is K J P (size_at x l) z g k e)
