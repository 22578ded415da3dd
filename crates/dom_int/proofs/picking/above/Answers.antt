use Rattle.std.proofs.Common.{ℤ, ◌≡◌, ◌-◌, ◌∙◌, ◌+ℤ◌, ◌-ℤ◌, ◌*ℤ◌, pos, arith, ap, w64, SFits, to_z-of_z}
use mir.Syntax.{w128}
use Rattle.std.proofs.lemmas.Int.{ints}
use Rattle.lin_term.specs.Form.{Form}
use Rattle.lin_term.specs.Linear.{dot, floor_div}
use Rattle.lin_term.specs.Literal.{residue}
use Rattle.lin_term.specs.PutIn.{coef}
use Rattle.lin_term.specs.declared.Sort.TheVariants.{Int}
use Rattle.dom_core.specs.Elimination.{size_at}
use Rattle.dom_core.specs.Pick.{lower_bound}
use Rattle.dom_core.proofs.Bounding.{lower_coef, wide_word}
use Rattle.dom_int.proofs.Congruents.{raised_is}
use Rattle.dom_int.proofs.picking.above.Goals as goal

pub returns : goal.returns
returns c =
    let x = c.args.var in
    let l = c.args.low.lit.now in
    let n = c.args.n in
    let A : ℤ = c.coefficient_at-a.result in
    let J : ℤ = c.residue-j.result in
    let D : ℤ = c.difference.result in
    let N : ℤ = c.args.low.num in
    let V : ℤ = c.args.v in
    let C : ℤ = c.raised.result in
    let s = c.coefficient_at-a.ensures.size in
    let js = c.residue-j.ensures.size in
    let vs = c.requires.v_kept in
    let num = c.requires.is.1.0 in
    let ns = c.requires.is.1.4 in
    let q = c.coefficient_at-a.ensures.value ∙ ap (λ (f : Form). coef f.terms x) c.row.ensures in
    let g = lower_coef x l A c.requires.is.0 q in
    let fa : SFits w64 A = omega (arith, ints, s) in
    let fj : SFits w64 J = omega (arith, ints, js) in
    let fv : SFits w64 V = c.ranges.v in
    let fw : SFits w128 V = omega (arith, ints, vs) in
    let fn : SFits w128 N = omega (arith, ints, ns) in
    let d : D ≡ V -ℤ N = simp to_z-of_z at c.difference.ensures in
    let fd : SFits w128 D = omega (arith, ints, d, vs, ns) in
    let j : J ≡ pos (residue D n) = simp to_z-of_z at c.residue-j.ensures.value in
    let e : C ≡ (A -ℤ pos 1) +ℤ A *ℤ J = simp to_z-of_z at c.raised.ensures.value in
    let cs = c.raised.ensures.size in
    let w = wide_word C (omega (arith, cs)) in
    let z : ℤ = pos (residue (V -ℤ floor_div (dot (lower_bound Int x l).numer c.args.point.now) (size_at x l)) n) in
    let k : J ≡ z = j ∙ ap (λ (y : ℤ). pos (residue y n)) d ∙ ap (λ (y : ℤ). pos (residue (V -ℤ y) n)) num in
    c.above_lower.ensures (size_at x l - 1) z (w ∙ raised_is A J C (size_at x l) z g.0 g.1 k e)
