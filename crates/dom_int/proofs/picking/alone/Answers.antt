use Rattle.std.proofs.Common.{ℤ, ◌≡◌, ◌∙◌, pos, arith, ap, subst, w64, SFits, to_z-of_z}
use mir.Syntax.{w128}
use Rattle.std.proofs.lemmas.Int.{ints}
use Rattle.lin_term.specs.Literal.{residue}
use Rattle.lin_term.specs.declared.Sort.TheVariants.{Int}
use Rattle.lin_term.proofs.Terms.{word_of}
use Rattle.dom_core.specs.Pick.{constant_move}
use Rattle.dom_core.proofs.Shifting.{MakesLowest}
use Rattle.dom_int.proofs.picking.alone.Goals as goal

pub returns : goal.returns
returns c =
    let V : ℤ = c.args.v in
    let R : ℤ = c.residue.result in
    let vs = c.requires.v_kept in
    let fv : SFits w64 V = c.ranges.v in
    let fw : SFits w128 V = omega (arith, ints, vs) in
    let r : R ≡ pos (residue V c.args.n) = simp to_z-of_z at c.residue.ensures.value in
    let e = word_of R c.residue.ensures.size ∙ r in
    subst (λ (y : ℤ). MakesLowest Int (constant_move y) c.constant.result) e c.constant.ensures
