use Rattle.std.specs.Prelude.{ℤ, ◌-ℤ◌, ◌≡◌, pos, nat_abs}
use Rattle.std.proofs.Common.{arith, ap, ◌∙◌, subst, w64, to_z, of_z}
use mir.Syntax.{w128}
use Rattle.lin_term.specs.Form.{Form}
use Rattle.lin_term.specs.Literal.{Lit}
use Rattle.lin_term.specs.Wide.{Capped, lit_numbers}
use Rattle.lin_term.proofs.Terms.{word_of, wide_of}
use Rattle.lin_term.proofs.PuttingLemmas.{less_is}
use Rattle.lin_term.proofs.putting.substitute.Goals as goal

pub returns : goal.returns
returns c =
    let m = c.args.term.now in
    let d = c.div-div.ensures in
    let r = c.less-constant in
    let z : to_z w128 (of_z w128 r.result) ≡ m.numer.constant -ℤ pos c.args.residue = wide_of r.result (omega (arith, r.ensures.size)) ∙ r.ensures.value ∙ ap (λ (y : ℤ). y -ℤ pos c.args.residue) (word_of c.constant_part.result c.constant_part.ensures.kept ∙ c.constant_part.ensures.value ∙ ap (λ (f : Form). f.constant) c.row-row.ensures) in
    subst (λ (x : Lit). Capped (lit_numbers x) x c.put_in.result)
    (less_is c.args.sort c.args.lit.now c.args.var m c.args.residue (nat_abs (to_z w64 (of_z w64 c.div-div.result))) c.coefs.result.now (to_z w128 (of_z w128 r.result)) (ap nat_abs (word_of c.div-div.result d.greatest ∙ d.value)) (c.coefs.ensures.terms ∙ ap (λ (f : Form). f.terms) c.row-row.ensures) c.coefs.ensures.kept z)
    c.put_in.ensures
