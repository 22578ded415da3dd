use Rattle.std.proofs.Common.{ℤ, ◌≡◌, ◌∙◌, ◌-ℤ◌, pos, nat_abs, arith, ap, sym, subst, w64, SFits, to_z, of_z, to_z-of_z}
use mir.Syntax.{w128}
use Rattle.std.proofs.lemmas.Int.{ints}
use Rattle.lin_term.specs.declared.Lit.{Lit}
use Rattle.lin_term.specs.declared.Lit.TheVariants.{Divides}
use Rattle.lin_term.specs.declared.Sort.TheVariants.{Int}
use Rattle.lin_term.specs.Form.{Form}
use Rattle.lin_term.specs.Literal.{prim}
use Rattle.lin_term.specs.PutIn.{less_residue}
use Rattle.lin_term.specs.Wide.{Capped, lit_numbers}
use Rattle.lin_term.proofs.Terms.{word_of, wide_of}
use Rattle.dom_int.proofs.Congruents.{less_read}
use Rattle.dom_int.proofs.putting.add_evenness.Goals as goal

pub returns : goal.returns
returns c =
    let m = c.args.term.now in
    let r = c.args.remainder in
    let K : ℤ = c.constant_part-constant.result in
    let O : ℤ = c.less-over.result in
    let D : ℤ = c.div-div.result in
    let ks = c.constant_part-constant.ensures.kept in
    let os = c.less-over.ensures.size in
    let o : O ≡ K -ℤ pos r = c.less-over.ensures.value ∙ ap (λ (y : ℤ). y -ℤ pos r) (word_of K ks) in
    let z : to_z w128 (of_z w128 O) ≡ m.numer.constant -ℤ pos r =
    wide_of O (omega (arith, os)) ∙ o ∙ ap (λ (y : ℤ). y -ℤ pos r) (c.constant_part-constant.ensures.value ∙ ap (λ (f : Form). f.constant) c.row-row.ensures) in
    let d : nat_abs (to_z w64 (of_z w64 D)) ≡ m.div = ap (λ (y : ℤ). nat_abs y) (word_of D c.div-div.ensures.greatest ∙ c.div-div.ensures.value) in
    let e = less_read m r (nat_abs (to_z w64 (of_z w64 D))) c.coefs-terms.result.now (to_z w128 (of_z w128 O)) d (c.coefs-terms.ensures.terms ∙ ap (λ (f : Form). f.terms) c.row-row.ensures) c.coefs-terms.ensures.kept z in
    c.add_made.ensures.adds (prim Int (Divides m.div (less_residue m r))) (subst (λ (l : Lit). Capped (lit_numbers (prim Int l)) (prim Int l) c.divides_in.result) e c.divides_in.ensures)
