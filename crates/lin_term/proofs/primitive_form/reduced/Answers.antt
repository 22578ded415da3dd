use Rattle.std.specs.Prelude.{[]}
use Rattle.std.proofs.Common.{ℕ, ℤ, ◌≡◌, pos, nat_abs, subst, ap, arith, ◌∙◌, to_z, of_z, w64}
use mir.Syntax.{w128}
use Rattle.lin_term.specs.Form.{Form}
use Rattle.lin_term.specs.Settle.{sum_form, CappedResidues}
use Rattle.lin_term.proofs.Terms.{wide_of, word_of}
use Rattle.lin_term.proofs.Negating.{one_of_row}
use Rattle.lin_term.proofs.primitive_form.reduced.Goals as goal

pub returns : goal.returns
returns c =
    let z : ℤ = to_z w128 (of_z w128 (to_z w64 (of_z w64 c.constant_part.result))) in
    let d : to_z w128 c.args.d ≡ pos c.args.d = wide_of (pos c.args.d) (omega (arith, c.requires.greatest)) in
    let k : z ≡ c.args.row.now.constant = ap (λ (y : ℤ). to_z w128 (of_z w128 y)) (word_of c.constant_part.result c.constant_part.ensures.kept) ∙ wide_of c.constant_part.result (omega (arith, c.constant_part.ensures.kept)) ∙ c.constant_part.ensures.value in
    let same = one_of_row c.args.row.now c.coefs.result.now z c.coefs.ensures.kept c.coefs.ensures.terms k in
    let e : CappedResidues (nat_abs (to_z w128 c.args.d)) (sum_form (pos 1) c.coefs.result.now (pos 0) [] 0 z) c.residue_row.result = c.residue_row.ensures in
    subst (λ (f : Form). CappedResidues c.args.d f c.residue_row.result) same
    (subst (λ (n : ℕ). CappedResidues n (sum_form (pos 1) c.coefs.result.now (pos 0) [] 0 z) c.residue_row.result) (ap nat_abs d) e)
