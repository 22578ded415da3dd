use Rattle.std.specs.Prelude.{[]}
use Rattle.std.proofs.Common.{ℕ, ℤ, ◌≡◌, ◌∙◌, pos, nat_abs, ap, subst, refl, arith, w64, SFits, to_z-of_z, to_z, of_z}
use mir.Syntax.{w128}
use Rattle.lin_term.specs.Form.{Form}
use Rattle.lin_term.specs.Settle.{sum_form, CappedResidues}
use Rattle.lin_term.proofs.Terms.{wide_of}
use Rattle.lin_term.proofs.Negating.{one_of_row}
use Rattle.lin_term.proofs.putting.divides_in.Goals as goal

pub returns : goal.returns
returns c =
    let fa : SFits w64 c.args.a = c.ranges.a in
    let fk : SFits w128 c.args.constant = c.ranges.constant in
    let t : Form = record { terms = c.args.terms.now; constant = c.args.constant } in
    let z : to_z w128 (of_z w128 (to_z w64 (of_z w64 c.args.a))) ≡ c.args.a = ap (λ (y : ℤ). to_z w128 (of_z w128 y)) (let u : to_z w64 (of_z w64 c.args.a) ≡ c.args.a = simp to_z-of_z in u) ∙ wide_of c.args.a (omega (arith, c.requires.a_kept)) in
    let k : to_z w128 (of_z w128 c.args.constant) ≡ c.args.constant = simp to_z-of_z in
    let e = one_of_row t c.args.terms.now (to_z w128 (of_z w128 c.args.constant)) c.requires.terms_kept refl k in
    c.divides.ensures (nat_abs c.args.a) t
    (subst (λ (f : Form). CappedResidues (nat_abs c.args.a) f c.residue_row.result) e
    (subst (λ (n : ℕ). CappedResidues n (sum_form (pos 1) c.args.terms.now (pos 0) [] 0 (to_z w128 (of_z w128 c.args.constant))) c.residue_row.result) (ap nat_abs z) c.residue_row.ensures))
