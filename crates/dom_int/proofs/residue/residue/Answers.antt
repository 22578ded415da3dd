use Rattle.std.specs.Int.{int_rem_euclid}
use Rattle.std.proofs.Common.{ℤ, ◌≡◌, ◌≤◌, ◌∙◌, pos, nat_abs, arith, ap, ap₂, sym, subst, w64, SFits, to_z, of_z, to_z-of_z}
use mir.Syntax.{w128}
use Rattle.lin_term.specs.Form.{cap}
use Rattle.lin_term.specs.Literal.{residue}
use Rattle.lin_term.proofs.Lowest.{residue_less}
use Rattle.lin_term.proofs.Terms.{word_of, wide_of}
use Rattle.dom_int.proofs.Congruents.{residue_rem}
use Rattle.dom_int.proofs.residue.residue.Goals as goal

pub returns-clause-value : goal.returns-clause-value
returns-clause-value c =
    let fz : SFits w128 c.args.z = c.ranges.z in
    let d : to_z w128 c.args.n ≡ pos c.args.n = wide_of (pos c.args.n) (omega (arith, c.requires.kept)) in
    let R : ℤ = c.rem_euclid.result in
    let r : R ≡ pos (residue c.args.z c.args.n) = c.rem_euclid.ensures.value ∙ ap₂ int_rem_euclid (to_z-of_z fz) d ∙ residue_rem c.args.z c.args.n c.requires.least in
    let l = residue_less c.args.z c.args.n c.requires.least in
    let h : nat_abs R ≤ cap = subst (λ (y : ℤ). nat_abs y ≤ cap) (sym r) (omega (arith, l, c.requires.kept)) in
    ap (λ (y : ℤ). to_z w64 (of_z w64 y)) (wide_of R (omega (arith, h))) ∙ word_of R h ∙ r
