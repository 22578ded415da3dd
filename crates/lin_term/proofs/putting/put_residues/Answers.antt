use Rattle.std.proofs.Common.{ℕ, ℤ, ◌≡◌, ◌∙◌, ◌+ℤ◌, ◌*ℤ◌, ◌≤ℤ◌, pos, nat_abs, ap, sym, subst, arith, w64, SFits, to_z-of_z, to_z, of_z}
use mir.Syntax.{w128}
use Rattle.lin_term.specs.Form.{Form}
use Rattle.lin_term.specs.PutWith.{put_with}
use Rattle.lin_term.specs.Settle.{sum_form, CappedResidues}
use Rattle.lin_term.proofs.Terms.{wide_of, word_of}
use Rattle.lin_term.proofs.PuttingLemmas.{with_is, modulus_is, modulus_least}
use Rattle.lin_term.proofs.putting.put_residues.Goals as goal

pub residue_row-requires-clause-modulus_least : goal.residue_row-requires-clause-modulus_least
residue_row-requires-clause-modulus_least c =
    let fa : SFits w64 c.args.a = c.ranges.a in
    let vv = simp to_z-of_z at c.put_modulus-modulus.ensures.value in
    let modulus : to_z w128 (of_z w128 c.put_modulus-modulus.result) ≡ c.args.a *ℤ pos c.args.d = wide_of c.put_modulus-modulus.result (omega (arith, c.put_modulus-modulus.ensures.size)) ∙ vv in
    subst (λ (z : ℤ). pos 1 ≤ℤ z) (sym modulus) (modulus_least c.args.a c.args.d c.requires.a_least c.requires.d_least)

pub returns : goal.returns
returns c =
    let fc : SFits w64 c.args.c = c.ranges.c in
    let fa : SFits w64 c.args.a = c.ranges.a in
    let fk : SFits w128 c.args.constant = c.ranges.constant in
    let w = word_of c.constant_part.result c.constant_part.ensures.kept ∙ c.constant_part.ensures.value in
    let v = simp to_z-of_z at c.put_constant-constant.ensures.value in
    let k : to_z w128 (of_z w128 c.put_constant-constant.result) ≡ c.args.c *ℤ c.args.constant +ℤ c.args.a *ℤ c.args.row.now.constant = wide_of c.put_constant-constant.result (omega (arith, c.put_constant-constant.ensures.size)) ∙ v ∙ ap (λ (z : ℤ). c.args.c *ℤ c.args.constant +ℤ c.args.a *ℤ z) w in
    let e = with_is c.args.row.now c.args.var c.args.c c.args.a c.args.terms.now c.coefs.result.now c.args.constant (to_z w128 (of_z w128 c.put_constant-constant.result)) c.coefs.ensures.terms k in
    let s : sum_form (to_z w64 (of_z w64 c.args.c)) c.args.terms.now (to_z w64 (of_z w64 c.args.a)) c.coefs.result.now c.args.var (to_z w128 (of_z w128 c.put_constant-constant.result)) ≡ sum_form c.args.c c.args.terms.now c.args.a c.coefs.result.now c.args.var (to_z w128 (of_z w128 c.put_constant-constant.result)) = simp to_z-of_z in
    let vv = simp to_z-of_z at c.put_modulus-modulus.ensures.value in
    let modulus : to_z w128 (of_z w128 c.put_modulus-modulus.result) ≡ c.args.a *ℤ pos c.args.d = wide_of c.put_modulus-modulus.result (omega (arith, c.put_modulus-modulus.ensures.size)) ∙ vv in
    let m = ap nat_abs modulus ∙ modulus_is c.args.a c.args.d c.requires.a_least in
    subst (λ (n : ℕ). CappedResidues n (put_with c.args.row.now c.args.var c.args.c c.args.a (record { terms = c.args.terms.now; constant = c.args.constant })) c.residue_row.result) m
    (subst (λ (f : Form). CappedResidues (nat_abs (to_z w128 (of_z w128 c.put_modulus-modulus.result))) f c.residue_row.result) (s ∙ e) c.residue_row.ensures)
