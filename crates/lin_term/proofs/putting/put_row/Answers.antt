use Rattle.std.proofs.Common.{ℤ, ◌≡◌, ◌∙◌, ◌+ℤ◌, ◌*ℤ◌, ap, subst, arith, w64, SFits, to_z-of_z, to_z, of_z}
use mir.Syntax.{w128}
use Rattle.lin_term.specs.Form.{Form}
use Rattle.lin_term.specs.Settle.{sum_form, settled}
use Rattle.lin_term.specs.Wide.{Capped, form_numbers}
use Rattle.lin_term.proofs.Terms.{wide_of, word_of}
use Rattle.lin_term.proofs.PuttingLemmas.{with_is}
use Rattle.lin_term.proofs.putting.put_row.Goals as goal

pub returns : goal.returns
returns c =
    let fc : SFits w64 c.args.c = c.ranges.c in
    let fa : SFits w64 c.args.a = c.ranges.a in
    let fk : SFits w128 c.args.constant = c.ranges.constant in
    let w = word_of c.constant_part.result c.constant_part.ensures.kept ∙ c.constant_part.ensures.value in
    let v = simp to_z-of_z at c.put_constant-constant.ensures.value in
    let k : to_z w128 (of_z w128 c.put_constant-constant.result) ≡ c.args.c *ℤ c.args.constant +ℤ c.args.a *ℤ c.args.row.now.constant = wide_of c.put_constant-constant.result (omega (arith, c.put_constant-constant.ensures.size)) ∙ v ∙ ap (λ (z : ℤ). c.args.c *ℤ c.args.constant +ℤ c.args.a *ℤ z) w in
    let e = with_is c.args.row.now c.args.var c.args.c c.args.a c.args.terms.now c.coefs.result.now c.args.constant (to_z w128 (of_z w128 c.put_constant-constant.result)) c.coefs.ensures.terms k in
    let s : sum_form (to_z w64 (of_z w64 c.args.c)) c.args.terms.now (to_z w64 (of_z w64 c.args.a)) c.coefs.result.now c.args.var (to_z w128 (of_z w128 c.put_constant-constant.result)) ≡ sum_form c.args.c c.args.terms.now c.args.a c.coefs.result.now c.args.var (to_z w128 (of_z w128 c.put_constant-constant.result)) = simp to_z-of_z in
    subst (λ (f : Form). Capped (form_numbers (settled c.args.sort f)) (settled c.args.sort f) c.sum_row.result) (s ∙ e) c.sum_row.ensures
