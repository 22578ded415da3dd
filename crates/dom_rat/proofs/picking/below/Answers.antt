use Rattle.std.proofs.Common.{ℤ, ◌≡◌, ◌∙◌, negsuc, neg_ℤ, arith, ap, w64, to_z, of_z}
use mir.Syntax.{w128}
use Rattle.lin_term.specs.Form.{Form}
use Rattle.lin_term.specs.PutIn.{coef}
use Rattle.lin_term.proofs.Terms.{word_of}
use Rattle.dom_core.specs.Elimination.{size_at}
use Rattle.dom_core.proofs.Bounding.{upper_coef, wide_word}
use Rattle.dom_rat.proofs.Units.{once_less}
use Rattle.dom_rat.proofs.picking.below.Goals as goal

pub returns : goal.returns
returns c =
    let x = c.args.var in
    let l = c.args.up.now in
    let A : ℤ = c.coefficient_at-c.result in
    let s = c.coefficient_at-c.ensures.size in
    let q = c.coefficient_at-c.ensures.value ∙ ap (λ (f : Form). coef f.terms x) c.row.ensures in
    let w = ap (λ (y : ℤ). to_z w128 (of_z w128 y)) (word_of A s) ∙ wide_word A (omega (arith, s)) in
    c.below_upper.ensures (negsuc 0) (w ∙ once_less A (size_at x l) (upper_coef x l (neg_ℤ A) c.requires (ap neg_ℤ q)).0)
