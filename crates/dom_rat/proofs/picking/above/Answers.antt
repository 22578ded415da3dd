use Rattle.std.proofs.Common.{ℤ, ◌≡◌, ◌∙◌, pos, arith, ap, w64, to_z, of_z}
use mir.Syntax.{w128}
use Rattle.lin_term.specs.Form.{Form}
use Rattle.lin_term.specs.PutIn.{coef}
use Rattle.lin_term.proofs.Terms.{word_of}
use Rattle.dom_core.specs.Elimination.{size_at}
use Rattle.dom_core.proofs.Bounding.{lower_coef, wide_word}
use Rattle.dom_rat.proofs.Units.{once_more}
use Rattle.dom_rat.proofs.picking.above.Goals as goal

pub returns : goal.returns
returns c =
    let x = c.args.var in
    let l = c.args.low.now in
    let A : ℤ = c.coefficient_at-a.result in
    let s = c.coefficient_at-a.ensures.size in
    let q = c.coefficient_at-a.ensures.value ∙ ap (λ (f : Form). coef f.terms x) c.row.ensures in
    let w = ap (λ (y : ℤ). to_z w128 (of_z w128 y)) (word_of A s) ∙ wide_word A (omega (arith, s)) in
    c.above_lower.ensures 0 (pos 1) (w ∙ (lower_coef x l A c.requires q).0 ∙ once_more (size_at x l))
