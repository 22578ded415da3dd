use Rattle.std.proofs.Common.{ℤ, ◌≡◌, ◌∙◌, pos, negsuc, nat_abs, arith, ap, refl, w64, SFits, to_z, of_z, to_z-of_z}
use mir.Syntax.{w128}
use Rattle.lin_term.specs.Form.{Form}
use Rattle.lin_term.specs.PutIn.{coef}
use Rattle.lin_term.proofs.Terms.{word_of}
use Rattle.dom_core.specs.Elimination.{size_at}
use Rattle.dom_core.proofs.Bounding.{lower_coef, wide_word}
use Rattle.dom_core.proofs.Shifting.{lower_made}
use Rattle.dom_core.proofs.shifted.above_lower.Goals as goal

pub returns-in-Ok : goal.returns-in-Ok
returns-in-Ok c = λ k z e.
    let x = c.args.var in
    let l = c.args.lit.now in
    let A : ℤ = c.coefficient_at-a.result in
    let s = c.coefficient_at-a.ensures.size in
    let q = c.coefficient_at-a.ensures.value ∙ ap (λ (f : Form). coef f.terms x) c.row.ensures in
    let fc : SFits w128 c.args.c = c.ranges.c in
    let size : nat_abs (to_z w128 (of_z w128 (to_z w64 (of_z w64 A)))) ≡ size_at x l =
    ap (λ (y : ℤ). nat_abs y) (ap (λ (y : ℤ). to_z w128 (of_z w128 y)) (word_of A s) ∙ wide_word A (omega (arith, s)) ∙ (lower_coef x l A c.requires.lower q).0) in
    lower_made c.args.sort x l c.in-Ok.rest (negsuc 0) (pos 0) (to_z w128 (of_z w128 c.args.c)) (nat_abs (to_z w128 (of_z w128 (to_z w64 (of_z w64 A))))) k z c.from_wide.result c.in-Ok.ensures refl refl size (to_z-of_z fc ∙ e) c.from_wide.ensures
