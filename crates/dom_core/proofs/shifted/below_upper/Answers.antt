use Rattle.std.proofs.Common.{ℤ, ◌≡◌, ◌∙◌, pos, ◌-ℤ◌, neg_ℤ, nat_abs, arith, ap, subst, refl, w64, SFits, to_z, of_z, to_z-of_z}
use mir.Syntax.{w128}
use Rattle.std.specs.Prelude.{ℕ, List}
use Rattle.std.proofs.lemmas.Int.{ints}
use Rattle.lin_term.specs.Form.{Form, AreTerms}
use Rattle.lin_term.specs.PutIn.{coef}
use Rattle.dom_core.specs.Elimination.{size_at}
use Rattle.dom_core.proofs.Bounding.{upper_coef, wide_word, neg_word}
use Rattle.dom_core.proofs.Shifting.{upper_made}
use Rattle.dom_core.proofs.shifted.below_upper.Goals as goal

pub returns-in-Ok : goal.returns-in-Ok
returns-in-Ok c = λ z e.
    let x = c.args.var in
    let l = c.args.lit.now in
    let A : ℤ = c.coefficient_at-b.result in
    let s = c.coefficient_at-b.ensures.size in
    let q = c.coefficient_at-b.ensures.value ∙ ap (λ (f : Form). coef f.terms x) c.row-row.ensures in
    let fc : SFits w128 c.args.c = c.ranges.c in
    let B : ℤ = to_z w64 (of_z w64 (pos 0 -ℤ to_z w64 (of_z w64 A))) in
    let n : B ≡ neg_ℤ A = neg_word A s in
    let size : nat_abs (to_z w128 (of_z w128 B)) ≡ size_at x l =
    ap (λ (y : ℤ). nat_abs y) (ap (λ (y : ℤ). to_z w128 (of_z w128 y)) n ∙ wide_word (neg_ℤ A) (omega (arith, ints, s)) ∙ (upper_coef x l (neg_ℤ A) c.requires.upper (ap neg_ℤ q)).0) in
    upper_made c.args.sort x l c.in-Ok.rest (pos 1) (pos 0) (to_z w128 (of_z w128 c.args.c)) (nat_abs (to_z w128 (of_z w128 B))) z c.from_wide.result (subst (λ (ts : List (ℕ × ℤ)). AreTerms 0 ts) (c.coefs-terms.ensures.terms ∙ ap (λ (f : Form). f.terms) c.row-row.ensures) c.coefs-terms.ensures.kept) c.in-Ok.ensures refl refl size (to_z-of_z fc ∙ e) c.from_wide.ensures
