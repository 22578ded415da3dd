use Rattle.std.proofs.Common.{ℕ, ℤ, ◌≡◌, ◌∙◌, ◌*◌, pos, ◌-ℤ◌, neg_ℤ, nat_abs, ap, ap₂, refl, w64, to_z, of_z}
use mir.Syntax.{w128}
use Rattle.lin_term.specs.Form.{Form}
use Rattle.lin_term.specs.PutIn.{coef}
use Rattle.lin_term.proofs.Terms.{word_of, two_words}
use Rattle.dom_core.specs.Elimination.{size_at}
use Rattle.dom_core.proofs.Bounding.{lower_coef, upper_coef, neg_word}
use Rattle.dom_core.proofs.Shifting.{middle_made}
use Rattle.dom_rat.proofs.Units.{turned_back}
use Rattle.dom_rat.proofs.picking.middle.Goals as goal

pub returns : goal.returns
returns c =
    let x = c.args.var in
    let l = c.args.low.now in
    let u = c.args.up.now in
    let A : ℤ = c.coefficient_at-a.result in
    let B : ℤ = c.coefficient_at-b.result in
    let T : ℤ = c.twice_product.result in
    let s = c.coefficient_at-a.ensures.size in
    let t = c.coefficient_at-b.ensures.size in
    let q = c.coefficient_at-a.ensures.value ∙ ap (λ (f : Form). coef f.terms x) c.row.ensures in
    let r = c.coefficient_at-b.ensures.value ∙ ap (λ (f : Form). coef f.terms x) c.row-2.ensures in
    let a : A ≡ pos (size_at x l) = (lower_coef x l A c.requires.lower q).0 in
    let b : neg_ℤ B ≡ pos (size_at x u) = (upper_coef x u (neg_ℤ B) c.requires.upper (ap neg_ℤ r)).0 in
    let d : nat_abs (to_z w128 (of_z w128 T)) ≡ 2 * (size_at x l * size_at x u) =
    ap (λ (y : ℤ). nat_abs y) (two_words T c.twice_product.type_inv ∙ c.twice_product.ensures.value)
    ∙ ap₂ (λ (m n : ℕ). 2 * (m * n)) (ap (λ (y : ℤ). nat_abs y) (word_of A s ∙ a)) (ap (λ (y : ℤ). nat_abs y) (neg_word B t ∙ b)) in
    middle_made x l u c.in-Ok.left c.in-Ok-rest_row.right (to_z w64 (of_z w64 B)) (to_z w64 (of_z w64 A)) (pos 0) (nat_abs (to_z w128 (of_z w128 T))) c.from_wide.result
    c.in-Ok.ensures c.in-Ok-rest_row.ensures (word_of B t ∙ turned_back B (size_at x u) b) (word_of A s ∙ a) refl d c.from_wide.ensures
