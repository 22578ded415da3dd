use Rattle.std.specs.Prelude.{ℤ, pos, get_or, length, drop, ◌≤◌, ◌≡◌, ◌*ℤ◌}
use Rattle.std.proofs.Common.{arith, ap, ap₂, ◌∙◌, sym, ltb-false, ltb-true}
use Rattle.lin_term.specs.Linear.{put_front}
use Rattle.lin_term.specs.Blend.{sum_terms, unless, IsHead}
use Rattle.lin_term.proofs.Terms.{word_of, wide_of, term_kept}
use Rattle.lin_term.proofs.Merging.{left_only, both_sides, head_within, head_at}
use Rattle.lin_term.proofs.blend.find_head.Goals as goal

pub returns-in-len1-up-empty-clause-some : goal.returns-in-len1-up-empty-clause-some
returns-in-len1-up-empty-clause-some c =
    let ts = c.args.left.now in
    let h : 1 ≤ length ts = omega (arith, ltb-false, ltb-true) in
    let none : length c.args.right.now ≡ 0 = omega (arith, ltb-false, ltb-true) in
    let x = (get_or ts 0 (0, pos 0)).1 in
    let value : c.product.result ≡ c.args.p *ℤ x = c.product.ensures.value ∙ ap₂ (λ (a b : ℤ). a *ℤ b) (word_of c.args.p c.requires.p_kept) (word_of x (term_kept 0 ts 0 (0, pos 0) h c.requires.left_kept)) in
    left_only c.args.p ts c.args.q c.args.right.now c.args.skip (0, pos 0) none h c.requires.left_kept
    ∙ sym (ap (λ (z : ℤ). put_front (get_or ts 0 (0, pos 0)).0 z (sum_terms c.args.p (drop 1 ts) c.args.q c.args.right.now c.args.skip)) (wide_of c.product.result (omega (arith, c.product.ensures.size)) ∙ value))

-- the head is that of the two first terms
head : (c : goal.After-head_of_both) → 1 ≤ length c.args.left.now → 1 ≤ length c.args.right.now → IsHead ((get_or c.args.left.now 0 (0, pos 0)).0, c.args.p *ℤ (get_or c.args.left.now 0 (0, pos 0)).1) ((get_or c.args.right.now 0 (0, pos 0)).0, c.args.q *ℤ unless c.args.skip (get_or c.args.right.now 0 (0, pos 0))) c.head_of_both.result.var c.head_of_both.result.coef c.head_of_both.result.left c.head_of_both.result.right
head c h k =
    let ts = c.args.left.now in
    let us = c.args.right.now in
    let x = (get_or ts 0 (0, pos 0)).1 in
    let y = get_or us 0 (0, pos 0) in
    let px = c.product-in-len1-up-len1-up in
    let qy = c.product_unless-in-len1-up-len1-up in
    let vx : px.result ≡ c.args.p *ℤ x = px.ensures.value ∙ ap₂ (λ (a b : ℤ). a *ℤ b) (word_of c.args.p c.requires.p_kept) (word_of x (term_kept 0 ts 0 (0, pos 0) h c.requires.left_kept)) in
    let vy : qy.result ≡ c.args.q *ℤ unless c.args.skip y = qy.ensures.value ∙ ap (λ (a : ℤ). a *ℤ unless c.args.skip y) (word_of c.args.q c.requires.q_kept) in
    head_at (get_or ts 0 (0, pos 0)).0 y.0 c.head_of_both.result.var c.head_of_both.result.coef c.head_of_both.result.left c.head_of_both.result.right _ _ _ _ (wide_of px.result (omega (arith, px.ensures.size)) ∙ vx) (wide_of qy.result (omega (arith, qy.ensures.size)) ∙ vy) c.head_of_both.ensures.head

pub returns-in-len1-up-len1-up-clause-some : goal.returns-in-len1-up-len1-up-clause-some
returns-in-len1-up-len1-up-clause-some c =
    let h : 1 ≤ length c.args.left.now = omega (arith, ltb-false, ltb-true) in
    let k : 1 ≤ length c.args.right.now = omega (arith, ltb-false, ltb-true) in
    both_sides c.args.p c.args.left.now c.args.q c.args.right.now c.args.skip (0, pos 0) c.head_of_both.result.var c.head_of_both.result.coef c.head_of_both.result.left c.head_of_both.result.right h k c.requires.left_kept c.requires.right_kept (head c h k)

pub returns-in-len1-up-len1-up-clause-within : goal.returns-in-len1-up-len1-up-clause-within
returns-in-len1-up-len1-up-clause-within c =
    let h : 1 ≤ length c.args.left.now = omega (arith, ltb-false, ltb-true) in
    let k : 1 ≤ length c.args.right.now = omega (arith, ltb-false, ltb-true) in
    let n = head_within _ _ _ _ _ _ (head c h k) in
    (omega (arith, n), omega (arith, n), omega (arith, n))
