use Rattle.std.specs.Prelude.{◌-ℤ◌}
use Rattle.std.proofs.Common.{ℕ, ℤ, ◌≡◌, ◌≤◌, ap, List, ◌∙◌, pos, arith, nat_abs, to_z, of_z, w64, get_or, ◌<◌, length}
use Rattle.std.proofs.lemmas.Int.{ints}
use Rattle.lin_term.specs.Form.{cap}
use Rattle.lin_term.proofs.Negating.{negate_more, get_negated}
use Rattle.lin_term.proofs.Terms.{term_kept, word_of}
use Rattle.lin_term.proofs.primitive_form.negate_all.Goals as goal

same : (ts us vs : List (ℕ × ℤ)) (i : ℕ) → us ≡ vs → get_or vs i (0, pos 0) ≡ get_or ts i (0, pos 0) → nat_abs (get_or ts i (0, pos 0)).1 ≤ cap → to_z w64 (of_z w64 (get_or us i (0, pos 0)).1) ≡ (get_or ts i (0, pos 0)).1
same ts us vs i e f h =
    let k : get_or us i (0, pos 0) ≡ get_or ts i (0, pos 0) = ap (λ (xs : List (ℕ × ℤ)). get_or xs i (0, pos 0)) e ∙ f in
    ap (λ (t : ℕ × ℤ). to_z w64 (of_z w64 t.1)) k ∙ word_of (get_or ts i (0, pos 0)).1 h

pub overflow_sub-term : goal.overflow_sub-term
overflow_sub-term c =
    let ts = c.args.coefs.now in
    let i = c.loop-term.term-index in
    let h : i < length ts = omega arith in
    let k = term_kept 0 ts i (0, pos 0) h c.requires in
    let s = same ts c.loop-term.coefs _ i c.loop-term.invariant (get_negated 0 ts i (0, pos 0) c.requires) k in
    omega (arith, ints)

pub loop-term-preserved : goal.loop-term-preserved
loop-term-preserved c =
    let ts = c.args.coefs.now in
    let i = c.loop-term.term-index in
    let h : i < length ts = omega arith in
    let k = term_kept 0 ts i (0, pos 0) h c.requires in
    let s = same ts c.loop-term.coefs _ i c.loop-term.invariant (get_negated 0 ts i (0, pos 0) c.requires) k in
    let y : ℤ = (get_or ts i (0, pos 0)).1 in
    let b : nat_abs (pos 0 -ℤ y) ≤ cap = (let e : nat_abs (pos 0 -ℤ y) ≡ nat_abs y = omega (arith, ints) in omega arith) in
    negate_more ts c.loop-term.coefs i (0, pos 0) _ h c.requires c.loop-term.invariant (ap (λ (z : ℤ). to_z w64 (of_z w64 (pos 0 -ℤ z))) s ∙ word_of (pos 0 -ℤ y) b)
