use Rattle.std.proofs.Common.{ℕ, ℤ, ◌≡◌, ◌≤◌, ap, subst, List, sym, ◌∙◌, pos, arith, nat_abs, to_z, of_z, w64, get_or, ◌<◌, length}
use Rattle.lin_term.specs.Linear.{floor_div}
use Rattle.lin_term.specs.Form.{cap}
use Rattle.lin_term.proofs.Quotients.{divide_more, get_divided, abs-floor_div}
use Rattle.lin_term.proofs.Terms.{term_kept, word_of}
use Rattle.lin_term.proofs.primitive_form.divide_all.Goals as goal

pub loop-term-preserved : goal.loop-term-preserved
loop-term-preserved c =
    let ts = c.args.coefs.now in
    let i = c.loop-term.term-index in
    let g = nat_abs (to_z w64 (of_z w64 c.args.g)) in
    let h : i < length ts = omega arith in
    let same : get_or c.loop-term.coefs i (0, pos 0) ≡ get_or ts i (0, pos 0) = ap (λ (xs : List (ℕ × ℤ)). get_or xs i (0, pos 0)) c.loop-term.invariant ∙ get_divided ts g i (0, pos 0) in
    let kept : nat_abs (get_or c.loop-term.coefs i (0, pos 0)).1 ≤ cap = subst (λ (t : ℕ × ℤ). nat_abs t.1 ≤ cap) (sym same) (term_kept 0 ts i (0, pos 0) h c.requires.kept) in
    let value : c.floor_of_words-term.result ≡ floor_div (get_or c.loop-term.coefs i (0, pos 0)).1 g = c.floor_of_words-term.ensures ∙ ap (λ (z : ℤ). floor_div z g) (word_of _ kept) in
    let small : nat_abs c.floor_of_words-term.result ≤ cap = omega (arith, ap nat_abs value, abs-floor_div (get_or c.loop-term.coefs i (0, pos 0)).1 g) in
    divide_more ts c.loop-term.coefs g i (0, pos 0) (to_z w64 (of_z w64 c.floor_of_words-term.result)) h c.loop-term.invariant (word_of _ small ∙ value)
