use Rattle.std.proofs.Common.{ℕ, ℤ, List, ◌≡◌, ◌+◌, ◌∙◌, [], ◌∷◌, ◌++◌, ap, sym, subst, arith, pos, negsuc, nat_abs, get_or, drop, w64, to_z, of_z}
use Rattle.std.specs.Prelude.{neg_ℤ}
use Rattle.std.proofs.lemmas.List.{drop_all}
use Rattle.smallvec.specs.SmallVec.{SmallVec}
use Rattle.lin_term.specs.Form.{AreTerms}
use Rattle.lin_term.proofs.Terms.{are_more, term_kept}
use Rattle.dom_int.proofs.Numerators.{opposite, opposite_are, opposite_next, opposite_same, word_opposite}
use Rattle.dom_core.proofs.AddingLemmas.{added, added_last}
use Rattle.dom_int.proofs.case.opposite_terms.Goals.{then-term-var+in-Ok, else-term-var}
use Rattle.dom_int.proofs.case.opposite_terms.Goals as goal

pub loop-term-preserved : goal.loop-term-preserved
loop-term-preserved c =
    let i = c.loop-term.invariant in
    let v = c.coefs-term-items.ensures.terms in
    let ts : List (ℕ × ℤ) = c.coefs-term-items.result.now in
    let row : List (ℕ × ℤ) = c.args.row.now.terms in
    let x = c.args.var in
    let k = c.loop-term.term-index in
    let kept = subst (λ (us : List (ℕ × ℤ)). AreTerms 0 (drop k us)) (sym v) i.kept in
    let here = ap (λ (us : List (ℕ × ℤ)). opposite (drop k us) x) v in
    let next = ap (λ (us : List (ℕ × ℤ)). opposite (drop (k + 1) us) x) v in
    elim c.if-term-var.branch [
      | then-term-var+in-Ok w ↦
          let size = term_kept 0 ts k (0, pos 0) (omega arith) c.coefs-term-items.ensures.kept in
          let n = opposite_next ts k x (0, pos 0) (omega arith) kept (λ e. absurd (omega arith)) in
          let new = ap (λ (s : SmallVec (ℕ × ℤ)). s.items) w.terms-is ∙ w.in-Ok.ensures.ok ∙ ap (λ (z : ℤ). c.loop-term.terms.items ++ ((get_or ts k (0, pos 0)).0, z) ∷ []) (word_opposite (get_or ts k (0, pos 0)).1 size) in
          record {
            same = added c.loop-term.terms.items (opposite row x) (opposite (drop (k + 1) row) x) c.if-term-var.terms.items ((get_or ts k (0, pos 0)).0, neg_ℤ (get_or ts k (0, pos 0)).1)
                (ap (λ (us : List (ℕ × ℤ)). c.loop-term.terms.items ++ us) (ap (λ (us : List (ℕ × ℤ)). ((get_or ts k (0, pos 0)).0, neg_ℤ (get_or ts k (0, pos 0)).1) ∷ us) (sym next) ∙ sym n ∙ here) ∙ i.same) new;
            kept = are_more k 1 row i.kept;
          }
      | else-term-var w ↦
          let n = opposite_same ts k x (0, pos 0) (omega arith) (omega arith) in
          record {
            same = ap (λ (s : SmallVec (ℕ × ℤ)). s.items ++ opposite (drop (k + 1) row) x) w.terms-is ∙ ap (λ (us : List (ℕ × ℤ)). c.loop-term.terms.items ++ us) (sym next ∙ sym n ∙ here) ∙ i.same;
            kept = are_more k 1 row i.kept;
          }
    ]

pub returns-clause-kept : goal.returns-clause-kept
returns-clause-kept c =
    let i = c.loop-term.invariant in
    let v = c.coefs-term-items.ensures.terms in
    let row : List (ℕ × ℤ) = c.args.row.now.terms in
    let a = subst (λ (us : List (ℕ × ℤ)). AreTerms 0 us) v c.coefs-term-items.ensures.kept in
    let n = ap (λ (us : List (ℕ × ℤ)). opposite (drop c.loop-term.term-index us) c.args.var) (sym v) ∙ ap (λ (us : List (ℕ × ℤ)). opposite us c.args.var) (drop_all c.loop-term.term-index c.coefs-term-items.result.now c.loop-term-test.false) in
    subst (λ (us : List (ℕ × ℤ)). AreTerms 0 us) (sym (added_last c.loop-term.terms.items (opposite row c.args.var) (opposite (drop c.loop-term.term-index row) c.args.var) n i.same)) (opposite_are 0 row c.args.var a)
