use Rattle.std.proofs.Common.{ℕ, ℤ, List, ◌+◌, ◌∙◌, ap, sym, subst, arith, pos, drop}
use Rattle.lin_term.specs.Form.{AreTerms}
use Rattle.lin_term.specs.PutIn.{coef}
use Rattle.lin_term.proofs.Terms.{are_more, term_word}
use Rattle.lin_term.proofs.Coefficients.{coef_here, coef_less, coef_next}
use Rattle.lin_term.proofs.coefficient.coefficient_at.Goals as goal

pub returns-then-term-var-clause-value : goal.returns-then-term-var-clause-value
returns-then-term-var-clause-value c =
    let i = c.loop-term.invariant in
    let v = c.coefs-term-items.ensures.terms in
    let ts = c.coefs-term-items.result.now in
    let n = c.loop-term.term-index in
    let row = c.coefs-term-items.ensures.kept in
    let kept = subst (λ (us : List (ℕ × ℤ)). AreTerms 0 (drop n us)) (sym v) i.kept in
    term_word 0 ts n (0, pos 0) (omega arith) row
    ∙ sym (coef_here ts n c.args.var (0, pos 0) (omega arith) kept (omega arith)) ∙ ap (λ us. coef (drop n us) c.args.var) v ∙ i.same

pub returns-then-term-var-2-clause-value : goal.returns-then-term-var-2-clause-value
returns-then-term-var-2-clause-value c =
    let i = c.loop-term.invariant in
    let v = c.coefs-term-items.ensures.terms in
    let ts = c.coefs-term-items.result.now in
    let n = c.loop-term.term-index in
    let kept = subst (λ (us : List (ℕ × ℤ)). AreTerms 0 (drop n us)) (sym v) i.kept in
    sym (coef_less ts n c.args.var (0, pos 0) (omega arith) kept (omega arith)) ∙ ap (λ us. coef (drop n us) c.args.var) v ∙ i.same

pub loop-term-preserved : goal.loop-term-preserved
loop-term-preserved c =
    let i = c.loop-term.invariant in
    let v = c.coefs-term-items.ensures.terms in
    let ts = c.coefs-term-items.result.now in
    let k = c.loop-term.term-index in
    let n = coef_next ts k c.args.var (0, pos 0) (omega arith) (λ e. absurd (omega arith)) in
    record {
      same = sym (ap (λ us. coef (drop (k + 1) us) c.args.var) v) ∙ sym n ∙ ap (λ us. coef (drop k us) c.args.var) v ∙ i.same;
      kept = are_more k 1 c.args.row.now.terms i.kept;
    }
