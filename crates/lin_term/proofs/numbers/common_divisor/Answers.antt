use Rattle.std.proofs.Common.{ℕ, ◌+◌, ◌∙◌, ap, sym, arith, pos, drop, nat_abs}
use Rattle.std.proofs.lemmas.List.{at_drop_all}
use Rattle.lin_term.specs.Literal.{gcd, gcd_terms}
use Rattle.lin_term.proofs.Divisors.{gcd_one, gcd_zero, gcd_more, gcd_terms_drop}
use Rattle.lin_term.proofs.Terms.{term_word}
use Rattle.lin_term.proofs.numbers.common_divisor.Goals as goal

pub returns-then-common-eq1 : goal.returns-then-common-eq1
returns-then-common-eq1 c =
    sym (gcd_one c.loop-term.common (gcd_terms (drop c.loop-term.term-index c.args.coefs.now)) (omega arith)) ∙ c.loop-term.invariant

pub loop-term-preserved : goal.loop-term-preserved
loop-term-preserved c =
    let d = gcd_terms_drop c.args.coefs.now c.loop-term.term-index (0, pos 0) (omega arith) in
    let w = term_word 0 c.args.coefs.now c.loop-term.term-index (0, pos 0) (omega arith) c.requires in
    let e = gcd_more c.loop-term.common c.args.start (gcd_terms c.args.coefs.now) c.unsigned_abs.result (gcd_terms (drop (c.loop-term.term-index + 1) c.args.coefs.now)) in
    ap (λ (n : ℕ). gcd n (gcd_terms (drop (c.loop-term.term-index + 1) c.args.coefs.now))) c.gcd_of_words-common.ensures
    ∙ e (ap (λ (n : ℕ). gcd c.loop-term.common (gcd n (gcd_terms (drop (c.loop-term.term-index + 1) c.args.coefs.now)))) (c.unsigned_abs.ensures.value ∙ ap nat_abs w) ∙ sym (ap (gcd c.loop-term.common) d) ∙ c.loop-term.invariant)

pub returns : goal.returns
returns c =
    let e = at_drop_all gcd_terms c.args.coefs.now c.loop-term.term-index (omega arith) in
    sym (gcd_zero c.loop-term.common (gcd_terms (drop c.loop-term.term-index c.args.coefs.now)) e) ∙ c.loop-term.invariant
