use Rattle.std.proofs.Common.{◌≡◌, drop}
use Rattle.lin_term.specs.Literal.{gcd, gcd_terms}
use Rattle.lin_term.proofs.numbers.common_divisor.Given as goal

abbrev pub invariant-loop-term : goal.invariant-loop-term
invariant-loop-term l = gcd l.common (gcd_terms (drop l.term-index l.coefs)) ≡ gcd l.fn.start (gcd_terms l.coefs)
