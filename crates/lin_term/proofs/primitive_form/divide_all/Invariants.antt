use Rattle.std.proofs.Common.{◌≡◌, ◌++◌, drop, take, nat_abs}
use Rattle.lin_term.specs.Literal.{quotient_terms}
use Rattle.lin_term.proofs.primitive_form.divide_all.Given as goal

abbrev pub invariant-loop-term : goal.invariant-loop-term
invariant-loop-term l = l.coefs ≡ quotient_terms (take l.term-index l.initial.coefs) (nat_abs l.g) ++ drop l.term-index l.initial.coefs
