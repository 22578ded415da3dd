use Rattle.std.specs.Prelude.{negsuc}
use Rattle.std.proofs.Common.{◌≡◌, ◌++◌, drop, take}
use Rattle.lin_term.specs.Linear.{times_terms}
use Rattle.lin_term.proofs.primitive_form.negate_all.Given as goal

abbrev pub invariant-loop-term : goal.invariant-loop-term
invariant-loop-term l = l.coefs ≡ times_terms (negsuc 0) (take l.term-index l.initial.coefs) ++ drop l.term-index l.initial.coefs
