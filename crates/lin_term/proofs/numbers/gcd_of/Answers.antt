use Rattle.std.proofs.Common.{arith, ◌∙◌}
use Rattle.lin_term.proofs.Divisors.{gcd_step, gcd_zero}
use Rattle.lin_term.proofs.numbers.gcd_of.Goals as goal

pub loop-y-preserved : goal.loop-y-preserved
loop-y-preserved c = grind (arith, gcd_step)

pub returns-then-y-eq0 : goal.returns-then-y-eq0
returns-then-y-eq0 c = grind (arith, gcd_zero)

pub returns : goal.returns
returns c = c.gcd_of_words-2.ensures ∙ gcd_step c.loop-y.x c.loop-y.y ∙ c.loop-y.invariant
