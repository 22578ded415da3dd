use Rattle.std.proofs.Common.{arith}
use Rattle.smt_term.proofs.NumberLemmas.{power-room}
use Rattle.smt_term.proofs.number.power_of_ten.Goals as goal

pub overflow_mul-power : goal.overflow_mul-power
overflow_mul-power c = omega (arith, power-room c.loop-i.i (omega arith), c.loop-i.invariant)
