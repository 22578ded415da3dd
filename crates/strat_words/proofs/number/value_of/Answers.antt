use Rattle.std.proofs.Common.{arith, rules}
use Rattle.std.proofs.lemmas.Str.Parse.{digits_value-take-le}
use Rattle.std.proofs.lemmas.Int.Digits.{digits_value_more}
use Rattle.strat_words.proofs.Numbers.{value_short, digit_here}
use Rattle.strat_words.proofs.number.value_of.Goals as goal

pub overflow_mul-n : goal.overflow_mul-n
overflow_mul-n c = omega (arith, c.loop-d.invariant, digits_value-take-le 10 c.args.digits.now c.loop-d.d-index (omega arith), value_short c.args.digits.now (search rules) c.requires.short)

pub overflow_add-n : goal.overflow_add-n
overflow_add-n c = omega (arith, c.type_inv.digits c.loop-d.d-index, c.loop-d.invariant, digits_value-take-le 10 c.args.digits.now c.loop-d.d-index (omega arith), value_short c.args.digits.now (search rules) c.requires.short)

pub loop-d-preserved : goal.loop-d-preserved
loop-d-preserved c = omega (arith, c.loop-d.invariant, digits_value_more 10 c.args.digits.now c.loop-d.d-index c.loop-d-test.true, digit_here c.args.digits.now c.loop-d.d-index (search rules) c.loop-d-test.true)
