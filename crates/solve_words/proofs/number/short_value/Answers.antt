use Rattle.std.proofs.Common.{arith, refl, sym, ◌∙◌, get_or}
use Rattle.strat_words.proofs.Numbers.{valued_more}
use Rattle.solve_words.proofs.Digits.{four_digits}
use Rattle.solve_words.proofs.number.short_value.Goals as goal

pub overflow_mul-n : goal.overflow_mul-n
overflow_mul-n c =
    let r = four_digits c.args.word.now c.loop-d.d-index c.loop-d.n (get_or c.args.word.now c.loop-d.d-index 0) c.requires c.loop-d-test.true c.loop-d.invariant refl (sym c.is_ascii_digit.ensures.value ∙ c.if-not-is_ascii_digit.false) in
    omega (arith, r.0)

pub overflow_add-n : goal.overflow_add-n
overflow_add-n c =
    let r = four_digits c.args.word.now c.loop-d.d-index c.loop-d.n (get_or c.args.word.now c.loop-d.d-index 0) c.requires c.loop-d-test.true c.loop-d.invariant refl (sym c.is_ascii_digit.ensures.value ∙ c.if-not-is_ascii_digit.false) in
    omega (arith, r.1, r.2)

pub loop-d-preserved : goal.loop-d-preserved
loop-d-preserved c =
    valued_more c.args.word.now c.loop-d.d-index c.loop-d.n _ (get_or c.args.word.now c.loop-d.d-index 0) c.loop-d-test.true c.loop-d.invariant refl (sym c.is_ascii_digit.ensures.value ∙ c.if-not-is_ascii_digit.false) refl
