use Rattle.std.proofs.Common.{◌≡◌, ◌<◌, ◌≤◌, ◌+◌, ◌-◌, ◌*◌, ◌%◌, ◌^◌, ℕ, length, drop, get_or, sym, ap, subst, ◌∙◌, arith}
use Rattle.smt_term.specs.Numeral.{number_behind}
use Rattle.smt_term.proofs.NumberLemmas.{number-step, small-step, room}
use Rattle.smt_term.proofs.number.digits_behind.Goals as goal

pub overflow_mul-n : goal.overflow_mul-n
overflow_mul-n c =
    let k = length c.args.digits.now - c.loop-digit.digit-index in
    let r = room c.loop-digit.n k ((c.args.start + 1) * 10 ^ length c.args.digits.now) (omega (arith, c.loop-digit-test.true)) c.loop-digit.invariant.1 in
    omega (arith, r, c.requires)

pub overflow_add-n : goal.overflow_add-n
overflow_add-n c =
    let k = length c.args.digits.now - c.loop-digit.digit-index in
    let r = room c.loop-digit.n k ((c.args.start + 1) * 10 ^ length c.args.digits.now) (omega (arith, c.loop-digit-test.true)) c.loop-digit.invariant.1 in
    omega (arith, r, c.requires)

pub loop-digit-preserved : goal.loop-digit-preserved
loop-digit-preserved c =
    let n = c.loop-digit.n in
    let i = c.loop-digit.digit-index in
    let ds = c.args.digits.now in
    let k = length ds - (i + 1) in
    let most = (c.args.start + 1) * 10 ^ length ds in
    let digit : c.from.result ≡ (get_or ds i 0 - 48) % 10 = omega arith in
    let low : c.from.result < 10 = omega (arith, digit) in
    let left : length ds - i ≡ k + 1 = omega (arith, c.loop-digit-test.true) in
    let bound : (n + 1) * 10 ^ (k + 1) ≤ most = subst (λ (m : ℕ). (n + 1) * 10 ^ m ≤ most) left c.loop-digit.invariant.1 in (
      ap (λ (d : ℕ). number_behind (n * 10 + d) (drop (i + 1) ds)) digit ∙ sym (number-step n i ds c.loop-digit-test.true) ∙ c.loop-digit.invariant.0,
      small-step n c.from.result k most low bound,
    )
