use Rattle.std.proofs.Common.{ℕ, ◌≤◌, ◌^◌, length, arith, sym, subst}
use Rattle.smt_term.proofs.NumberLemmas.{one-run, two-runs, power-small, power-some}
use Rattle.smt_term.proofs.number.decimal.Goals as goal

pub digits_behind-requires : goal.digits_behind-requires
digits_behind-requires c = one-run (length c.whole_digits-whole.result.now) (omega arith)

pub digits_behind-number-requires : goal.digits_behind-number-requires
digits_behind-number-requires c =
    two-runs c.digits_behind.result (length c.whole_digits-whole.result.now) (length c.fraction_digits-fraction.result.now) c.digits_behind.ensures.small (omega arith)

pub lowest-requires-clause-num_small : goal.lowest-requires-clause-num_small
lowest-requires-clause-num_small c =
    let small = c.digits_behind-number.ensures.small in
    let room = two-runs c.digits_behind.result (length c.whole_digits-whole.result.now) (length c.fraction_digits-fraction.result.now) c.digits_behind.ensures.small (omega arith) in
    omega (arith, small, room)

pub lowest-requires-clause-den_least : goal.lowest-requires-clause-den_least
lowest-requires-clause-den_least c =
    subst (λ (n : ℕ). 1 ≤ n) (sym c.power_of_ten-den.ensures) (power-some (length c.fraction_digits-fraction.result.now))

pub lowest-requires-clause-den_small : goal.lowest-requires-clause-den_small
lowest-requires-clause-den_small c =
    subst (λ (n : ℕ). n ≤ 10 ^ 38) (sym c.power_of_ten-den.ensures) (power-small (length c.fraction_digits-fraction.result.now) (omega arith))
