use Rattle.std.specs.Prelude.{◌≤◌, ◌≤ℤ◌, pos, Ok, Err}
use Rattle.std.proofs.Common.{arith, sym, subst}
use Rattle.std.proofs.lemmas.Int.{ints}
use Rattle.lin_term.specs.Linear.{Value}
use Rattle.lin_term.specs.Fraction.{lowest_value, value_numbers}
use Rattle.lin_term.specs.Wide.{CappedWide}
use Rattle.lin_truth.proofs.Keeping.{kept-ok, kept-err}
use Rattle.term_table.proofs.ratio.kept.Goals as goal

pub returns-in-Ok : goal.returns-in-Ok
returns-in-Ok c = λ v h.
    let o : 1 ≤ c.in-Ok.x.den = omega (arith, ints, c.den-den.ensures.least, c.den-den.ensures.value) in
    kept-ok v c.in-Ok.x o (subst (λ r. CappedWide (value_numbers (lowest_value v)) (lowest_value v) r) c.in-Ok.is h)

pub returns-in-Err : goal.returns-in-Err
returns-in-Err c = λ v h. kept-err v _ (subst (λ r. CappedWide (value_numbers (lowest_value v)) (lowest_value v) r) c.in-Err.is h)
