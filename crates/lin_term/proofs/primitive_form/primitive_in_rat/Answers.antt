use Rattle.std.proofs.Common.{subst, sym}
use Rattle.lin_term.specs.Linear.{Rat}
use Rattle.lin_term.specs.Literal.{prim, quotient, divisor}
use Rattle.lin_term.specs.Wide.{Capped, lit_numbers}
use Rattle.lin_term.proofs.primitive_form.primitive_in_rat.Goals as goal

pub returns-in-AtLeast : goal.returns-in-AtLeast
returns-in-AtLeast c =
    subst (λ l. Capped (lit_numbers (prim Rat l)) (prim Rat l) c.at_least.result) (sym c.in-AtLeast.is) (c.at_least.ensures (quotient c.in-AtLeast.row (divisor Rat c.in-AtLeast.row)) c.divided_in_rat.ensures)

pub returns-in-Above : goal.returns-in-Above
returns-in-Above c =
    subst (λ l. Capped (lit_numbers (prim Rat l)) (prim Rat l) c.above.result) (sym c.in-Above.is) (c.above.ensures (quotient c.in-Above.row (divisor Rat c.in-Above.row)) c.divided_in_rat-in-Above.ensures)
