use Rattle.std.proofs.Common.{subst, sym}
use Rattle.lin_term.specs.Linear.{Int}
use Rattle.lin_term.specs.Literal.{prim, whole_form, minus_one}
use Rattle.lin_term.specs.Wide.{Capped, lit_numbers}
use Rattle.lin_term.proofs.primitive_form.primitive_in_int.Goals as goal

pub returns-in-AtLeast : goal.returns-in-AtLeast
returns-in-AtLeast c =
    subst (λ l. Capped (lit_numbers (prim Int l)) (prim Int l) c.at_least.result) (sym c.in-AtLeast.is) (c.at_least.ensures (whole_form c.in-AtLeast.row) c.whole.ensures)

pub returns-in-Above : goal.returns-in-Above
returns-in-Above c =
    subst (λ l. Capped (lit_numbers (prim Int l)) (prim Int l) c.at_least-in-Above.result) (sym c.in-Above.is) (c.at_least-in-Above.ensures (whole_form (minus_one c.in-Above.row)) c.whole_less_one.ensures)

pub returns-in-Divides : goal.returns-in-Divides
returns-in-Divides c =
    subst (λ l. Capped (lit_numbers (prim Int l)) (prim Int l) c.divides.result) (sym c.in-Divides.is) (c.divides.ensures c.in-Divides.d c.in-Divides.row c.reduced.ensures)

pub returns-in-NotDivides : goal.returns-in-NotDivides
returns-in-NotDivides c =
    subst (λ l. Capped (lit_numbers (prim Int l)) (prim Int l) c.not_divides.result) (sym c.in-NotDivides.is) (c.not_divides.ensures c.in-NotDivides.d c.in-NotDivides.row c.reduced-in-NotDivides.ensures)
