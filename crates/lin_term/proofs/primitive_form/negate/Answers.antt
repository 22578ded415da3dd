use Rattle.std.proofs.Common.{subst, sym}
use Rattle.lin_term.specs.Literal.{neg, IsPrimitive}
use Rattle.lin_term.specs.Wide.{Capped, lit_numbers}
use Rattle.lin_term.proofs.Residues.{neg_divides, neg_not_divides}
use Rattle.lin_term.proofs.primitive_form.negate.Goals as goal

pub returns-in-Divides : goal.returns-in-Divides
returns-in-Divides c =
    let p = subst (λ l. IsPrimitive c.args.sort l) c.in-Divides.is c.requires in
    subst (λ l. Capped (lit_numbers (neg c.args.sort l)) (neg c.args.sort l) c.not_divides.result) (sym c.in-Divides.is)
    (neg_divides c.args.sort c.in-Divides.d c.in-Divides.row c.not_divides.result p (c.not_divides.ensures c.in-Divides.d c.in-Divides.row c.kept_residues.ensures))

pub returns-in-NotDivides : goal.returns-in-NotDivides
returns-in-NotDivides c =
    let p = subst (λ l. IsPrimitive c.args.sort l) c.in-NotDivides.is c.requires in
    subst (λ l. Capped (lit_numbers (neg c.args.sort l)) (neg c.args.sort l) c.divides.result) (sym c.in-NotDivides.is)
    (neg_not_divides c.args.sort c.in-NotDivides.d c.in-NotDivides.row c.divides.result p (c.divides.ensures c.in-NotDivides.d c.in-NotDivides.row c.kept_residues-in-NotDivides.ensures))
