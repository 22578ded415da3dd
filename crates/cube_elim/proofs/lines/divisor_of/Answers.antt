use Rattle.std.proofs.Common.{ap, ap₂, arith, ◌^◌, ◌∙◌, nat_abs, pos, ◌*ℤ◌, ◌+ℤ◌}
use Rattle.lin_term.specs.Form.{Form}
use Rattle.cube_elim.proofs.SumLines.{divisor_is}
use Rattle.cube_elim.proofs.lines.divisor_of.Goals as goal

pub returns-clause-value : goal.returns-clause-value
returns-clause-value c =
    divisor_is c.args.lower.now c.args.upper.now c.args.p c.args.q c.coefs.result.now c.coefs-2.result.now c.constant_size-start.result c.common_of-common.result c.max.result (2 ^ 20)
    (c.coefs.ensures.terms ∙ ap (λ (f : Form). f.terms) c.row-left.ensures) (c.coefs-2.ensures.terms ∙ ap (λ (f : Form). f.terms) c.row-right.ensures) c.coefs-2.ensures.kept (omega arith)
    (c.constant_size-start.ensures ∙ ap₂ (λ (f g : Form). nat_abs (pos c.args.p *ℤ f.constant +ℤ pos c.args.q *ℤ g.constant)) c.row-left.ensures c.row-right.ensures) c.common_of-common.ensures c.max.ensures
