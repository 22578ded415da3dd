use Rattle.std.proofs.Common.{◌∙◌, ap}
use Rattle.lin_term.specs.Form.{Form}
use Rattle.dom_core.proofs.Shifting.{few_where, rest_taken}
use Rattle.dom_core.proofs.shifted.rest_row.Goals as goal

pub with-requires-clause-few : goal.with-requires-clause-few
with-requires-clause-few c =
    few_where c.args.var c.args.lit.now c.coefs-terms.result.now (c.coefs-terms.ensures.terms ∙ ap (λ (f : Form). f.terms) c.row-row.ensures) c.coefs-terms.ensures.kept c.requires

pub returns-in-Ok : goal.returns-in-Ok
returns-in-Ok c = rest_taken c.with.result c.args.lit.now c.in-Ok.copy c.args.var (c.in-Ok.ensures ∙ c.row-row.ensures) c.with.ensures
