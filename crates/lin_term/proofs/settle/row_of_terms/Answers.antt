use Rattle.std.proofs.Common.{subst}
use Rattle.lin_term.specs.Items.{CappedTerms}
use Rattle.lin_term.proofs.Settling.{form_wide}
use Rattle.lin_term.proofs.settle.row_of_terms.Goals as goal

pub returns-in-Err : goal.returns-in-Err
returns-in-Err c = λ ts h. form_wide ts c.args.constant c.in-Err.fault (subst (λ r. CappedTerms ts r) c.in-Err.is h)
