use Rattle.std.proofs.Common.{◌∙◌, ap, [], List}
use Rattle.lin_term.specs.declared.Lit.{Lit}
use Rattle.dom_core.specs.PutMove.{with_new}
use Rattle.dom_core.proofs.Distincts.{new_past}
use Rattle.dom_core.proofs.distinct.distinct_cube.Goals as goal

pub returns-in-Ok : goal.returns-in-Ok
returns-in-Ok c =
    (new_past [] c.args.lits ∙ c.requires, c.from_lits.ensures ∙ c.in-Ok.ensures ∙ ap (λ (us : List Lit). with_new us c.args.lits) c.new.ensures)
