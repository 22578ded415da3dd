use Rattle.lin_term.specs.declared.Lit.{Lit}
use Rattle.lin_term.specs.Form.{IsRow}
use Rattle.lin_term.specs.Literal.{form_of}
use Rattle.dom_core.proofs.Reducing.{all_taken}
use Rattle.cube_elim.proofs.lines.read_rows.Goals as goal

pub loop-lit-preserved : goal.loop-lit-preserved
loop-lit-preserved c =
    all_taken (λ (l : Lit). IsRow (form_of l)) c.args.lits.now c.loop-lit.lit-index c.lit-item.result c.loop-lit-test.true c.lit-item.is c.loop-lit.invariant c.read_row.ensures
