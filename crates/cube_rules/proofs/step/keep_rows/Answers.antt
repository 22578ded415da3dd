use Rattle.lin_term.specs.declared.Lit.{Lit}
use Rattle.lin_term.specs.Form.{IsRow}
use Rattle.lin_term.specs.Literal.{form_of}
use Rattle.cube_rules.proofs.Limiting.{all_more, all_done}
use Rattle.cube_rules.proofs.step.keep_rows.Goals as goal

pub loop-lit-preserved : goal.loop-lit-preserved
loop-lit-preserved c =
    all_more (λ (k : Lit). IsRow (form_of k)) c.args.lits.now c.loop-lit.lit-index c.lit-item.result c.loop-lit.invariant c.loop-lit-test.true c.lit-item.is c.keep_row.ensures

pub returns : goal.returns
returns c = all_done (λ (k : Lit). IsRow (form_of k)) c.args.lits.now c.loop-lit.lit-index c.loop-lit.invariant c.loop-lit-test.false
