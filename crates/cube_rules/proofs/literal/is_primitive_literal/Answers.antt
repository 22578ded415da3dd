use Rattle.std.proofs.Common.{◌≡◌, sym, subst}
use Rattle.std.specs.Prelude.{Some}
use Rattle.lin_term.specs.declared.Lit.{Lit}
use Rattle.lin_term.specs.Literal.{prim}
use Rattle.lin_term.specs.Wide.{first_past, lit_numbers}
use Rattle.cube_rules.proofs.Comparing.{past_no_primitive, past_of}
use Rattle.cube_rules.proofs.literal.is_primitive_literal.Goals as goal

pub returns-in-Err-Fault : goal.returns-in-Err-Fault
returns-in-Err-Fault c =
    let form : Lit = prim c.args.sort c.in_ok-copy.field-0 in
    let past = past_of (lit_numbers form) form c.in-Err-Fault.field-0 c.in-Err-Fault.field-0-0 c.in-Err-Fault.ensures c.in-Err-Fault.field-0-is in
    sym (past_no_primitive c.args.sort c.args.lit.now c.in-Err-Fault.field-0-0.number c.requires.kept (subst (λ (l : Lit). first_past (lit_numbers (prim c.args.sort l)) ≡ Some c.in-Err-Fault.field-0-0.number) c.in_ok-copy.ensures past))
