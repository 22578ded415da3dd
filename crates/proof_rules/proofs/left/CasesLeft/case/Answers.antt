use Rattle.dom_core.specs.Elimination.{cube_numbers}
use Rattle.dom_int.specs.Case.{case_at}
use Rattle.proof_rules.proofs.LeftLemmas.{case_primitive, case_fits, no_fault}
use Rattle.proof_rules.proofs.left.CasesLeft.case.Goals as goal

pub unreachable-requires : goal.unreachable-requires
unreachable-requires c =
    let e = c.self.inside in
    let i = c.self.invariant in
    no_fault (cube_numbers (case_at e.elimination.cube e.elimination.variable e.next)) (case_at e.elimination.cube e.elimination.variable e.next) c.in-Err-Fault.field-0 c.in-Err-Fault.field-0-0
    (case_fits e.elimination.cube e.elimination.variable e.next i.fits i.some) c.in-Err-Fault.ensures.value c.in-Err-Fault.field-0-is

pub returns-in-Ok-clause-primitive : goal.returns-in-Ok-clause-primitive
returns-in-Ok-clause-primitive c =
    let e = c.self.inside in
    case_primitive e.elimination.cube c.in-Ok.case e.elimination.variable e.next c.self.invariant.primitive c.in-Ok.ensures.value.1 c.in-Ok.ensures.value.0
