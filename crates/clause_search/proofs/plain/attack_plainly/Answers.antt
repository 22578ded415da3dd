use Rattle.std.specs.Prelude.{ℤ, ⊤, List}
use Rattle.cube_elim.specs.Determined.{WideAt}
use Rattle.std.proofs.Common.{◌∙◌, sym, subst}
use Rattle.dom_core.specs.Problem.{problem_of}
use Rattle.game_tree.specs.View.{skeleton_of}
use Rattle.cube_rules.specs.declared.Step.{Step}
use Rattle.proof_rules.specs.Rules.{Refutes}
use Rattle.proof_rules.specs.Writable.{IsWritable}
use Rattle.clause_search.proofs.Answering.{attack_point, attack_wide, attack_refuted, not_refused}
use Rattle.clause_search.proofs.Root.{closed_refutes}
use Rattle.clause_search.proofs.plain.attack_plainly.Goals as goal

pub returns-in-Point : goal.returns-in-Point
returns-in-Point g c = attack_point g.D.Domain.SORT c.args.system.now c.new-lines.result c.search.new.lines c.in_ok-point.field-0 c.in-Point.point c.in-Point.is c.in_ok-point.ensures

pub returns-in-Wide : goal.returns-in-Wide
returns-in-Wide g c = attack_wide g.D.Domain.SORT c.args.system.now c.new-lines.result c.search.new.lines c.in_ok-point.field-0 c.in-Wide.cube c.in-Wide.is (subst (λ (z : ℤ). WideAt g.D.Domain.SORT c.in-Wide.cube.lits z) c.number-wide.ensures.value c.number-wide.ensures.wide) c.in_ok-point.ensures

pub refuted-requires-clause-refutes : goal.refuted-requires-clause-refutes
refuted-requires-clause-refutes g c =
    subst (λ (ls : List Step). Refutes g.D.Domain.SORT (problem_of c.args.system.now.problem) (skeleton_of c.args.system.now.tree) ls) (c.as_slice.ensures ∙ sym c.as_slice-in-Ok.ensures) c.in-Ok.ensures.judged

pub refuted-requires-clause-writable : goal.refuted-requires-clause-writable
refuted-requires-clause-writable g c = subst (λ (ls : List Step). IsWritable ls) (c.as_slice.ensures ∙ sym c.as_slice-in-Ok.ensures) c.in-Ok.ensures.writable

pub unreachable-requires : goal.unreachable-requires
unreachable-requires g c =
    let s = g.D.Domain.SORT in
    let w = c.args.system.now in
    let r = closed_refutes s w c.new-lines.result c.search.new.lines c.new-lines.ensures (attack_refuted s w c.new-lines.result c.search.new.lines c.in_ok-point.field-0 c.in-Refuted.is c.in_ok-point.ensures) in
    not_refused ⊤ s (problem_of w.problem) (skeleton_of w.tree) c.as_slice.result.now c.in-Err-Fault.field-0 c.in-Err-Fault.field-0-0 c.in-Err-Fault.field-0-is c.in-Err-Fault.ensures.judged
    (subst (λ (ls : List Step). Refutes s (problem_of w.problem) (skeleton_of w.tree) ls) (sym c.as_slice.ensures) r)
