use Rattle.std.proofs.Common.{sym, ◌∙◌}
use Rattle.dom_core.specs.Problem.{problem_of}
use Rattle.game_tree.specs.View.{skeleton_of}
use Rattle.proof_rules.proofs.Checking.{passes_refutes, refutes_passes}
use Rattle.proof_rules.proofs.Refuted.{refuted_is_lost, refuted_is_true}
use Rattle.proof_rules.proofs.FirstBad.{first_of_fault}
use Rattle.proof_rules.proofs.CheckLemmas.{none_some}
use Rattle.proof_rules.proofs.WritableLemmas.{refuted_tree, not_more}
use Rattle.proof_rules.proofs.checker.check.Goals as goal

pub returns-in-Ok-None-clause-judged : goal.returns-in-Ok-None-clause-judged
returns-in-Ok-None-clause-judged g c =
    passes_refutes g.D.Domain.SORT (problem_of c.args.system.now.problem) (skeleton_of c.args.system.now.tree) c.args.proof.now (sym c.in-Ok-None.ensures.value ∙ c.in-Ok-None.field-0-is)

pub returns-in-Ok-None-clause-lost : goal.returns-in-Ok-None-clause-lost
returns-in-Ok-None-clause-lost g c =
    refuted_is_lost g.D.Domain.SORT (problem_of c.args.system.now.problem) (skeleton_of c.args.system.now.tree) c.args.proof.now c.matrix-kept.ensures.kept.1
    (passes_refutes g.D.Domain.SORT (problem_of c.args.system.now.problem) (skeleton_of c.args.system.now.tree) c.args.proof.now (sym c.in-Ok-None.ensures.value ∙ c.in-Ok-None.field-0-is))

pub returns-in-Ok-None-clause-wins : goal.returns-in-Ok-None-clause-wins
returns-in-Ok-None-clause-wins g c =
    refuted_is_true g.D.Domain.SORT (problem_of c.args.system.now.problem) (skeleton_of c.args.system.now.tree) c.args.proof.now c.matrix-kept.ensures.kept.1 c.matrix-kept.ensures.skeleton.follows
    (passes_refutes g.D.Domain.SORT (problem_of c.args.system.now.problem) (skeleton_of c.args.system.now.tree) c.args.proof.now (sym c.in-Ok-None.ensures.value ∙ c.in-Ok-None.field-0-is))

pub returns-in-Ok-None-clause-writable : goal.returns-in-Ok-None-clause-writable
returns-in-Ok-None-clause-writable g c = record {
  steps = c.in-Ok-None.ensures.steps c.in-Ok-None.field-0-is;
  tree = refuted_tree g.D.Domain.SORT (problem_of c.args.system.now.problem) (skeleton_of c.args.system.now.tree) c.args.proof.now
      (passes_refutes g.D.Domain.SORT (problem_of c.args.system.now.problem) (skeleton_of c.args.system.now.tree) c.args.proof.now (sym c.in-Ok-None.ensures.value ∙ c.in-Ok-None.field-0-is));
  count = not_more c.args.proof.now (sym c.is_too_long.ensures ∙ c.if-is_too_long.false);
}

pub returns-in-Ok-Some-clause-judged : goal.returns-in-Ok-Some-clause-judged
returns-in-Ok-Some-clause-judged g c =
    (λ r. none_some c.in-Ok-Some.bad (sym (refutes_passes g.D.Domain.SORT (problem_of c.args.system.now.problem) (skeleton_of c.args.system.now.tree) c.args.proof.now r) ∙ sym c.in-Ok-Some.ensures.value ∙ c.in-Ok-Some.field-0-is), sym c.in-Ok-Some.ensures.value ∙ c.in-Ok-Some.field-0-is)

pub returns-in-Ok-Some-clause-first : goal.returns-in-Ok-Some-clause-first
returns-in-Ok-Some-clause-first g c = λ b e.
    first_of_fault g.D.Domain.SORT (problem_of c.args.system.now.problem) (skeleton_of c.args.system.now.tree) c.args.proof.now c.in-Ok-Some.bad b (sym c.in-Ok-Some.ensures.value ∙ c.in-Ok-Some.field-0-is) e
