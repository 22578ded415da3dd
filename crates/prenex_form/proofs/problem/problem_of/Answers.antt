use Rattle.std.proofs.Common.{sym, subst}
use Rattle.lin_term.specs.declared.Sort.{Sort}
use Rattle.lin_truth.specs.Goal.{IsTrueGoal}
use Rattle.lin_truth.specs.Truth.{Same}
use Rattle.dom_core.specs.Problem.{WrittenProblem, IsTrueProblem}
use Rattle.prenex_form.specs.Outcome.{written}
use Rattle.prenex_form.proofs.problem.problem_of.Goals as goal

pub returns-in-Ok-clause-truth : goal.returns-in-Ok-clause-truth
returns-in-Ok-clause-truth g c =
    let p = c.in-Ok.parts in
    subst (λ (P : WrittenProblem). Same (IsTrueGoal c.args.goal.now) (IsTrueProblem g.D.Domain.SORT P)) (sym c.from_parts.ensures)
    (subst (λ (s : Sort). Same (IsTrueGoal c.args.goal.now) (IsTrueProblem s (written p.prefix p.matrix))) c.requires c.in-Ok.ensures.truth)
