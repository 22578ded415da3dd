use Rattle.dom_core.specs.declared.Side.TheVariants as side
use Rattle.dom_core.specs.Problem.{problem_of}
use Rattle.strat_check.specs.declared.checked.Checked.TheVariants as checked
use Rattle.strat_check.proofs.Proving.{result_lost, result_accepts, result_unclaimed, result_verdict, accepted_true, accepted_false}
use Rattle.strat_check.proofs.goal.check_goal.Goals as goal

pub returns-clause-accepted : goal.returns-clause-accepted
returns-clause-accepted g c = result_accepts g.D.Domain.SORT (problem_of c.args.problem.now) c.args.section.now c.judge.result c.judge.ensures

pub returns-clause-unclaimed : goal.returns-clause-unclaimed
returns-clause-unclaimed g c = result_unclaimed g.D.Domain.SORT (problem_of c.args.problem.now) c.args.section.now c.judge.result c.judge.ensures

pub returns-clause-sat : goal.returns-clause-sat
returns-clause-sat g c = λ e.
    accepted_true g.D.Domain.SORT (problem_of c.args.problem.now) c.args.section.now c.matrix-kept.ensures.kept.1 c.requires.written
    (result_verdict g.D.Domain.SORT (problem_of c.args.problem.now) c.args.section.now (checked.Accepted side.Exists) c.judge.result c.judge.ensures e)

pub returns-clause-unsat : goal.returns-clause-unsat
returns-clause-unsat g c = λ e.
    accepted_false g.D.Domain.SORT (problem_of c.args.problem.now) c.args.section.now c.matrix-kept.ensures.kept.1 c.requires.written
    (result_verdict g.D.Domain.SORT (problem_of c.args.problem.now) c.args.section.now (checked.Accepted side.Forall) c.judge.result c.judge.ensures e)

pub returns-clause-lost : goal.returns-clause-lost
returns-clause-lost g c = result_lost g.D.Domain.SORT (problem_of c.args.problem.now) c.args.section.now c.judge.result c.matrix-kept.ensures.kept.1 c.judge.ensures
