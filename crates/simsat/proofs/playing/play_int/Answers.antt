use Rattle.std.proofs.Common.{rules, arith, map, length, List, ap, sym, subst, refl}
use Rattle.lin_term.specs.declared.Sort.TheVariants.{Int}
use Rattle.dom_core.specs.Problem.{problem_of}
use Rattle.solve_texts.specs.declared.Solved.{Solved}
use Rattle.solve_texts.specs.declared.Solved.TheVariants as solved
use Rattle.simsat.specs.Plan.{ArePlayed}
use Rattle.simsat.proofs.Outcomes.{played_next, played_all}
use Rattle.simsat.proofs.playing.play_int.Goals as goal

pub loop-problem-init : goal.loop-problem-init
loop-problem-init c = (subst (λ (xs : List Solved). ArePlayed c.args.rounds Int (map problem_of c.args.problems.items) xs) (sym c.requires.none) tt, ap length c.requires.none, search rules)

pub loop-problem-preserved : goal.loop-problem-preserved
loop-problem-preserved c =
    played_next c.args.rounds Int c.args.problems.items c.loop-problem.yielded c.loop-problem.problem-iterator.rest.items c.next.new.self.rest.items c.loop-problem.outcomes.items c.push.new.self.items c.in-Some.problem
    (solved.Int c.in-Ok.outcome) c.loop-problem.invariant.0 c.loop-problem.invariant.1 c.loop-problem.invariant.2 c.in-Some.ensures.steps.0 (refl, c.in-Ok.ensures.outcome, c.in-Ok.ensures.right) c.in-Ok-push.ensures.items

pub returns-clause-all : goal.returns-clause-all
returns-clause-all c =
    let e = c.loop-problem.problem-iterator.rest.ok.0 in
    let z = c.in-None.ensures.steps.0 in
    played_all c.args.problems.items c.loop-problem.yielded c.loop-problem.problem-iterator.rest.items c.loop-problem.outcomes.items c.loop-problem.invariant.1 c.loop-problem.invariant.2 (omega arith)
