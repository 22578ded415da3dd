use Rattle.simsat.proofs.Fitting.{asked_fits}
use Rattle.simsat.proofs.Telling.{sat_told, unsat_told}
use Rattle.simsat.proofs.run.solve_run_alone.Goals as goal

pub returns-clause-sat : goal.returns-clause-sat
returns-clause-sat g c = sat_told _ c.plan_and_publish.result.status (λ a e. asked_fits _ a e) c.plan_and_publish.ensures

pub returns-clause-unsat : goal.returns-clause-unsat
returns-clause-unsat g c = unsat_told _ c.plan_and_publish.result.status (λ a e. asked_fits _ a e) c.plan_and_publish.ensures
