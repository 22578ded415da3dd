use Rattle.simcheck.proofs.Telling.{run_heard, sat_heard, unsat_heard, others_heard, accepted_heard}
use Rattle.simcheck.proofs.run.check_run.Goals as goal

pub returns-clause-sat : goal.returns-clause-sat
returns-clause-sat g c script file text t =
    let e = c.answer_and_print.ensures in
    sat_heard script file text (run_heard _ _ _ _ c.answer_and_print.result e.answer e.nothing e.part e.memory script file text t)

pub returns-clause-unsat : goal.returns-clause-unsat
returns-clause-unsat g c script file text t =
    let e = c.answer_and_print.ensures in
    unsat_heard script file text (run_heard _ _ _ _ c.answer_and_print.result e.answer e.nothing e.part e.memory script file text t)

pub returns-clause-others : goal.returns-clause-others
returns-clause-others g c script file text t =
    let e = c.answer_and_print.ensures in
    others_heard script file text (run_heard _ _ _ _ c.answer_and_print.result e.answer e.nothing e.part e.memory script file text t)

pub returns-clause-accepted : goal.returns-clause-accepted
returns-clause-accepted g c is script file text t =
    accepted_heard _ _ _ _ c.answer_and_print.result (c.answer_and_print.ensures.answer is) script file text t
