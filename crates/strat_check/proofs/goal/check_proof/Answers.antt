use Rattle.std.specs.Prelude.{◌+◌}
use Rattle.strat_check.proofs.Proving.{proof_accepted, found_bad, bad_room}
use Rattle.strat_check.proofs.goal.check_proof.Goals as goal

pub returns-in-Ok : goal.returns-in-Ok
returns-in-Ok g c =
    proof_accepted g.D.Domain.SORT c.args.problem.now c.args.tree.now c.in_ok-system.system c.args.proof.now c.args.owner (c.args.count_line + 1) c.in_ok-system.ensures c.in-Ok.ensures.judged

pub rejected_at-requires : goal.rejected_at-requires
rejected_at-requires g c =
    bad_room g.D.Domain.SORT c.args.problem.now c.args.tree.now c.args.proof.now c.args.count_line c.in-Fault.bad c.requires.room
    (found_bad g.D.Domain.SORT c.args.problem.now c.args.tree.now c.in_ok-system.system c.args.proof.now c.in-Err.short c.in-Fault.bad c.in_ok-system.ensures c.in-Err.ensures.judged c.in-Fault.is)
