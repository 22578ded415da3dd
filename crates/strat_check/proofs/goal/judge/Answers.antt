use Rattle.std.proofs.Common.{refl}
use Rattle.dom_core.specs.declared.Side.TheVariants as side
use Rattle.dom_core.specs.Problem.{problem_of}
use Rattle.strat_check.proofs.Proving.{judged_verdict}
use Rattle.strat_check.proofs.goal.judge.Goals as goal

pub returns-in-Exists : goal.returns-in-Exists
returns-in-Exists g c =
    judged_verdict g.D.Domain.SORT (problem_of c.args.problem.now) (problem_of c.args.problem.now) c.args.section.now c.in-Claimed.side side.Exists
    c.as_slice-turns.result.now c.in-Claimed.turns c.in-Claimed.tree c.as_slice-proof.result.now c.in-Claimed.proof c.in-Claimed.line c.check_claim.result
    c.in-Claimed.is c.in-Exists.is c.as_slice-turns.ensures c.as_slice-proof.ensures refl c.check_claim.ensures

pub returns-in_ok-dual-in-Forall : goal.returns-in_ok-dual-in-Forall
returns-in_ok-dual-in-Forall g c =
    judged_verdict g.D.Domain.SORT (problem_of c.args.problem.now) (problem_of c.in_ok-dual-in-Forall.dual) c.args.section.now c.in-Claimed.side side.Forall
    c.as_slice-turns.result.now c.in-Claimed.turns c.in-Claimed.tree c.as_slice-proof.result.now c.in-Claimed.proof c.in-Claimed.line c.check_claim-in-Forall.result
    c.in-Claimed.is c.in-Forall.is c.as_slice-turns.ensures c.as_slice-proof.ensures c.in_ok-dual-in-Forall.ensures.value c.check_claim-in-Forall.ensures
