use Rattle.std.specs.Prelude.{◌+◌}
use Rattle.std.proofs.Common.{◌∙◌}
use Rattle.dom_core.specs.Problem.{problem_of}
use Rattle.game_tree.specs.View.{skeleton_of}
use Rattle.lose_system.proofs.Tabled.{IfOk_with}
use Rattle.strat_check.proofs.Proving.{claim_skeleton, claim_judged, claim_room, turns_same, none_found}
use Rattle.strat_check.proofs.goal.check_claim.Goals as goal

pub check_proof-requires-clause-skeleton : goal.check_proof-requires-clause-skeleton
check_proof-requires-clause-skeleton g c =
    claim_skeleton g.D.Domain.SORT (problem_of c.args.problem.now) c.args.turns.now c.args.tree.now (c.args.line + 2)
    (turns_same c.args.turns.now c.prefix.result.now c.args.problem.now.prefix c.fit.result c.prefix.ensures c.fit.ensures c.if-not-fit.false) c.requires.follows
    (none_found (skeleton_of c.args.tree.now) g.D.Domain.SORT c.SORT.result (c.args.line + 2) c.bad_line.result c.SORT.ensures c.bad_line.ensures.bad c.in_default.is)

pub check_proof-requires-clause-room : goal.check_proof-requires-clause-room
check_proof-requires-clause-room g c =
    claim_room g.D.Domain.SORT (skeleton_of c.args.tree.now) c.args.proof.now c.args.line c.bad_line.new.at.line c.requires.line c.requires.short c.in_default.ensures.line
    (none_found (skeleton_of c.args.tree.now) g.D.Domain.SORT c.SORT.result (c.args.line + 2) c.bad_line.result c.SORT.ensures c.bad_line.ensures.bad c.in_default.is)

pub returns : goal.returns
returns g c =
    IfOk_with c.check_proof.result
    (λ x e. e ∙ claim_judged g.D.Domain.SORT (problem_of c.args.problem.now) c.args.owner c.args.turns.now (skeleton_of c.args.tree.now) c.args.proof.now c.args.line c.bad_line.new.at.line
    (turns_same c.args.turns.now c.prefix.result.now c.args.problem.now.prefix c.fit.result c.prefix.ensures c.fit.ensures c.if-not-fit.false)
    (none_found (skeleton_of c.args.tree.now) g.D.Domain.SORT c.SORT.result (c.args.line + 2) c.bad_line.result c.SORT.ensures c.bad_line.ensures.bad c.in_default.is)
    c.in_default.ensures.line)
    c.check_proof.ensures
