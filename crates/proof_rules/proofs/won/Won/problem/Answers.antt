use Rattle.std.proofs.Common.{subst}
use Rattle.dom_core.specs.Problem.{IsProblem}
use Rattle.proof_rules.specs.Won.{WonGame, IsWon}
use Rattle.proof_rules.proofs.WonLemmas.{won_is_true}
use Rattle.proof_rules.proofs.won.Won.problem.Goals as goal

pub returns-clause-wins : goal.returns-clause-wins
returns-clause-wins g c =
    won_is_true g.D.Domain.SORT c.args.self.now (subst (λ (w : WonGame). IsWon g.D.Domain.SORT w) c.self.view_is c.self.invariant.0)
    (subst (λ (w : WonGame). IsProblem g.D.Domain.SORT w.problem) c.self.view_is c.matrix-kept.ensures.kept)
