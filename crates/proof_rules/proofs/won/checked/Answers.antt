use Rattle.std.proofs.Common.{subst}
use Rattle.dom_core.specs.Problem.{problem_of}
use Rattle.game_tree.specs.View.{skeleton_of}
use Rattle.lose_system.specs.Written.{WrittenSystem}
use Rattle.proof_rules.specs.Begun.{IsFirstBad}
use Rattle.proof_rules.proofs.won.checked.Goals as goal

pub returns-in-Ok-clause-first : goal.returns-in-Ok-clause-first
returns-in-Ok-clause-first g c = λ b e.
    subst (λ (w : WrittenSystem). IsFirstBad g.D.Domain.SORT (problem_of w.problem) (skeleton_of w.tree) c.args.proof.now b) c.in-Ok.ensures (c.check.ensures.first b e)
