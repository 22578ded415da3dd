use Rattle.std.specs.Prelude.{List}
use Rattle.std.proofs.Common.{ap, subst}
use Rattle.lin_term.specs.declared.Short.TheVariants.{Fault}
use Rattle.dom_core.specs.Problem.{problem_of}
use Rattle.game_tree.specs.View.{skeleton_of}
use Rattle.game_tree.specs.Written.{WrittenSkeleton}
use Rattle.cube_rules.specs.declared.Step.{Step}
use Rattle.proof_rules.specs.Begun.{IsFirstBad}
use Rattle.proof_rules.proofs.WonLemmas.{refused, fault_is}
use Rattle.proof_rules.proofs.won.Won.make.Goals as goal

pub returns-in-Err-clause-first : goal.returns-in-Err-clause-first
returns-in-Err-clause-first g c = λ b e.
    subst (λ (S : WrittenSkeleton). IsFirstBad g.D.Domain.SORT (problem_of c.args.problem) (skeleton_of S.tree) c.args.proof b) c.lend.ensures
    (subst (λ (ls : List Step). IsFirstBad g.D.Domain.SORT (problem_of c.args.problem) (skeleton_of c.lend.result.tree) ls b) c.as_slice.ensures
    (c.in-Err.ensures.first b (ap refused (fault_is c.in-Err.fault (Fault b) e))))
