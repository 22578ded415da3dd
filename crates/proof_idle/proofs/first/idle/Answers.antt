use Rattle.dom_core.specs.Problem.{problem_of}
use Rattle.game_tree.specs.View.{skeleton_of}
use Rattle.proof_idle.proofs.Firsts.{first_idle}
use Rattle.proof_idle.proofs.first.idle.Goals as goal

pub returns-in-Ok : goal.returns-in-Ok
returns-in-Ok g c = first_idle g.D.Domain.SORT (problem_of c.args.system.now.problem) (skeleton_of c.args.system.now.tree) c.args.proof.now c.in-Ok.first c.requires c.in-Ok.ensures
