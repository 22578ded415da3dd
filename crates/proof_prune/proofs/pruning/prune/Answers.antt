use Rattle.std.proofs.Common.{◌∙◌}
use Rattle.dom_core.specs.Problem.{problem_of}
use Rattle.game_tree.specs.View.{skeleton_of}
use Rattle.proof_prune.proofs.Pruned.{pruned}
use Rattle.proof_prune.proofs.pruning.prune.Goals as goal

pub returns-in-Ok : goal.returns-in-Ok
returns-in-Ok g c = pruned g.D.Domain.SORT (problem_of c.args.system.now.problem) (skeleton_of c.args.system.now.tree) c.args.proof.now c.in-Ok.lines c.as_slice.result.now c.requires.refutes c.requires.writable (c.as_slice.ensures.value ∙ c.in_ok-items.ensures) c.in-Ok.ensures
