-- Games that are won, with what shows it.
use Rattle.std.specs.Prelude.{◌≡◌, List}
use Rattle.lin_term.specs.declared.Sort.{Sort}
use Rattle.dom_core.specs.Problem.{WrittenProblem, problem_of}
use Rattle.game_tree.specs.Skeleton.{IsSkeleton}
use Rattle.game_tree.specs.View.{skeleton_of}
use Rattle.game_tree.specs.declared.Tree.{Tree}
use Rattle.cube_rules.specs.declared.Step.{Step}
use Rattle.proof_rules.specs.Rules.{Refutes}
use Rattle.proof_rules.specs.Writable.{IsWritable}

-- a problem, a tree of moves of its Exists, and lines
pub record WonGame : Type 0 where
  pub problem : WrittenProblem
  pub tree : Tree
  pub proof : List Step

-- the tree is a skeleton of the problem, and the lines, which a file can hold, refute its losing system
pub record IsWon (s : Sort) (g : WonGame) : Type 0 where
  pub skeleton : IsSkeleton s (problem_of g.problem) (skeleton_of g.tree)
  pub refutes : Refutes s (problem_of g.problem) (skeleton_of g.tree) g.proof
  pub writable : IsWritable g.proof
