-- What the type of a losing system keeps.
use Rattle.std.specs.Prelude.{ℕ, ◌≡◌, List}
use Rattle.lin_term.specs.declared.Sort.{Sort}
use Rattle.dom_core.specs.Problem.{IsProblem, problem_of}
use Rattle.game_tree.specs.Skeleton.{IsSkeleton}
use Rattle.game_tree.specs.View.{skeleton_of}
use Rattle.lose_system.specs.declared.table.Node.{Node}
use Rattle.lose_system.specs.Table.{places_of, places, leaves}
use Rattle.lose_system.specs.Written.{WrittenSystem}

-- the tree is a skeleton of the problem, and the table is its
pub record IsTable (s : Sort) (w : WrittenSystem) (list : List Node) (last : List ℕ) : Type 0 where
  pub problem : IsProblem s w.problem
  pub skeleton : IsSkeleton s (problem_of w.problem) (skeleton_of w.tree)
  pub nodes : places_of list ≡ places (skeleton_of w.tree) 0 0 0
  pub ends : last ≡ leaves (skeleton_of w.tree) 0 0
