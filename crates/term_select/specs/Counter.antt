-- Counters: what is selected against a skeleton of the other player.
use Rattle.std.specs.Prelude.{◌≡◌, ◌≤◌, length}
use Rattle.lin_term.specs.declared.Sort.{Sort}
use Rattle.dom_core.specs.declared.Side.{Side}
use Rattle.dom_core.specs.Game.{flip_all}
use Rattle.dom_core.specs.Problem.{WrittenProblem, IsProblem, problem_of}
use Rattle.game_tree.specs.Skeleton.{nodes, paths as paths_of, node_limit}
use Rattle.game_tree.specs.View.{skeleton_of}
use Rattle.game_tree.specs.Written.{WrittenSkeleton, FollowsPrefix}
use Rattle.game_play.specs.Beats.{Beats}
use Rattle.term_select.specs.Selected.{Selected}

-- the side that plays, the problem in which it is Exists, the skeleton of the other side, and what is selected against it
pub record WrittenCounter : Type 0 where
  pub side : Side
  pub problem : WrittenProblem
  pub against : WrittenSkeleton
  pub paths : WrittenSkeleton

-- Both skeletons follow their prefixes; the own one is selected against the other, beats it, and has at most as many paths
-- and as many nodes.
pub record IsCounter (s : Sort) (c : WrittenCounter) : Type 0 where
  pub problem : IsProblem s c.problem
  pub own : FollowsPrefix s c.paths
  pub own_prefix : c.paths.prefix ≡ c.problem.prefix
  pub other : FollowsPrefix s c.against
  pub other_prefix : c.against.prefix ≡ flip_all c.problem.prefix
  pub few : nodes (skeleton_of c.against.tree) ≤ node_limit
  pub selected : Selected s (problem_of c.problem) (skeleton_of c.against.tree) (skeleton_of c.paths.tree)
  pub beats : Beats s (problem_of c.problem) (skeleton_of c.paths.tree) (skeleton_of c.against.tree)
  pub fewer_paths : length (paths_of (skeleton_of c.paths.tree)) ≤ length (paths_of (skeleton_of c.against.tree))
  pub fewer_nodes : nodes (skeleton_of c.paths.tree) ≤ nodes (skeleton_of c.against.tree)
