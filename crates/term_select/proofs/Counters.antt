-- What is selected is a counter.
use Rattle.std.specs.Prelude.{◌≡◌, ◌≤◌, List}
use Rattle.std.proofs.Common.{subst}
use Rattle.lin_term.specs.declared.Sort.{Sort}
use Rattle.dom_core.specs.declared.Quant.{Quant}
use Rattle.dom_core.specs.declared.Side.{Side}
use Rattle.dom_core.specs.Game.{flip_all}
use Rattle.dom_core.specs.Problem.{WrittenProblem, IsProblem, problem_of}
use Rattle.game_tree.specs.Skeleton.{Follows, nodes, node_limit}
use Rattle.game_tree.specs.View.{skeleton_of}
use Rattle.game_tree.specs.Written.{WrittenSkeleton, FollowsPrefix}
use Rattle.term_select.specs.Selected.{Selected}
use Rattle.term_select.specs.Counter.{IsCounter}
use Rattle.term_select.proofs.Fewer.{selected_leaves, selected_nodes}
use Rattle.term_select.proofs.Beating.{selected_wins}

pub is_counter : (s : Sort) (side : Side) (P : WrittenProblem) (U C : WrittenSkeleton) → IsProblem s P → FollowsPrefix s C → FollowsPrefix s U → C.prefix ≡ P.prefix → U.prefix ≡ flip_all P.prefix → nodes (skeleton_of U.tree) ≤ node_limit → Selected s (problem_of P) (skeleton_of U.tree) (skeleton_of C.tree)
    → IsCounter s (record { side = side; problem = P; against = U; paths = C })
is_counter s side P U C i c u own other few d =
    let f = subst (λ (qs : List Quant). Follows (skeleton_of U.tree) s qs 0) other u.follows in
    record {
      problem = i;
      own = c;
      own_prefix = own;
      other = u;
      other_prefix = other;
      few = few;
      selected = d;
      beats = selected_wins s (problem_of P) (skeleton_of U.tree) (skeleton_of C.tree) i.1 f d;
      fewer_paths = selected_leaves s (problem_of P) (skeleton_of U.tree) (skeleton_of C.tree) f d;
      fewer_nodes = selected_nodes s (problem_of P) (skeleton_of U.tree) (skeleton_of C.tree) f d;
    }
