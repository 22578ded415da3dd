-- What a losing system is made of.
use Rattle.std.specs.Prelude.{ℕ, Option, option_and_then}
use Rattle.lin_term.specs.declared.Sort.{Sort}
use Rattle.lin_term.specs.declared.Lit.{Lit}
use Rattle.dom_core.specs.Problem.{WrittenProblem, problem_of}
use Rattle.game_tree.specs.declared.Tree.{Tree}
use Rattle.game_tree.specs.View.{skeleton_of}
use Rattle.lose_system.specs.Losing.{System, system, literal_number, definition_at}

-- a problem and a skeleton of the player who is Exists in it
pub record WrittenSystem : Type 0 where
  pub problem : WrittenProblem
  pub tree : Tree

abbrev pub system_of : Sort → WrittenSystem → System
system_of s w = system s (problem_of w.problem) (skeleton_of w.tree)

-- definition literal i of node v, where the node is a move and i is 0 or 1
abbrev pub definition_literal : Sort → WrittenSystem → ℕ → ℕ → Option Lit
definition_literal s w v i = option_and_then (literal_number i) (definition_at (system_of s w).defs v)
