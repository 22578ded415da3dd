-- What a counter is: selected from a solution of the losing system of the attacked skeleton.
use Rattle.std.specs.Prelude.{◌≡◌, Some, None, ℕ, ℤ}
use Rattle.lin_term.specs.declared.Sort.{Sort}
use Rattle.lin_term.specs.Linear.{Point}
use Rattle.dom_core.specs.Game.{Problem, dual}
use Rattle.game_tree.specs.Skeleton.{Skeleton}
use Rattle.lose_system.specs.Losing.{System, system, Solves}
use Rattle.term_select.specs.Guided.{guided, first_wide}

-- the losing system of U, which is of the other player than P's Exists
abbrev pub losing : Sort → Problem → Skeleton → System
losing s P U = system s (dual s P) U

-- C is what P's Exists selects against U, from a point that solves the losing system of U, within the cap
pub record Selected (s : Sort) (P : Problem) (U C : Skeleton) : Type 0 where
  pub point : Point
  pub solves : Solves s (losing s P U) point
  pub within : first_wide (guided s P U point).numbers ≡ None
  pub tree : C ≡ (guided s P U point).tree

-- the point solves the system, and selection from it forms this number, the first past the cap, at this position
pub record StopsAt (s : Sort) (P : Problem) (U : Skeleton) (point : Point) (position : ℕ) (number : ℤ) : Type 0 where
  pub solves : Solves s (losing s P U) point
  pub first : first_wide (guided s P U point).numbers ≡ Some (position, number)
