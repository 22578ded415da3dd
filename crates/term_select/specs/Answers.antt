-- What selection answers: exactly what is selected by its definition.
use Rattle.std.specs.Prelude.{◌≡◌, Some, None, Result, Ok, Err, ⊤}
use Rattle.lin_term.specs.declared.Sort.{Sort}
use Rattle.lin_term.specs.declared.Short.{Short}
use Rattle.lin_term.specs.declared.Short.TheVariants as short
use Rattle.lin_term.specs.Linear.{Point}
use Rattle.dom_core.specs.declared.Side.{Side}
use Rattle.dom_core.specs.Game.{dual}
use Rattle.dom_core.specs.Problem.{WrittenProblem, problem_of}
use Rattle.game_tree.specs.View.{skeleton_of}
use Rattle.game_tree.specs.Written.{WrittenSkeleton}
use Rattle.term_select.specs.declared.part.Stop.{Stop}
use Rattle.term_select.specs.declared.fault.SelectFault.{SelectFault}
use Rattle.term_select.specs.declared.fault.SelectFault.TheVariants as fault
use Rattle.term_select.specs.Guided.{Chosen, guided, first_wide}
use Rattle.term_select.specs.Counter.{WrittenCounter}

-- what the other player than P's Exists selects against U, a skeleton of P's Exists
abbrev pub selection : Sort → WrittenProblem → WrittenSkeleton → Point → Chosen
selection s P U p = guided s (dual s (problem_of P)) (skeleton_of U.tree) p

-- the counter is of this side, in the dual of P, against U, with the paths that are selected within the cap
pub record IsSelected (s : Sort) (player : Side) (P : WrittenProblem) (U : WrittenSkeleton) (p : Point) (c : WrittenCounter) : Type 0 where
  pub side : c.side ≡ player
  pub problem : problem_of c.problem ≡ dual s (problem_of P)
  pub against : c.against ≡ U
  pub within : first_wide (selection s P U p).numbers ≡ None
  pub paths : skeleton_of c.paths.tree ≡ (selection s P U p).tree

-- That counter; or the point, with the position and the first of the numbers formed that is past the cap. Want of memory is
-- free.
abbrev pub Answers : Sort → Side → WrittenProblem → WrittenSkeleton → Point → Result WrittenCounter SelectFault → Type 0
Answers s side P U p (Ok c) = IsSelected s side P U p c
Answers s side P U p (Err (fault.Choice w)) = (w.point ≡ p) × (first_wide (selection s P U p).numbers ≡ Some (w.var, w.number))
Answers s side P U p (Err fault.Memory) = ⊤

-- the fault that a stop is answered by
abbrev pub IsStop : Point → Short Stop → SelectFault → Type 0
IsStop p (short.Fault stop) (fault.Choice w) = (w.point ≡ p) × (w.var ≡ stop.var) × (w.number ≡ stop.number)
IsStop p short.Memory (fault.Choice w) = ⊥
IsStop p f fault.Memory = ⊤
