-- The first idle line of a proof.
use Rattle.std.specs.Prelude.{ℕ, ◌≡◌, None, Option, List}
use Rattle.lin_term.specs.declared.Sort.{Sort}
use Rattle.dom_core.specs.Game.{Problem}
use Rattle.game_tree.specs.Skeleton.{Skeleton}
use Rattle.cube_rules.specs.declared.Step.{Step}
use Rattle.cube_rules.specs.Closing.{Proof}
use Rattle.proof_rules.specs.Idle.{idle_lines, IsProofTree, HasNoIdle}
use Rattle.proof_idle.specs.Least.{least}

-- the least number of an idle line of the tree of the lines, from 0; none exactly where no line is idle
pub record IsFirstIdle (s : Sort) (P : Problem) (S : Skeleton) (proof : List Step) (first : Option ℕ) : Type 0 where
  pub first_of : (t : Proof) → IsProofTree s P S proof t → first ≡ least (idle_lines t 0 0)
  pub none : first ≡ None → HasNoIdle s P S proof
