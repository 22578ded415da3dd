-- Proofs of which all lines are needed.
use Rattle.std.specs.Prelude.{◌≤◌, List, length}
use Rattle.lin_term.specs.declared.Sort.{Sort}
use Rattle.dom_core.specs.Game.{Problem}
use Rattle.game_tree.specs.Skeleton.{Skeleton}
use Rattle.cube_rules.specs.declared.Step.{Step}
use Rattle.proof_rules.specs.Rules.{Refutes}
use Rattle.proof_rules.specs.Writable.{IsWritable}
use Rattle.proof_rules.specs.Idle.{HasNoIdle}

-- lines that refute as the given ones do, and that a file can hold; none of them is idle, and they are no more than were given
pub record IsPruned (s : Sort) (P : Problem) (S : Skeleton) (given kept : List Step) : Type 0 where
  pub refutes : Refutes s P S kept
  pub writable : IsWritable kept
  pub idle : HasNoIdle s P S kept
  pub count : length kept ≤ length given
