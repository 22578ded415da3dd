-- What an attack on a losing system answers.
use Rattle.std.specs.Prelude.{List}
use Rattle.lin_term.specs.declared.Sort.{Sort}
use Rattle.dom_core.specs.Problem.{problem_of}
use Rattle.game_tree.specs.View.{skeleton_of}
use Rattle.lose_system.specs.Losing.{Solves}
use Rattle.lose_system.specs.Written.{WrittenSystem, system_of}
use Rattle.cube_rules.specs.declared.Step.{Step}
use Rattle.proof_rules.specs.Rules.{Refutes}
use Rattle.proof_rules.specs.Writable.{IsWritable}
use Rattle.proof_rules.specs.Idle.{HasNoIdle}
use Rattle.clause_search.specs.declared.attack.Attack.{Attack}
use Rattle.clause_search.specs.declared.attack.Attack.TheVariants.{Point, Refuted, Wide}
use Rattle.clause_search.specs.Branches.{EndsWide}

-- lines that refute, and that a file can hold; none of them is idle
pub record IsRefutation (s : Sort) (w : WrittenSystem) (steps : List Step) : Type 0 where
  pub refutes : Refutes s (problem_of w.problem) (skeleton_of w.tree) steps
  pub writable : IsWritable steps
  pub idle : HasNoIdle s (problem_of w.problem) (skeleton_of w.tree) steps

-- a point that solves the system, lines that refute it, or a wide cube where no branch is solved within the cap
abbrev pub IsAttack : {D : Type 0} → Sort → WrittenSystem → Attack D → Type 0
IsAttack {D} s w (Point p) = Solves s (system_of s w) p
IsAttack {D} s w (Refuted steps) = IsRefutation s w steps
IsAttack {D} s w (Wide x) = EndsWide s (system_of s w) x.lits x.number
