-- The owner of a won game's skeleton wins.
use Rattle.std.specs.Prelude.{◌≡◌, Result, Err}
use Rattle.lin_term.specs.declared.Short.{Short}
use Rattle.lin_term.specs.declared.Sort.{Sort}
use Rattle.dom_core.specs.Problem.{problem_of, IsProblem, IsTrueProblem}
use Rattle.game_tree.specs.View.{skeleton_of}
use Rattle.lose_system.specs.Losing.{Lost}
use Rattle.proof_rules.specs.declared.bad_line.BadLine.{BadLine}
use Rattle.proof_rules.specs.Won.{WonGame, IsWon}
use Rattle.proof_rules.proofs.Refuted.{refuted_is_lost, refuted_is_true}

pub won_is_lost : (s : Sort) (g : WonGame) → IsWon s g → IsProblem s g.problem → Lost s (problem_of g.problem) (skeleton_of g.tree)
won_is_lost s g w p = refuted_is_lost s (problem_of g.problem) (skeleton_of g.tree) g.proof p.1 w.refutes

pub won_is_true : (s : Sort) (g : WonGame) → IsWon s g → IsProblem s g.problem → IsTrueProblem s g.problem
won_is_true s g w p =
    let k = w.skeleton in refuted_is_true s (problem_of g.problem) (skeleton_of g.tree) g.proof p.1 k.follows w.refutes

-- a refusal, whatever else there would be
abbrev pub refused : {A : Type 0} → Short BadLine → Result A (Short BadLine)
refused x = Err x

pub fault_is : {A : Type 0} (x y : Short BadLine) → refused {A = A} x ≡ refused {A = A} y → x ≡ y
fault_is x y e = cc
