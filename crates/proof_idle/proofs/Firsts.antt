-- What the walk finds in a proof that refutes is its first idle line.
use Rattle.std.specs.Prelude.{ℕ, ◌≡◌, Option, List}
use Rattle.std.proofs.Common.{ap, ◌∙◌, sym}
use Rattle.lin_term.specs.declared.Sort.{Sort}
use Rattle.dom_core.specs.Game.{Problem}
use Rattle.game_tree.specs.Skeleton.{Skeleton}
use Rattle.lose_system.specs.Losing.{system}
use Rattle.cube_rules.specs.declared.Step.{Step}
use Rattle.cube_rules.specs.Context.{open_context}
use Rattle.cube_rules.specs.Closing.{Proof}
use Rattle.proof_rules.specs.Rules.{Refutes}
use Rattle.proof_rules.specs.Idle.{idle_lines, IsProofTree}
use Rattle.proof_idle.specs.Idle.{IsFirstIdle}
use Rattle.proof_idle.specs.Least.{least}
use Rattle.proof_idle.specs.Walk.{run, begin}
use Rattle.proof_idle.proofs.Leasts.{no_least}
use Rattle.proof_idle.proofs.Walking.{found}
use Rattle.proof_idle.proofs.Counts.{fits}

of_tree : (s : Sort) (P : Problem) (S : Skeleton) (ls : List Step) (t : Proof) → IsProofTree s P S ls t → (run 0 ls begin).least ≡ least (idle_lines t 0 0)
of_tree s P S ls t p = sym (ap (λ (xs : List Step). (run 0 xs begin).least) p.lines) ∙ found t (fits t s (system s P S) open_context p.closes)

pub first_idle : (s : Sort) (P : Problem) (S : Skeleton) (ls : List Step) (first : Option ℕ) → Refutes s P S ls → first ≡ (run 0 ls begin).least → IsFirstIdle s P S ls first
first_idle s P S ls first r e =
    let tree : IsProofTree s P S ls r.tree = record { lines = r.lines; closes = r.closes } in
    record {
      first_of = λ t p. e ∙ of_tree s P S ls t p;
      none = λ z. record { tree = r.tree; refutes = tree; none = no_least (idle_lines r.tree 0 0) (sym (e ∙ of_tree s P S ls r.tree tree) ∙ z) };
    }
