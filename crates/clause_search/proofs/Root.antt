-- The whole search, from nothing taken.
use Rattle.std.specs.Prelude.{◌≡◌, ℤ, List, [], ◌∷◌, ◌++◌, drop}
use Rattle.std.proofs.Common.{ap, arith, ◌∙◌, sym, subst, refl}
use Rattle.lin_term.specs.declared.Sort.{Sort}
use Rattle.lin_term.specs.declared.Lit.{Lit}
use Rattle.dom_core.specs.Game.{Matrix}
use Rattle.dom_core.specs.Problem.{problem_of}
use Rattle.game_tree.specs.View.{skeleton_of}
use Rattle.lose_system.specs.Written.{WrittenSystem, system_of}
use Rattle.cube_rules.specs.declared.Step.{Step}
use Rattle.proof_rules.specs.Rules.{Refutes}
use Rattle.proof_rules.proofs.Walk.{after_refutes}
use Rattle.cube_elim.specs.Determined.{WideAt}
use Rattle.clause_search.specs.declared.goal.Goal.{Goal}
use Rattle.clause_search.specs.Branches.{EndsWide}
use Rattle.clause_search.specs.Taken.{Completes, IsBehind, IsGoal}
use Rattle.clause_search.specs.Searching.{Closed, Widened}
use Rattle.clause_search.proofs.Completing.{nothing_taken}
use Rattle.clause_search.proofs.Stopping.{all_stop}

all_dropped : {A : Type 0} (xs : List A) → drop 0 xs ≡ xs
all_dropped {A} [] = refl
all_dropped {A} (x ∷ xs) = refl

pub start_behind : (s : Sort) (w : WrittenSystem) (g : Goal) → g ≡ record { count = 0; next = 0; waiting = []; lits = [] } → IsBehind s w [] g
start_behind s w g e = subst (λ (z : Goal). IsBehind s w [] z) (sym e) (record {
  count = refl;
  waiting = tt;
  lits = tt;
  completes = subst (λ (ms : List Matrix). Completes (system_of s w) [] ms) (sym (all_dropped (system_of s w).paths)) (nothing_taken (system_of s w));
})

pub start_kept : (s : Sort) (w : WrittenSystem) (g : Goal) → g ≡ record { count = 0; next = 0; waiting = []; lits = [] } → IsGoal s w g
start_kept s w g e = subst (λ (z : Goal). IsGoal s w z) (sym e) (record { waiting = tt; lits = tt; next = omega arith })

pub closed_refutes : (s : Sort) (w : WrittenSystem) (before now : List Step) → before ≡ [] → Closed s w [] before now → Refutes s (problem_of w.problem) (skeleton_of w.tree) now
closed_refutes s w before now e c =
    subst (λ (ls : List Step). Refutes s (problem_of w.problem) (skeleton_of w.tree) ls) (sym (c.written ∙ ap (λ (ls : List Step). ls ++ c.added) e))
    (after_refutes s (problem_of w.problem) (skeleton_of w.tree) c.added (c.leads []))

pub widened_ends : (s : Sort) (w : WrittenSystem) (x : List Lit) (z : ℤ) → WideAt s x z → Widened s w [] x → EndsWide s (system_of s w) x z
widened_ends s w x z v h = record { each = all_stop s (system_of s w) h.stops; this = h.this; wide = v }
