-- A game from its first board to its last.
use Rattle.std.specs.Prelude.{ℕ, suc, ◌+◌, ◌*◌, ◌-◌, ◌<◌, ◌≤◌, ◌≡◌, List, length, Result, Ok, Err, IfOk}
use Rattle.std.proofs.Common.{arith, ap, ◌∙◌, sym, subst, refl}
use Rattle.lin_term.specs.declared.Sort.{Sort}
use Rattle.dom_core.specs.Game.{dual}
use Rattle.dom_core.specs.Problem.{WrittenProblem, problem_of, IsProblem, IsTrueProblem}
use Rattle.game_tree.specs.Among.{IsAmong}
use Rattle.game_history.specs.History.{noted, replay}
use Rattle.game_board.specs.declared.Entry.{Entry as Written}
use Rattle.game_board.specs.Entries.{entries_of}
use Rattle.game_board.specs.Board.{WrittenBoard}
use Rattle.game_board.specs.Running.{IsFirst}
use Rattle.team_work.specs.declared.outcome.Outcome.{Outcome}
use Rattle.team_work.specs.Outcome.{IsOutcome, IsRight}
use Rattle.team_work.specs.Turn.{IsBoardOf, IsGoing, IsSameGame}
use Rattle.team_work.proofs.Ended.{outcome_right}

-- ---- the first board

pub first_board : {D : Type 0} → (s : Sort) (P Q : WrittenProblem) (B : ℕ) (b : WrittenBoard D) → IsFirst s P B b → problem_of Q ≡ dual s (problem_of P) → dual s (problem_of Q) ≡ problem_of P → IsBoardOf s P B b
first_board {D} s P Q B b f v i = record {
  problem = f.problem;
  rounds = f.rounds_are;
  duals = record {
    dual_is = f.dual_is ∙ sym (ap (λ (R : WrittenProblem). dual s (problem_of R)) f.problem);
    inverse = ap (dual s) (f.dual_is ∙ sym v) ∙ i ∙ sym (ap problem_of f.problem);
  };
}

pub first_going : {D : Type 0} → (s : Sort) (P : WrittenProblem) (B : ℕ) (b : WrittenBoard D) → IsFirst s P B b → IsGoing s b
first_going {D} s P B b f = record {
  open_game = ap (λ (H : List (Written D)). (replay s (problem_of b.problem) (entries_of H)).is_over) f.history;
  unspent = ap (λ (H : List (Written D)). (replay s (problem_of b.problem) (entries_of H)).is_spent) f.history;
  small = ap (λ (H : List (Written D)). (replay s (problem_of b.problem) (entries_of H)).is_large) f.history;
  shown = λ side v y h. absurd (subst (λ (H : List (Written D)). IsAmong (noted side v y) (entries_of H)) f.history h);
}

pub first_goings : {D : Type 0} {E : Type 0} → (s : Sort) (P : WrittenProblem) (B : ℕ) (r : Result (WrittenBoard D) E) → IfOk r (IsFirst s P B) → IfOk r (λ b. IsGoing s b)
first_goings {D} {E} s P B (Ok b) f = first_going s P B b f
first_goings {D} {E} s P B (Err e) f = f

-- ---- turn after turn

pub same_on : {D : Type 0} → (a b c : WrittenBoard D) → IsSameGame a b → IsSameGame b c → IsSameGame a c
same_on {D} a b c g h = record { problem = h.problem ∙ g.problem; dual = h.dual ∙ g.dual; rounds = h.rounds ∙ g.rounds }

pub same_self : {D : Type 0} → (b : WrittenBoard D) → IsSameGame b b
same_self {D} b = record { problem = refl; dual = refl; rounds = refl }

-- a history that has one entry more, and is not longer than it may be, leaves less room
pub less_room : {D : Type 0} → (b c : WrittenBoard D) → IsSameGame b c → length c.history ≡ suc (length b.history) → length c.history ≤ 2 * c.rounds + 7 → 2 * c.rounds + 7 - length c.history < 2 * b.rounds + 7 - length b.history
less_room {D} b c g e l = let r = g.rounds in omega (arith, r, e, l)

-- ---- the last board

pub last_rounds : {D : Type 0} → (s : Sort) (P : WrittenProblem) (B : ℕ) (b c : WrittenBoard D) → IsBoardOf s P B b → IsSameGame b c → B ≡ c.rounds
last_rounds {D} s P B b c k g = sym (g.rounds ∙ k.rounds)

pub outcome_of : {D : Type 0} → (s : Sort) (P : WrittenProblem) (B : ℕ) (b c : WrittenBoard D) (o : Outcome D) → IsBoardOf s P B b → IsSameGame b c → IsOutcome s (problem_of c.problem) B o → IsOutcome s (problem_of P) B o
outcome_of {D} s P B b c o k g h = subst (λ (Q : WrittenProblem). IsOutcome s (problem_of Q) B o) (g.problem ∙ k.problem) h

pub right_of : {D : Type 0} → (s : Sort) (P : WrittenProblem) (B : ℕ) (b c : WrittenBoard D) (o : Outcome D) → IsProblem s P → IsBoardOf s P B b → IsSameGame b c → IsOutcome s (problem_of c.problem) B o → IsRight (IsTrueProblem s P) o.verdict
right_of {D} s P B b c o i k g h = let w = outcome_of s P B b c o k g h in outcome_right s P B (entries_of o.journal) o.verdict i w.says
