-- What an outcome says of spent rounds.
use Rattle.std.specs.Prelude.{ℕ, ◌≡◌, List}
use Rattle.lin_term.specs.declared.Sort.{Sort}
use Rattle.dom_core.specs.Problem.{WrittenProblem, problem_of, IsProblem}
use Rattle.game_history.specs.History.{Entry}
use Rattle.game_history.specs.Legal.{Legal}
use Rattle.game_board.specs.declared.Why.{Why}
use Rattle.game_board.specs.declared.Why.TheVariants as why
use Rattle.game_board.specs.Entries.{entries_of}
use Rattle.game_board.specs.Board.{WrittenBoard}
use Rattle.round_bounds.proofs.Spending.{may_spend}
use Rattle.team_work.specs.declared.outcome.Verdict.{Verdict}
use Rattle.team_work.specs.declared.outcome.Verdict.TheVariants as verdict
use Rattle.team_work.specs.declared.outcome.Outcome.{Outcome}
use Rattle.team_work.specs.Outcome.{SaysWhy, Says, IsOutcome, HasFewFor, HasFewRounds}
use Rattle.team_work.specs.Turn.{IsBoardOf, IsSameGame}
use Rattle.team_work.proofs.Playing.{outcome_of}

few_for : {D : Type 0} → (s : Sort) (P : WrittenProblem) (B : ℕ) (H : List Entry) (y : Why D) → IsProblem s P → Legal s (problem_of P) B H → SaysWhy s (problem_of P) B H y → HasFewFor s (problem_of P) B y
few_for {D} s P B H (why.Coefficient n) i l h = tt
few_for {D} s P B H (why.Rounds n) i l h = may_spend s (problem_of P) B H i.1 l h.1
few_for {D} s P B H (why.Nodes n) i l h = tt

few_in : {D : Type 0} → (s : Sort) (P : WrittenProblem) (B : ℕ) (H : List Entry) (v : Verdict D) → IsProblem s P → Legal s (problem_of P) B H → Says s (problem_of P) B H v → HasFewRounds s (problem_of P) B v
few_in {D} s P B H (verdict.Sat w) i l h = tt
few_in {D} s P B H (verdict.Unsat w) i l h = tt
few_in {D} s P B H (verdict.Unknown y) i l h = few_for s P B H y i l h

few_rounds : {D : Type 0} → (s : Sort) (P : WrittenProblem) (B : ℕ) (o : Outcome D) → IsProblem s P → IsOutcome s (problem_of P) B o → HasFewRounds s (problem_of P) B o.verdict
few_rounds {D} s P B o i h = few_in s P B (entries_of o.journal) o.verdict i h.legal h.says

pub rounds_of : {D : Type 0} → (s : Sort) (P : WrittenProblem) (B : ℕ) (b c : WrittenBoard D) (o : Outcome D) → IsProblem s P → IsBoardOf s P B b → IsSameGame b c → IsOutcome s (problem_of c.problem) B o → HasFewRounds s (problem_of P) B o.verdict
rounds_of {D} s P B b c o i k g h = few_rounds s P B o i (outcome_of s P B b c o k g h)
