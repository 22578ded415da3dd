-- What outcomes are for the goals of a script.
use Rattle.std.specs.Prelude.{ℕ, ◌≡◌, Ok, Some, List, length, slice_get, ⊤}
use Rattle.lin_term.specs.declared.Sort.{Sort}
use Rattle.lin_term.specs.declared.Sort.TheVariants.{Rat, Int}
use Rattle.dom_core.specs.declared.Side.TheVariants.{Exists, Forall}
use Rattle.dom_core.specs.Game.{Problem}
use Rattle.strat_text.specs.Spelling.{Spells}
use Rattle.smt_goal.specs.Command.{Asked}
use Rattle.script_games.specs.Games.{Games, games}
use Rattle.script_games.specs.Headline.{goal_at, IsTrue}
use Rattle.script_games.specs.Acceptance.{Accepts}
use Rattle.team_work.specs.declared.Verdict.{Verdict}
use Rattle.team_work.specs.declared.Verdict.TheVariants as verdict
use Rattle.team_work.specs.Outcome.{IsOutcome, IsRight}
use Rattle.solve_texts.specs.declared.Solved.{Solved}
use Rattle.solve_texts.specs.declared.Solved.TheVariants as solved
use Rattle.solve_texts.specs.Texts.{strategy_sections, strategy_text}

-- an outcome of the problem in its sort within B rounds, with the right verdict for what is asked
abbrev pub IsSolved : ℕ → Sort → Problem → Type 0 → Solved → Type 0
IsSolved B s P Truth (solved.Rat o) = (s ≡ Rat) × IsOutcome Rat P B o × IsRight Truth o.verdict
IsSolved B s P Truth (solved.Int o) = (s ≡ Int) × IsOutcome Int P B o × IsRight Truth o.verdict

-- the outcome of goal k: one of the goal's problem, with the right verdict for the goal
pub record IsSolvedAt (script : List ℕ) (g : Games) (B k : ℕ) (o : Solved) : Type 0 where
  pub problem : Problem
  pub its_problem : slice_get g.problems k ≡ Some problem
  pub goal : Asked
  pub its_goal : goal_at script k ≡ Some goal
  pub solved : IsSolved B g.sort problem (IsTrue goal) o

-- the file accepts the verdict of goal k
abbrev pub AcceptsVerdict : {D : Type 0} → List ℕ → List ℕ → ℕ → Verdict D → Type 0
AcceptsVerdict {D} script file k (verdict.Sat w) = Accepts script file k Exists
AcceptsVerdict {D} script file k (verdict.Unsat w) = Accepts script file k Forall
AcceptsVerdict {D} script file k (verdict.Unknown y) = ⊤

abbrev pub AcceptsSolved : List ℕ → List ℕ → ℕ → Solved → Type 0
AcceptsSolved script file k (solved.Rat o) = AcceptsVerdict script file k o.verdict
AcceptsSolved script file k (solved.Int o) = AcceptsVerdict script file k o.verdict

-- outcomes of the first goals of the script, whose games are g; where there is one for each, what spells their sections is accepted
pub record FirstSolved (script : List ℕ) (g : Games) (B : ℕ) (os : List Solved) : Type 0 where
  pub asked : games script ≡ Ok g
  pub each : (k : ℕ) (o : Solved) → slice_get os k ≡ Some o → IsSolvedAt script g B k o
  pub accepted : length os ≡ length g.problems → (file : List ℕ) → Spells file (strategy_sections os) → (k : ℕ) (o : Solved) → slice_get os k ≡ Some o → AcceptsSolved script file k o

-- one for each goal, and the bytes that are stored of them spell their sections
pub record AllSolved (script : List ℕ) (g : Games) (B : ℕ) (os : List Solved) : Type 0 where
  pub first : FirstSolved script g B os
  pub all : length os ≡ length g.problems
  pub spelled : Spells (strategy_text os) (strategy_sections os)
