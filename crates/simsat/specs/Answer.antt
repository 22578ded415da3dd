-- The answer to the words over what the shelf tells: how a run ends where nothing outside fails.
use Rattle.std.specs.Prelude.{ℕ, ◌≡◌, List, [], ◌∷◌, Option, Some, None, Result, Ok, Err, codes}
use Rattle.lin_term.specs.declared.Sort.TheVariants.{Rat}
use Rattle.dom_rat.specs.declared.Rat.{Rat as Rationals}
use Rattle.dom_core.specs.Game.{TrueP}
use Rattle.ss_names.specs.declared.ScriptFault.{ScriptFault}
use Rattle.ss_shelf.specs.Outside.{Files, Tells}
use Rattle.script_games.specs.Games.{Games, games as games_of}
use Rattle.script_games.specs.Refusal.{refusal_text}
use Rattle.team_work.specs.declared.Outcome.{Outcome}
use Rattle.team_work.specs.Outcome.{IsOutcome, IsRight}
use Rattle.solve_words.specs.Words.{Word, Names, Asking, solve, generate}
use Rattle.solve_texts.specs.declared.Solved.{Solved}
use Rattle.solve_texts.specs.declared.Solved.TheVariants as solved
use Rattle.solve_texts.specs.Texts.{lines, strategy_text}
use Rattle.solve_texts.specs.Journal.{journal_of_problems}
use Rattle.solve_texts.specs.Generated.{generated, generated_text}
use Rattle.simsat.specs.declared.status.SolveStatus.{SolveStatus}
use Rattle.simsat.specs.declared.status.SolveStatus.TheVariants as status
use Rattle.simsat.specs.Solved.{AllSolved}

-- what is printed, the outcomes of the goals, and the files that are stored, in this order
pub record Answer : Type 0 where
  pub status : SolveStatus
  pub text : List ℕ
  pub outcomes : List Solved
  pub stores : List (Word × List ℕ)

abbrev pub told_only : SolveStatus → List ℕ → Answer
told_only status text = record { status = status; text = text; outcomes = []; stores = [] }

abbrev pub usage_answer : Answer
usage_answer = told_only status.Usage (codes "usage: simsat SCRIPT --strategy FILE [--journal FILE] [--workers N] [--rounds N]\n")

abbrev pub refused_answer : ScriptFault → Answer
refused_answer fault = told_only status.Refused (refusal_text fault)

-- the strategy, and the journal where one is named
abbrev pub stores_by : Word → Option Word → Games → List Solved → List (Word × List ℕ)
stores_by strategy None g os = (strategy, strategy_text os) ∷ []
stores_by strategy (Some journal) g os = (strategy, strategy_text os) ∷ (journal, journal_of_problems g.problems os) ∷ []

abbrev pub solved_answer : Names → Games → List Solved → Answer
solved_answer names g os = record { status = status.Done; text = lines os; outcomes = os; stores = stores_by names.strategy names.journal g os }

-- once the script is read
abbrev pub AnswersGames : Names → List ℕ → Result Games ScriptFault → Answer → Type 0
AnswersGames names script (Err fault) a = a ≡ refused_answer fault
AnswersGames names script (Ok g) a = (os : List Solved) × AllSolved script g names.rounds os × (a ≡ solved_answer names g os)

-- an outcome of the generated problem of size n within B rounds, with the right verdict
abbrev pub IsGenerated : ℕ → ℕ → Outcome Rationals → Type 0
IsGenerated n B o = IsOutcome Rat (generated n) B o × IsRight (TrueP Rat (generated n)) o.verdict

abbrev pub generated_answer : ℕ → Outcome Rationals → Answer
generated_answer n o = record { status = status.Done; text = generated_text n o; outcomes = solved.Rat o ∷ []; stores = [] }

-- the answer to these words over what the shelf tells
abbrev pub Answers : Option Files → Option Asking → Answer → Type 0
Answers told None a = a ≡ usage_answer
Answers told (Some (solve names)) a = (script : List ℕ) × Tells told names.script script × AnswersGames names script (games_of script) a
Answers told (Some (generate n B)) a = (o : Outcome Rationals) × IsGenerated n B o × (a ≡ generated_answer n o)
