-- The answer to the words over what the shelf gives, and what was written of it.
use Rattle.std.specs.Prelude.{ℕ, ◌≡◌, ◌≢◌, ◌⊎◌, List, Option, Some, None, Result, Ok, Err}
use Rattle.ss_names.specs.declared.ScriptFault.{ScriptFault}
use Rattle.ss_shelf.specs.Outside.{Files, Tells, Appends, AppendsPart}
use Rattle.script_games.specs.Games.{Games, games}
use Rattle.script_games.specs.Acceptance.{IsReadAsSpelled}
use Rattle.script_games.specs.Headline.{IsWorth}
use Rattle.script_games.specs.Given.{AsksFor}
use Rattle.simcheck.specs.declared.status.CheckStatus.{CheckStatus}
use Rattle.simcheck.specs.declared.status.CheckStatus.TheVariants as status
use Rattle.simcheck.specs.declared.report.Report.{Report}
use Rattle.simcheck.specs.Words.{Names}
use Rattle.simcheck.specs.Verdicts.{Answer, usage, refusal, printed_for}

abbrev pub answer_of : Report → Answer
answer_of report = record { status = report.status; text = report.text.items }

-- once the script is read; where it has a fault, the file does not matter
abbrev pub AnswersGames : Option Files → List ℕ → List ℕ → Result Games ScriptFault → Answer → Type 0
AnswersGames told script file (Err fault) answer = answer ≡ refusal fault
AnswersGames told script file (Ok g) answer =
    (bytes : List ℕ) × Tells told file bytes × (answer ≡ printed_for g bytes) × IsReadAsSpelled bytes × IsWorth script bytes answer.text

-- the answer to these words over what the shelf gives, and what is said to be accepted is proved
abbrev pub Answers : Option Files → Option Names → Answer → Type 0
Answers told None answer = answer ≡ usage
Answers told (Some names) answer = (script : List ℕ) × Tells told names.script script × AnswersGames told script names.file (games script) answer

-- the names that a run may fetch
abbrev pub IsNamed : Option Names → List ℕ → Type 0
IsNamed None name = ⊥
IsNamed (Some names) name = (name ≡ names.script) ⊎ (name ≡ names.file)

-- the statuses that are answers, and no faults of the outside
abbrev pub IsAnswer : CheckStatus → Type 0
IsAnswer status.Accepted = Unit {0}
IsAnswer status.Rejected = Unit {0}
IsAnswer status.Usage = Unit {0}
IsAnswer status.Refused = Unit {0}
IsAnswer status.ReadFault = ⊥
IsAnswer status.PrintFault = ⊥
IsAnswer status.Memory = ⊥

abbrev pub answer_games : Result Games ScriptFault → Option (List ℕ) → Option Answer
answer_games (Err fault) file = Some (refusal fault)
answer_games (Ok g) None = None
answer_games (Ok g) (Some bytes) = Some (printed_for g bytes)

abbrev pub answer_script : Option (List ℕ) → Option (List ℕ) → Option Answer
answer_script None file = None
answer_script (Some bytes) file = answer_games (games bytes) file

-- the answer to these words over these files, and none where a file that is needed is not there
abbrev pub answer : Option Names → Files → Option Answer
answer None files = Some usage
answer (Some names) files = answer_script (files names.script) (files names.file)

-- where the shelf tells its files, this is the answer over them
abbrev pub IsOver : Option Files → Option Names → Answer → Type 0
IsOver None names a = Unit {0}
IsOver (Some files) names a = answer names files ≡ Some a

-- the status is that of the answer, and exactly its text was written
pub record Said (told : Option Files) (names : Option Names) (before now : Option (List ℕ)) (result : CheckStatus) : Type 0 where
  pub given : Answer
  pub right : Answers told names given
  pub over : IsOver told names given
  pub status : result ≡ given.status
  pub printed : Appends before now given.text

-- a prefix of the answer's text was written
pub record SaidPart (told : Option Files) (names : Option Names) (before now : Option (List ℕ)) : Type 0 where
  pub given : Answer
  pub right : Answers told names given
  pub over : IsOver told names given
  pub printed : AppendsPart before now given.text

-- Usage comes exactly where the words are not in the grammar
abbrev pub UsageOnlyFor : Option Names → CheckStatus → Type 0
UsageOnlyFor None result = result ≡ status.Usage
UsageOnlyFor (Some names) result = result ≢ status.Usage

-- the answer over a script that asks for these games
abbrev pub AnswersGiven : Option Files → List ℕ → Games → Answer → Type 0
AnswersGiven told file g answer = (script : List ℕ) → AsksFor script g → AnswersGames told script file (games script) answer
