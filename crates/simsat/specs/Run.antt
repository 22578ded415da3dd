-- How a run of the solver ends: its status, its outcomes, and what it leaves.
use Rattle.std.specs.Prelude.{ℕ, ◌≡◌, ◌⊎◌, List, [], ◌∷◌, length, Option, Some, Ok}
use Rattle.dom_rat.specs.declared.Rat.{Rat as Rationals}
use Rattle.ss_shelf.specs.declared.CallKind.TheVariants.{Fetch}
use Rattle.ss_shelf.specs.Outside.{Files, Counts, Tells, Rose}
use Rattle.script_games.specs.Games.{Games, games as games_of}
use Rattle.team_work.specs.declared.Outcome.{Outcome}
use Rattle.solve_words.specs.Words.{Names, Asking, solve, generate}
use Rattle.solve_texts.specs.declared.Solved.{Solved}
use Rattle.solve_texts.specs.declared.Solved.TheVariants as solved
use Rattle.simsat.specs.declared.status.SolveStatus.{SolveStatus}
use Rattle.simsat.specs.declared.status.SolveStatus.TheVariants as status
use Rattle.simsat.specs.Solved.{FirstSolved}
use Rattle.simsat.specs.Answer.{Answer, Answers, IsGenerated}
use Rattle.simsat.specs.Effects.{Effects, HasStored, NoName, OneRose, Publishes}

-- the words, the outcomes, and what was left
pub record Run : Type 0 where
  pub asking : Option Asking
  pub outcomes : List Solved
  pub left : Effects

abbrev pub run_of : Option Asking → List Solved → Option Files → Option Files → Counts → Counts → Option (List ℕ) → Option (List ℕ) → ℕ → ℕ → Run
run_of asking os files files' counts counts' written written' faults faults' = record {
  asking = asking;
  outcomes = os;
  left = record {
    files = files;
    files_after = files';
    counts = counts;
    counts_after = counts';
    written = written;
    written_after = written';
    faults = faults;
    faults_after = faults';
  };
}

-- an answer to the words was ready
pub record Gave (r : Run) (result : SolveStatus) : Type 0 where
  pub answer : Answer
  pub right : Answers r.left.files r.asking answer
  pub outcomes : r.outcomes ≡ answer.outcomes
  pub published : Publishes answer r.left result

-- no file changed, and nothing was written
pub record LeftAll (e : Effects) : Type 0 where
  pub files : HasStored e.files e.files_after [] NoName
  pub written : e.written_after ≡ e.written

-- the script could not be fetched
pub record FailedToRead (r : Run) : Type 0 where
  pub names : Names
  pub asked : r.asking ≡ Some (solve names)
  pub outcomes : r.outcomes ≡ []
  pub left : LeftAll r.left
  pub counts : OneRose Fetch names.script r.left.counts r.left.counts_after

-- outcomes of the first goals of the script that was told
pub record SolvedSome (told : Option Files) (asking : Option Asking) (os : List Solved) : Type 0 where
  pub names : Names
  pub asked : asking ≡ Some (solve names)
  pub script : List ℕ
  pub there : Tells told names.script script
  pub games : Games
  pub first : FirstSolved script games names.rounds os

-- the outcome of the generated problem
pub record SolvedGenerated (asking : Option Asking) (os : List Solved) : Type 0 where
  pub size : ℕ
  pub rounds : ℕ
  pub asked : asking ≡ Some (generate size rounds)
  pub outcome : Outcome Rationals
  pub right : IsGenerated size rounds outcome
  pub alone : os ≡ solved.Rat outcome ∷ []

-- what is known where memory was wanted before an answer was ready
abbrev pub IsBegun : Option Files → Option Asking → List Solved → Type 0
IsBegun told asking os = (os ≡ []) ⊎ (SolvedSome told asking os ⊎ SolvedGenerated asking os)

-- memory was wanted before an answer was ready
pub record Halted (r : Run) : Type 0 where
  pub begun : IsBegun r.left.files r.asking r.outcomes
  pub left : LeftAll r.left
  pub counts : r.left.counts_after ≡ r.left.counts

-- what each status says
abbrev pub Ends : Run → SolveStatus → Type 0
Ends r status.Done = Gave r status.Done
Ends r status.Usage = Gave r status.Usage
Ends r status.Refused = Gave r status.Refused
Ends r status.ReadFault = FailedToRead r
Ends r status.StoreFault = Gave r status.StoreFault
Ends r status.PrintFault = Gave r status.PrintFault
Ends r status.Memory = Halted r ⊎ Gave r status.Memory

-- ---- completeness

-- the words name a script that is told and has these games, and no call outside failed
pub record IsFaultless (r : Run) (g : Games) : Type 0 where
  pub names : Names
  pub asked : r.asking ≡ Some (solve names)
  pub files : Files
  pub told : r.left.files ≡ Some files
  pub script : List ℕ
  pub there : files names.script ≡ Some script
  pub games : games_of script ≡ Ok g
  pub counts : r.left.counts_after ≡ r.left.counts
  pub printed : ¬ Rose r.left.faults r.left.faults_after

-- then there is a verdict for each goal, or memory was wanted
abbrev pub Completes : Run → SolveStatus → Type 0
Completes r result = (g : Games) → IsFaultless r g → ((result ≡ status.Done) × (length r.outcomes ≡ length g.problems)) ⊎ (result ≡ status.Memory)
