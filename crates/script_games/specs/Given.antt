-- What reading the games of a script gives.
use Rattle.std.specs.Prelude.{ℕ, ◌≡◌, List, map, slice_get, Some, Result, Ok, Err, Option, ⊤}
use Rattle.ss_names.specs.declared.ScriptFault.{ScriptFault}
use Rattle.ss_names.specs.declared.ScriptFault.TheVariants as fault
use Rattle.ss_shelf.specs.Outside.{Files, Tells}
use Rattle.lin_term.specs.declared.Sort.{Sort}
use Rattle.lin_term.specs.declared.Sort.TheVariants as sort
use Rattle.lin_truth.specs.Truth.{Same}
use Rattle.lin_truth.specs.Goal.{Goal}
use Rattle.dom_core.specs.Game.{Problem, TrueP}
use Rattle.dom_core.specs.Problem.{problem_of}
use Rattle.smt_goal.specs.Command.{Asked}
use Rattle.script_games.specs.declared.given.ScriptGames.{ScriptGames}
use Rattle.script_games.specs.declared.given.ScriptGames.TheVariants as given
use Rattle.script_games.specs.declared.given.GamesFault.{GamesFault}
use Rattle.script_games.specs.declared.given.GamesFault.TheVariants as games_fault
use Rattle.script_games.specs.Games.{Games, games}
use Rattle.script_games.specs.Carried.{AreGamesOf}
use Rattle.script_games.specs.Headline.{goal_at, IsTrue}

-- the games as the definition has them
abbrev pub games_of_given : ScriptGames → Games
games_of_given (given.Rat problems) = record { sort = sort.Rat; problems = map problem_of problems.items }
games_of_given (given.Int problems) = record { sort = sort.Int; problems = map problem_of problems.items }

-- the script has a goal k, which is true exactly where this problem is
abbrev pub IsPlayedAt : List ℕ → ℕ → Sort → Problem → Type 0
IsPlayedAt script k s P = (a : Asked) × (goal_at script k ≡ Some a) × Same (IsTrue a) (TrueP s P)

-- the script asks for these games, and each has the truth of its goal
pub record AsksFor (script : List ℕ) (g : Games) : Type 0 where
  pub asked : games script ≡ Ok g
  pub same : (k : ℕ) (P : Problem) → slice_get g.problems k ≡ Some P → IsPlayedAt script k g.sort P

-- the problems of these goals, in their sort
abbrev pub AreGiven : Sort → List Goal → ScriptGames → Type 0
AreGiven s gs (given.Rat problems) = (s ≡ sort.Rat) × AreGamesOf sort.Rat gs problems.items
AreGiven s gs (given.Int problems) = (s ≡ sort.Int) × AreGamesOf sort.Int gs problems.items

-- the games of a script of these bytes, or its first fault; want of memory is free
abbrev pub GivesGames : List ℕ → Result ScriptGames ScriptFault → Type 0
GivesGames script (Ok g) = AsksFor script (games_of_given g)
GivesGames script (Err (fault.Bad kind line column)) = games script ≡ Err (fault.Bad kind line column)
GivesGames script (Err fault.Memory) = ⊤

-- the same of a script by its name; what cannot be fetched is free
abbrev pub GivesTold : Option Files → List ℕ → Result ScriptGames GamesFault → Type 0
GivesTold told name (Ok g) = (script : List ℕ) × Tells told name script × AsksFor script (games_of_given g)
GivesTold told name (Err (games_fault.Bad kind line column)) = (script : List ℕ) × Tells told name script × (games script ≡ Err (fault.Bad kind line column))
GivesTold told name (Err games_fault.Unread) = ⊤
GivesTold told name (Err games_fault.Memory) = ⊤
