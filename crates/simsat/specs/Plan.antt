-- Plans of `src/` as answers, and what they are made from.
use Rattle.std.specs.Prelude.{ℕ, ◌≡◌, ◌≢◌, ◌≤◌, List, [], ◌∷◌, map, length, Option, Some, None, Result, Ok, Err, string_bytes, ⊤}
use Rattle.lin_term.specs.declared.Sort.{Sort}
use Rattle.dom_core.specs.declared.Quant.{Quant}
use Rattle.dom_core.specs.Game.{Problem, TrueP}
use Rattle.strat_text.specs.Spelling.{Spells}
use Rattle.ss_shelf.specs.Outside.{Files}
use Rattle.script_games.specs.Games.{Games}
use Rattle.solve_words.specs.Words.{Word, Names, Asking, solve, generate}
use Rattle.solve_texts.specs.declared.Solved.{Solved}
use Rattle.solve_texts.specs.Texts.{lines, strategy_sections, strategy_text}
use Rattle.solve_texts.specs.Journal.{journal_text}
use Rattle.simsat.specs.declared.status.SolveStatus.{SolveStatus}
use Rattle.simsat.specs.declared.status.SolveStatus.TheVariants as status
use Rattle.simsat.specs.declared.plan.NewFile.{NewFile}
use Rattle.simsat.specs.declared.plan.Plan.{Plan}
use Rattle.simsat.specs.declared.plan.Halt.{Halt}
use Rattle.simsat.specs.declared.plan.Halt.TheVariants as halt
use Rattle.simsat.specs.Solved.{IsSolved}
use Rattle.simsat.specs.Answer.{Answer, Answers, solved_answer}
use Rattle.simsat.specs.Run.{IsBegun}

abbrev pub store_of : NewFile → Word × List ℕ
store_of x = (string_bytes x.name, x.bytes.items)

abbrev pub answer_of : Plan → Answer
answer_of p = record { status = p.status; text = p.text.items; outcomes = p.outcomes.items; stores = map store_of p.stores.items }

-- what the grammar says of the numbers and the names
abbrev pub Fits : Asking → Type 0
Fits (solve names) = (names.rounds ≤ 4096) × ((journal : Word) → names.journal ≡ Some journal → journal ≢ names.strategy)
Fits (generate size rounds) = (size ≤ 64) × (rounds ≤ 4096)

-- the statuses of an answer
abbrev pub IsReady : SolveStatus → Type 0
IsReady status.Done = ⊤
IsReady status.Usage = ⊤
IsReady status.Refused = ⊤
IsReady status.ReadFault = ⊥
IsReady status.StoreFault = ⊥
IsReady status.PrintFault = ⊥
IsReady status.Memory = ⊥

-- outcomes of the first problems, in order, within B rounds, each with the right verdict for its problem
abbrev pub ArePlayed : ℕ → Sort → List Problem → List Solved → Type 0
ArePlayed B s Ps [] = ⊤
ArePlayed B s [] (o ∷ os) = ⊥
ArePlayed B s (P ∷ Ps) (o ∷ os) = IsSolved B s P (TrueP s P) o × ArePlayed B s Ps os

abbrev pub stores_named : Word → Option Word → List (List Quant) → List Solved → List (Word × List ℕ)
stores_named strategy None qs os = (strategy, strategy_text os) ∷ []
stores_named strategy (Some journal) qs os = (strategy, strategy_text os) ∷ (journal, journal_text qs os) ∷ []

-- the strategy, and the journal where one is named, of games with these prefixes
abbrev pub stores_with : Names → List (List Quant) → List Solved → List (Word × List ℕ)
stores_with names qs os = stores_named names.strategy names.journal qs os

-- the plan of these outcomes; want of memory hands them back
abbrev pub PlansSolved : Names → List (List Quant) → List Solved → Result Plan Halt → Type 0
PlansSolved names qs os (Ok p) =
    (answer_of p ≡ record { status = status.Done; text = lines os; outcomes = os; stores = stores_with names qs os }) × IsReady p.status
    × Spells (strategy_text os) (strategy_sections os)
PlansSolved names qs os (Err halt.Unread) = ⊥
PlansSolved names qs os (Err (halt.Memory xs)) = xs.items ≡ os

-- a plan for games that were played to their ends, or outcomes of the first of them
abbrev pub PlansGames : Names → Games → Result Plan Halt → Type 0
PlansGames names g (Ok p) =
    ArePlayed names.rounds g.sort g.problems p.outcomes.items × (length p.outcomes.items ≡ length g.problems)
    × Spells (strategy_text p.outcomes.items) (strategy_sections p.outcomes.items) × (answer_of p ≡ solved_answer names g p.outcomes.items) × IsReady p.status
PlansGames names g (Err halt.Unread) = ⊥
PlansGames names g (Err (halt.Memory os)) = ArePlayed names.rounds g.sort g.problems os.items

-- the name that a run may fetch
abbrev pub IsScriptOf : Option Asking → Word → Type 0
IsScriptOf None name = ⊥
IsScriptOf (Some (solve names)) name = name ≡ names.script
IsScriptOf (Some (generate n B)) name = ⊥

-- a plan for the answer to the words, or what is known where there is none
abbrev pub PlansWords : Option Files → Option Asking → Result Plan Halt → Type 0
PlansWords told asking (Ok p) = Answers told asking (answer_of p) × IsReady p.status
PlansWords told asking (Err halt.Unread) = (names : Names) × (asking ≡ Some (solve names))
PlansWords told asking (Err (halt.Memory os)) = IsBegun told asking os.items
