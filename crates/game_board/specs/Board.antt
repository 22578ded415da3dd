-- A board as contracts see it: the game and what happened.
use Rattle.std.specs.Prelude.{ℕ, ◌++◌, ◌∷◌, [], Option, Some, List}
use Rattle.lin_term.specs.declared.Sort.{Sort}
use Rattle.dom_core.specs.declared.Side.{Side}
use Rattle.dom_core.specs.declared.Side.TheVariants.{Exists, Forall}
use Rattle.dom_core.specs.Problem.{WrittenProblem, problem_of}
use Rattle.game_history.specs.History.{State, replay}
use Rattle.proof_rules.specs.Won.{WonGame}
use Rattle.game_board.specs.declared.entry.Entry.{Entry}
use Rattle.game_board.specs.Entries.{entries_of}

-- the problem and its dual, the budget of rounds, the history, and the game that is won where a verdict stands
pub record WrittenBoard (D : Type 0) : Type 0 where
  pub problem : WrittenProblem
  pub dual : WrittenProblem
  pub rounds : ℕ
  pub history : List (Entry D)
  pub won : Option WonGame

-- the problem in which the side is Exists
abbrev pub problem_on : {D : Type 0} → Side → WrittenBoard D → WrittenProblem
problem_on {D} Exists b = b.problem
problem_on {D} Forall b = b.dual

-- what the history gives: versions, reaches, notes, and whether a verdict stands
abbrev pub state_of : {D : Type 0} → Sort → WrittenBoard D → State
state_of {D} s b = replay s (problem_of b.problem) (entries_of b.history)

abbrev pub with_entry : {D : Type 0} → WrittenBoard D → Entry D → WrittenBoard D
with_entry {D} b e = record { problem = b.problem; dual = b.dual; rounds = b.rounds; history = b.history ++ e ∷ []; won = b.won }

abbrev pub with_verdict : {D : Type 0} → WrittenBoard D → Entry D → WonGame → WrittenBoard D
with_verdict {D} b e w = record { problem = b.problem; dual = b.dual; rounds = b.rounds; history = b.history ++ e ∷ []; won = Some w }
