-- Lists of events.
use Rattle.std.specs.Prelude.{ℕ, ◌≡◌, None, List, [], ◌∷◌}
use Rattle.lin_term.specs.declared.Sort.{Sort}
use Rattle.dom_core.specs.Game.{dual}
use Rattle.dom_core.specs.Problem.{WrittenProblem, problem_of}
use Rattle.game_board.specs.declared.reply.Event.{Event}
use Rattle.game_board.specs.declared.reply.Reply.{Reply}
use Rattle.game_board.specs.Board.{WrittenBoard}
use Rattle.game_board.specs.Replies.{StepsTo}

-- the board of a problem and a budget on which nothing has happened
pub record IsFirst {D : Type 0} (s : Sort) (P : WrittenProblem) (rounds : ℕ) (b : WrittenBoard D) : Type 0 where
  pub problem : b.problem ≡ P
  pub dual_is : problem_of b.dual ≡ dual s (problem_of P)
  pub rounds_are : b.rounds ≡ rounds
  pub history : b.history ≡ []
  pub won : b.won ≡ None

-- one event after the other leads from the first board to the last
abbrev pub RunsEvents : {D : Type 0} → Sort → WrittenBoard D → List (Event D) → WrittenBoard D → Type 0
RunsEvents {D} s b [] b' = b' ≡ b
RunsEvents {D} s b (e ∷ es) b' = (c : WrittenBoard D) × (r : Reply D) × StepsTo s b e r c × RunsEvents s c es b'

-- the events lead from the first board of the problem and the budget to this one
abbrev pub LeadsTo : {D : Type 0} → Sort → WrittenProblem → ℕ → List (Event D) → WrittenBoard D → Type 0
LeadsTo {D} s P rounds es b' = (b : WrittenBoard D) × IsFirst s P rounds b × RunsEvents s b es b'
