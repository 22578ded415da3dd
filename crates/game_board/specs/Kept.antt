-- What the type of a board keeps.
use Rattle.std.specs.Prelude.{ℕ, suc, ◌+◌, ◌*◌, ◌≤◌, ◌≡◌, ◌⊎◌, ◌++◌, Bool, true, false, Option, Some, None, List, [], ◌∷◌, length}
use Rattle.lin_term.specs.declared.Sort.{Sort}
use Rattle.dom_core.specs.declared.Side.{Side}
use Rattle.dom_core.specs.Game.{dual}
use Rattle.dom_core.specs.Problem.{IsProblem, problem_of}
use Rattle.game_tree.specs.View.{skeleton_of}
use Rattle.game_history.specs.History.{Entry, won, found, State, of_side, version}
use Rattle.game_history.specs.Legal.{Legal, Fits}
use Rattle.proof_rules.specs.Won.{WonGame}
use Rattle.game_board.specs.declared.entry.Entry.{Entry as Written}
use Rattle.game_board.specs.Entries.{entry_of, entries_of}
use Rattle.game_board.specs.Board.{WrittenBoard, problem_on, state_of}
use Rattle.game_board.specs.Replies.{IsUndecided}
use Rattle.game_board.specs.declared.halves.Halves.{Halves}
use Rattle.game_board.specs.Half.{IsHalfOf}

-- the number of added entries, and whether there is a spent and a too large one
pub record Tally : Type 0 where
  pub added : ℕ
  pub spent : Bool
  pub large : Bool

-- both halves and the tally are those of the state
pub record Matches {D : Type 0} (p : Halves D) (t : Tally) (st : State) : Type 0 where
  pub exists : IsHalfOf p.exists st.of_exists
  pub forall : IsHalfOf p.forall st.of_forall
  pub added : st.rounds ≡ t.added
  pub spent : st.is_spent ≡ t.spent
  pub large : st.is_large ≡ t.large

-- there is a place for each version in the tables of notes
pub record HasTables {D : Type 0} (p : Halves D) (rounds : ℕ) : Type 0 where
  pub exists : length p.exists.noted ≡ suc rounds
  pub forall : length p.forall.noted ≡ suc rounds

-- the entry is the verdict of the side by this game: by a version of the side, or by a skeleton that was found
pub record IsEnding {D : Type 0} (s : Sort) (b : WrittenBoard D) (side : Side) (e : Entry) (w : WonGame) : Type 0 where
  pub problem : w.problem ≡ problem_on side b
  pub by : ((v : ℕ) × (e ≡ won side v) × (version (of_side side (state_of s b)) v ≡ Some (skeleton_of w.tree))) ⊎ (e ≡ found side (skeleton_of w.tree))

-- the last entry is the verdict of a side by this game
pub record IsVerdict {D : Type 0} (s : Sort) (b : WrittenBoard D) (w : WonGame) : Type 0 where
  pub side : Side
  pub before : List Entry
  pub ending : Entry
  pub last : entries_of b.history ≡ before ++ ending ∷ []
  pub is_ending : IsEnding s b side ending w

-- a verdict stands exactly where there is a game that is won, and is by that game
abbrev pub IsDecided : {D : Type 0} → Sort → WrittenBoard D → Option WonGame → Type 0
IsDecided {D} s b None = (state_of s b).is_over ≡ false
IsDecided {D} s b (Some w) = ((state_of s b).is_over ≡ true) × IsVerdict s b w

-- the history is legal, and the board is what it gives; there is room for all entries of a legal history
pub record IsBoard {D : Type 0} (s : Sort) (b : WrittenBoard D) (p : Halves D) (t : Tally) (room : ℕ) : Type 0 where
  pub problem : IsProblem s b.problem
  pub dual_is : problem_of b.dual ≡ dual s (problem_of b.problem)
  pub own : p.exists.problem ≡ b.problem
  pub rival : p.forall.problem ≡ b.dual
  pub few : b.rounds ≤ 4096
  pub legal : Legal s (problem_of b.problem) b.rounds (entries_of b.history)
  pub matches : Matches p t (state_of s b)
  pub tables : HasTables p b.rounds
  pub decided : IsDecided s b b.won
  pub capacity : 2 * b.rounds + 7 ≤ room

-- the entry ends the game, in favour of a side by this game
pub record EndsGame {D : Type 0} (s : Sort) (b : WrittenBoard D) (e : Written D) (w : WonGame) : Type 0 where
  pub open_game : IsUndecided s b
  pub fits : Fits s (problem_of b.problem) b.rounds (state_of s b) (entry_of e)
  pub side : Side
  pub is_ending : IsEnding s b side (entry_of e) w

-- a board by its halves, its budget, its history and its verdict
abbrev pub board_of : {D : Type 0} → Halves D → ℕ → List (Written D) → Option WonGame → WrittenBoard D
board_of {D} h r items w = record { problem = h.exists.problem; dual = h.forall.problem; rounds = r; history = items; won = w }
