-- What each turn of a game that is played alone comes to.
use Rattle.std.specs.Prelude.{ℕ, suc, ◌≡◌, ◌++◌, ◌∷◌, [], true, false, Some, None, Option, List, length}
use Rattle.lin_term.specs.declared.Sort.{Sort}
use Rattle.dom_core.specs.declared.Side.{Side}
use Rattle.dom_core.specs.Game.{dual}
use Rattle.dom_core.specs.Problem.{WrittenProblem, problem_of}
use Rattle.dom_core.specs.Sides.{other}
use Rattle.game_tree.specs.View.{skeleton_of}
use Rattle.game_tree.specs.Among.{IsAmong}
use Rattle.proof_rules.specs.Won.{WonGame}
use Rattle.game_tree.specs.Written.{WrittenSkeleton}
use Rattle.lose_system.specs.Losing.{system, Solves}
use Rattle.cube_elim.specs.Among.{IsTakenFrom}
use Rattle.cube_elim.specs.Determined.{WideAt}
use Rattle.clause_search.specs.Branches.{branches, SomeIs, EachStops}
use Rattle.term_select.specs.Guided.{guided, first_wide}
use Rattle.game_history.specs.History.{Wideness, cube, choice, Entry, noted, won, of_side, version, newest_number}
use Rattle.game_history.specs.Legal.{OfVersion}
use Rattle.game_history.specs.Work.{IsUnbeaten, HasNote, IsBlocked, SomeHasWork}
use Rattle.game_board.specs.Entries.{wideness_of, entries_of}
use Rattle.game_board.specs.Board.{WrittenBoard, problem_on, state_of}
use Rattle.game_board.specs.Replies.{IsUndecided, AttacksVersion, WinsVersion}
use Rattle.team_work.specs.declared.look.Looked.{Looked}
use Rattle.team_work.specs.declared.look.Looked.TheVariants as looked
use Rattle.team_work.specs.declared.closing.Closing.{Closing}
use Rattle.team_work.specs.declared.closing.Closing.TheVariants as closing
use Rattle.team_work.specs.Shown.{ShownFor, Shown}
use Rattle.team_work.specs.Outcome.{StopsEarly, HasTooLarge}

-- the other problem is the dual, whose dual is the problem
pub record HasDual {D : Type 0} (s : Sort) (b : WrittenBoard D) : Type 0 where
  pub dual_is : problem_of b.dual ≡ dual s (problem_of b.problem)
  pub inverse : dual s (problem_of b.dual) ≡ problem_of b.problem

-- the board is of this problem and this budget
pub record IsBoardOf {D : Type 0} (s : Sort) (P : WrittenProblem) (B : ℕ) (b : WrittenBoard D) : Type 0 where
  pub problem : b.problem ≡ P
  pub rounds : b.rounds ≡ B
  pub duals : HasDual s b

-- each note shows why its version is not attacked further
abbrev pub AllShown : {D : Type 0} → Sort → WrittenBoard D → Type 0
AllShown {D} s b =
    (side : Side) (v : ℕ) (y : Wideness) → IsAmong (noted side v y) (entries_of b.history) → OfVersion (of_side side (state_of s b)) v (ShownFor s (problem_of b.problem) side y)

-- no verdict stands, no budget is spent, no union was too large, and each note is shown
pub record IsGoing {D : Type 0} (s : Sort) (b : WrittenBoard D) : Type 0 where
  pub open_game : IsUndecided s b
  pub unspent : (state_of s b).is_spent ≡ false
  pub small : (state_of s b).is_large ≡ false
  pub shown : AllShown s b

-- ---- a look

-- of a problem and a skeleton of its Exists: a wide cube where no branch is solved within the cap, or a solution from which the
-- other player's selection stops
abbrev pub IsShownOf : Sort → WrittenProblem → WrittenSkeleton → Wideness → Type 0
IsShownOf s P S (cube c z) =
    let sys = system s (problem_of P) (skeleton_of S.tree) in
    SomeIs (IsTakenFrom c) (branches sys) × WideAt s c z × EachStops s sys
IsShownOf s P S (choice p x z) =
    Solves s (system s (problem_of P) (skeleton_of S.tree)) p × (first_wide (guided s (dual s (problem_of P)) (skeleton_of S.tree) p).numbers ≡ Some (x, z))

-- what an attack on a skeleton of a side comes to
abbrev pub Comes : {D : Type 0} → Sort → Side → WrittenProblem → WrittenSkeleton → Looked D → Type 0
Comes {D} s side P S (looked.Won w) = (w.problem ≡ P) × (w.tree ≡ S.tree)
Comes {D} s side P S (looked.Beaten c) = (c.side ≡ other side) × (problem_of c.problem ≡ dual s (problem_of P)) × (c.against ≡ S)
Comes {D} s side P S (looked.Wide y) = IsShownOf s P S (wideness_of y)

-- what an attack on a version of a side comes to: it is won, has a counter, or is not attacked further
abbrev pub IsLooked : {D : Type 0} → Sort → WrittenBoard D → Side → ℕ → Looked D → Type 0
IsLooked {D} s b side v (looked.Won w) = WinsVersion s b w side v
IsLooked {D} s b side v (looked.Beaten c) = (c.side ≡ other side) × AttacksVersion s b c v
IsLooked {D} s b side v (looked.Wide y) = OfVersion (of_side side (state_of s b)) v (ShownFor s (problem_of b.problem) side (wideness_of y))

-- ---- a stop

-- each note on the newest version of the side is shown, where that is not beaten
abbrev pub IsNewestShown : {D : Type 0} → Sort → WrittenBoard D → Side → Type 0
IsNewestShown {D} s b x =
    IsUnbeaten x (state_of s b) → (z : Wideness) → HasNote s (problem_of b.problem) (entries_of b.history) x z → Shown s (problem_of b.problem) (entries_of b.history) x (newest_number (of_side x (state_of s b))) z

-- the side has won, by a version that the last entry names
pub record IsWonOn {D : Type 0} (s : Sort) (b : WrittenBoard D) (side : Side) : Type 0 where
  pub game : WonGame
  pub won_is : b.won ≡ Some game
  pub problem : game.problem ≡ problem_on side b
  pub before : List Entry
  pub number : ℕ
  pub last : entries_of b.history ≡ before ++ won side number ∷ []
  pub there : version (of_side side (state_of s b)) number ≡ Some (skeleton_of game.tree)

abbrev pub Stops : {D : Type 0} → Sort → WrittenBoard D → Closing → Type 0
Stops {D} s b (closing.Won side) = IsWonOn s b side
Stops {D} s b closing.Blocked =
    IsUndecided s b × (¬ SomeHasWork (state_of s b)) × IsBlocked s (problem_of b.problem) (entries_of b.history) × ((x : Side) → IsNewestShown s b x)
Stops {D} s b closing.Spent = StopsEarly s (problem_of b.problem) (entries_of b.history) × ((state_of s b).is_spent ≡ true)
Stops {D} s b (closing.TooLarge n) = StopsEarly s (problem_of b.problem) (entries_of b.history) × ((state_of s b).is_spent ≡ false) × HasTooLarge (entries_of b.history) n

-- ---- a turn

-- the same problem, dual and budget
pub record IsSameGame {D : Type 0} (b b' : WrittenBoard D) : Type 0 where
  pub problem : b'.problem ≡ b.problem
  pub dual : b'.dual ≡ b.dual
  pub rounds : b'.rounds ≡ b.rounds

-- the game stops, or one entry was added and it goes on
abbrev pub Turns : {D : Type 0} → Sort → WrittenBoard D → Option Closing → WrittenBoard D → Type 0
Turns {D} s b None b' = IsGoing s b' × (length b'.history ≡ suc (length b.history))
Turns {D} s b (Some x) b' = Stops s b' x
