-- The outcome of a game: what each verdict says of its history.
use Rattle.std.specs.Prelude.{ℕ, ◌≡◌, ◌⊎◌, ◌++◌, true, false, Some, List, [], ◌∷◌, ⊤}
use Rattle.lin_term.specs.declared.Sort.{Sort}
use Rattle.dom_core.specs.declared.Side.{Side}
use Rattle.dom_core.specs.declared.Side.TheVariants.{Exists, Forall}
use Rattle.dom_core.specs.Game.{Problem}
use Rattle.dom_core.specs.Problem.{problem_of}
use Rattle.dom_core.specs.Sides.{problem_for}
use Rattle.game_tree.specs.Skeleton.{Skeleton}
use Rattle.game_tree.specs.View.{skeleton_of}
use Rattle.game_tree.specs.Among.{IsAmong}
use Rattle.game_tree.specs.Union.{In}
use Rattle.proof_rules.specs.Won.{WonGame, IsWon}
use Rattle.game_history.specs.History.{Wideness, Entry, too_large, won, found, SideState, of_side, version, newest_number, replay}
use Rattle.game_history.specs.Legal.{Legal}
use Rattle.game_history.specs.Work.{IsUnbeaten, SomeHasWork, HasNote, IsNoted}
use Rattle.round_bounds.specs.Bounds.{MaySpend}
use Rattle.game_board.specs.declared.Why.{Why}
use Rattle.game_board.specs.declared.Why.TheVariants as why
use Rattle.game_board.specs.Entries.{wideness_of, entries_of}
use Rattle.team_work.specs.declared.outcome.Verdict.{Verdict}
use Rattle.team_work.specs.declared.outcome.Verdict.TheVariants as verdict
use Rattle.team_work.specs.declared.outcome.Outcome.{Outcome}
use Rattle.team_work.specs.Shown.{Shown}

-- the entry is the verdict of a side by this skeleton: by a version of its, or by one that was found
abbrev pub IsVerdictBy : Side → SideState → Entry → Skeleton → Type 0
IsVerdictBy side x e S = ((v : ℕ) × (e ≡ won side v) × (version x v ≡ Some S)) ⊎ (e ≡ found side S)

-- the history ends with the verdict of a side by a skeleton, and the game is won by a part of it
pub record IsWonBy (s : Sort) (P : Problem) (H : List Entry) (side : Side) (w : WonGame) : Type 0 where
  pub before : List Entry
  pub ending : Entry
  pub last : H ≡ before ++ ending ∷ []
  pub whole : Skeleton
  pub verdict : IsVerdictBy side (of_side side (replay s P H)) ending whole
  pub part : In (skeleton_of w.tree) whole
  pub problem : problem_of w.problem ≡ problem_for s side P
  pub is_won : IsWon s w

-- No side has work without a verdict. Each newest version that is not beaten has a note, and each such note is shown. This is one
-- of these notes, and one of Exists where there is one.
pub record StopsWide (s : Sort) (P : Problem) (H : List Entry) (side : Side) (v : ℕ) (y : Wideness) : Type 0 where
  pub open_game : (replay s P H).is_over ≡ false
  pub no_work : ¬ SomeHasWork (replay s P H)
  pub each_noted : (x : Side) → IsUnbeaten x (replay s P H) → IsNoted s P H x
  pub each_shown : (x : Side) → IsUnbeaten x (replay s P H) → (z : Wideness) → HasNote s P H x z → Shown s P H x (newest_number (of_side x (replay s P H))) z
  pub unbeaten : IsUnbeaten side (replay s P H)
  pub newest : v ≡ newest_number (of_side side (replay s P H))
  pub note : HasNote s P H side y
  pub exists_first : side ≡ Forall → ¬ IsUnbeaten Exists (replay s P H)

-- there is work left without a verdict
pub record StopsEarly (s : Sort) (P : Problem) (H : List Entry) : Type 0 where
  pub open_game : (replay s P H).is_over ≡ false
  pub work : SomeHasWork (replay s P H)

-- a counter was too large, since its union with a version has n nodes
pub record HasTooLarge (H : List Entry) (n : ℕ) : Type 0 where
  pub side : Side
  pub number : ℕ
  pub tree : Skeleton
  pub entry : IsAmong (too_large side number tree n) H

-- what a cause says, after the history H within a budget of B rounds
abbrev pub SaysWhy : {D : Type 0} → Sort → Problem → ℕ → List Entry → Why D → Type 0
SaysWhy {D} s P B H (why.Coefficient n) = StopsWide s P H n.side n.version (wideness_of n.why)
SaysWhy {D} s P B H (why.Rounds n) = StopsEarly s P H × ((replay s P H).is_spent ≡ true) × (n ≡ B)
SaysWhy {D} s P B H (why.Nodes n) = StopsEarly s P H × ((replay s P H).is_spent ≡ false) × HasTooLarge H n

-- what the verdict says
abbrev pub Says : {D : Type 0} → Sort → Problem → ℕ → List Entry → Verdict D → Type 0
Says {D} s P B H (verdict.Sat w) = IsWonBy s P H Exists w
Says {D} s P B H (verdict.Unsat w) = IsWonBy s P H Forall w
Says {D} s P B H (verdict.Unknown y) = SaysWhy s P B H y

-- an outcome of the problem within B rounds
pub record IsOutcome {D : Type 0} (s : Sort) (P : Problem) (B : ℕ) (o : Outcome D) : Type 0 where
  pub legal : Legal s P B (entries_of o.journal)
  pub rounds_given : o.rounds ≡ B
  pub says : Says s P B (entries_of o.journal) o.verdict

-- the verdict is right for what is asked
abbrev pub IsRight : {D : Type 0} → Type 0 → Verdict D → Type 0
IsRight {D} Truth (verdict.Sat w) = Truth
IsRight {D} Truth (verdict.Unsat w) = ¬ Truth
IsRight {D} Truth (verdict.Unknown y) = ⊤

-- the rounds are named as the cause only where they were fewer than is known to be enough
abbrev pub HasFewFor : {D : Type 0} → Sort → Problem → ℕ → Why D → Type 0
HasFewFor {D} s P B (why.Coefficient n) = ⊤
HasFewFor {D} s P B (why.Rounds n) = MaySpend s P B
HasFewFor {D} s P B (why.Nodes n) = ⊤

abbrev pub HasFewRounds : {D : Type 0} → Sort → Problem → ℕ → Verdict D → Type 0
HasFewRounds {D} s P B (verdict.Sat w) = ⊤
HasFewRounds {D} s P B (verdict.Unsat w) = ⊤
HasFewRounds {D} s P B (verdict.Unknown y) = HasFewFor s P B y
