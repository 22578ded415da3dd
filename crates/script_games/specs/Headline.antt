-- The headline: what the lines that the checker prints are worth. Said of bytes: those of a script, of a file, and of the printed text.
use Rattle.std.specs.Prelude.{ℕ, ◌≡◌, ◌≢◌, nat_eq, if◌then◌else◌, List, [], ◌∷◌, slice_get, Option, Some, None, Ok, Err, codes}
use Rattle.dom_core.specs.declared.Side.{Side}
use Rattle.dom_core.specs.declared.Side.TheVariants.{Exists, Forall}
use Rattle.lin_truth.specs.Goal.{TrueGoal}
use Rattle.smt_term.specs.Reading.{Read}
use Rattle.smt_goal.specs.Command.{Asked}
use Rattle.smt_goal.specs.Script.{Questions, read}
use Rattle.script_games.specs.Acceptance.{Accepts}

-- ---- the goals of a script; its first check-sat asks goal 0

abbrev pub asked_at : Read Questions → ℕ → Option Asked
asked_at (Ok q) k = slice_get q.goals k
asked_at (Err fault) k = None

abbrev pub goal_at : List ℕ → ℕ → Option Asked
goal_at script k = asked_at (read script) k

-- there are values for the declared constants that make the assertions true
abbrev pub IsTrue : Asked → Type 0
IsTrue g = TrueGoal g.sort g.consts g.body

abbrev pub IsTrueAt : List ℕ → ℕ → Type 0
IsTrueAt script k = (g : Asked) × (goal_at script k ≡ Some g) × IsTrue g

abbrev pub IsFalseAt : List ℕ → ℕ → Type 0
IsFalseAt script k = (g : Asked) × (goal_at script k ≡ Some g) × (¬ IsTrue g)

-- ---- the lines of a text, each without its line feed; bytes behind the last line feed are no line

abbrev pub begun : ℕ → List (List ℕ) → List (List ℕ)
begun b [] = []
begun b (line ∷ more) = (b ∷ line) ∷ more

abbrev pub text_lines : List ℕ → List (List ℕ)
text_lines [] = []
text_lines (b ∷ text) = if nat_eq b 10 then [] ∷ text_lines text else begun b (text_lines text)

-- line k, from 0
abbrev pub line_at : List ℕ → ℕ → Option (List ℕ)
line_at text k = slice_get (text_lines text) k

abbrev pub accepted : Side → List ℕ
accepted Exists = codes "accepted sat"
accepted Forall = codes "accepted unsat"

-- ---- the sentences

-- where line k is `accepted sat`, goal k of the script is true, and the file accepts it
abbrev pub SatIsTrue : List ℕ → List ℕ → List ℕ → Type 0
SatIsTrue script file text = (k : ℕ) → line_at text k ≡ Some (codes "accepted sat") → IsTrueAt script k × Accepts script file k Exists

-- where line k is `accepted unsat`, goal k of the script is not true, and the file accepts it
abbrev pub UnsatIsFalse : List ℕ → List ℕ → List ℕ → Type 0
UnsatIsFalse script file text = (k : ℕ) → line_at text k ≡ Some (codes "accepted unsat") → IsFalseAt script k × Accepts script file k Forall

-- where line k is any other, the file accepts goal k for no side
abbrev pub OthersClaimNothing : List ℕ → List ℕ → List ℕ → Type 0
OthersClaimNothing script file text =
    (k : ℕ) (line : List ℕ) → line_at text k ≡ Some line → line ≢ codes "accepted sat" → line ≢ codes "accepted unsat" → (side : Side) → ¬ Accepts script file k side

-- what the file accepts has its line
abbrev pub AcceptedIsPrinted : List ℕ → List ℕ → List ℕ → Type 0
AcceptedIsPrinted script file text = (k : ℕ) (side : Side) → Accepts script file k side → line_at text k ≡ Some (accepted side)

-- what a whole answer is worth
pub record IsWorth (script file text : List ℕ) : Type 0 where
  pub sat : SatIsTrue script file text
  pub unsat : UnsatIsFalse script file text
  pub printed : AcceptedIsPrinted script file text
