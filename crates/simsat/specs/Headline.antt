-- The headline: what the lines that the solver prints are worth. Said of bytes: those of the script, of the stored file, and of the
-- printed text.
use Rattle.std.specs.Prelude.{ℕ, ◌≡◌, ◌++◌, nat_eq, if◌then◌else◌, List, [], ◌∷◌, slice_get, Option, Some, codes}
use Rattle.dom_core.specs.declared.Side.{Side}
use Rattle.dom_core.specs.declared.Side.TheVariants.{Exists, Forall}
use Rattle.ss_shelf.specs.Outside.{Files}
use Rattle.script_games.specs.Acceptance.{Accepts}
use Rattle.script_games.specs.Headline.{IsTrueAt, IsFalseAt, text_lines}
use Rattle.solve_words.specs.Words.{Word, Names, solve}
use Rattle.simsat.specs.Run.{Run}

-- the lines but for those that begin with `;`, which give the cause of an `unknown`
abbrev pub verdict_of_line : List ℕ → List (List ℕ)
verdict_of_line [] = [] ∷ []
verdict_of_line (b ∷ line) = if nat_eq b 59 then [] else (b ∷ line) ∷ []

abbrev pub verdicts_among : List (List ℕ) → List (List ℕ)
verdicts_among [] = []
verdicts_among (line ∷ more) = verdict_of_line line ++ verdicts_among more

-- verdict k of a text, from 0
abbrev pub verdict_at : List ℕ → ℕ → Option (List ℕ)
verdict_at text k = slice_get (verdicts_among (text_lines text)) k

-- the words name a script of these bytes and a strategy file; files and output are told, and the run wrote this text behind what stood in
-- the output
pub record IsTold (r : Run) : Type 0 where
  pub names : Names
  pub asked : r.asking ≡ Some (solve names)
  pub files : Files
  pub files_told : r.left.files ≡ Some files
  pub after : Files
  pub after_told : r.left.files_after ≡ Some after
  pub script : List ℕ
  pub script_there : files names.script ≡ Some script
  pub old : List ℕ
  pub old_told : r.left.written ≡ Some old
  pub text : List ℕ
  pub text_told : r.left.written_after ≡ Some (old ++ text)

-- the file of this name accepts goal k for the side
abbrev pub IsAcceptedIn : Files → Word → List ℕ → ℕ → Side → Type 0
IsAcceptedIn files name script k side = (file : List ℕ) × (files name ≡ Some file) × Accepts script file k side

-- where verdict k is `sat`, goal k of the script is true, and the stored strategy is accepted for Exists
abbrev pub SatIsTrue : Run → Type 0
SatIsTrue r = (t : IsTold r) → (k : ℕ) → verdict_at t.text k ≡ Some (codes "sat") → IsTrueAt t.script k × IsAcceptedIn t.after t.names.strategy t.script k Exists

-- where it is `unsat`, goal k is not true, and the stored strategy is accepted for Forall
abbrev pub UnsatIsFalse : Run → Type 0
UnsatIsFalse r = (t : IsTold r) → (k : ℕ) → verdict_at t.text k ≡ Some (codes "unsat") → IsFalseAt t.script k × IsAcceptedIn t.after t.names.strategy t.script k Forall
