-- What is said of a run whose files and output are told.
use Rattle.std.specs.Prelude.{ℕ, ◌≡◌, ◌++◌, List, Option, Some}
use Rattle.ss_shelf.specs.Outside.{Files}
use Rattle.simcheck.specs.Words.{Names}

-- the words name a script and a file of these bytes, and the run wrote this text behind what stood in the output
pub record IsTold (told : Option Files) (names : Option Names) (before now : Option (List ℕ)) (script file text : List ℕ) : Type 0 where
  pub files : Files
  pub files_told : told ≡ Some files
  pub words : Names
  pub words_named : names ≡ Some words
  pub script_there : files words.script ≡ Some script
  pub file_there : files words.file ≡ Some file
  pub old : List ℕ
  pub old_told : before ≡ Some old
  pub written : now ≡ Some (old ++ text)

-- the sentence holds of the script, the file and the text, where they are told
abbrev pub WhereTold : Option Files → Option Names → Option (List ℕ) → Option (List ℕ) → (List ℕ → List ℕ → List ℕ → Type 0) → Type 0
WhereTold told names before now Sentence = (script file text : List ℕ) → IsTold told names before now script file text → Sentence script file text
