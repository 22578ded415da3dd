-- What a run leaves of files, output and counts.
use Rattle.std.specs.Prelude.{ℕ, ◌≡◌, ◌≢◌, ◌<◌, ◌⊎◌, if◌then◌else◌, List, [], ◌∷◌, ◌++◌, Option, Some, None}
use Rattle.std.specs.Str.{bytes_eq}
use Rattle.ss_shelf.specs.declared.CallKind.{CallKind}
use Rattle.ss_shelf.specs.declared.CallKind.TheVariants.{Store}
use Rattle.ss_shelf.specs.Outside.{Files, Counts, Appends, AppendsPart, Rose}
use Rattle.solve_words.specs.Words.{Word}
use Rattle.simsat.specs.declared.status.SolveStatus.{SolveStatus}
use Rattle.simsat.specs.declared.status.SolveStatus.TheVariants as status
use Rattle.simsat.specs.Answer.{Answer}

-- what shelf and sink tell before and after
pub record Effects : Type 0 where
  pub files : Option Files
  pub files_after : Option Files
  pub counts : Counts
  pub counts_after : Counts
  pub written : Option (List ℕ)
  pub written_after : Option (List ℕ)
  pub faults : ℕ
  pub faults_after : ℕ

-- this file holds these bytes, and the others are as before
abbrev pub with_file : Files → Word × List ℕ → Files
with_file old x name = if bytes_eq x.0 name then Some x.1 else old name

-- the files once these are stored, one after the other
abbrev pub stored_in : Files → List (Word × List ℕ) → Files
stored_in old [] = old
stored_in old (x ∷ xs) = stored_in (with_file old x) xs

-- where the shelf tells its files, these were stored and no other changed, but for one whose bytes are left open
abbrev pub HasStored : Option Files → Option Files → List (Word × List ℕ) → (Word → Type 0) → Type 0
HasStored None after xs IsOpen = after ≡ None
HasStored (Some old) None xs IsOpen = ⊥
HasStored (Some old) (Some new) xs IsOpen = (name : Word) → ¬ IsOpen name → new name ≡ stored_in old xs name

abbrev pub NoName : Word → Type 0
NoName name = ⊥

-- the count of this kind and name rose, and no other changed
pub record OneRose (kind : CallKind) (name : Word) (before now : Counts) : Type 0 where
  pub rose : before kind name < now kind name
  pub others : (k : CallKind) → (n : Word) → (k ≡ kind → n ≢ name) → now k n ≡ before k n

-- all was stored and printed
pub record Whole (a : Answer) (e : Effects) : Type 0 where
  pub files : HasStored e.files e.files_after a.stores NoName
  pub written : Appends e.written e.written_after a.text
  pub counts : e.counts_after ≡ e.counts

-- the files before one were stored; that one may hold any bytes, and those behind it are as before; nothing was written
pub record FailsToStore (a : Answer) (e : Effects) : Type 0 where
  pub before : List (Word × List ℕ)
  pub failed : Word × List ℕ
  pub behind : List (Word × List ℕ)
  pub stores : a.stores ≡ before ++ failed ∷ behind
  pub files : HasStored e.files e.files_after before (λ name. name ≡ failed.0)
  pub written : e.written_after ≡ e.written
  pub counts : OneRose Store failed.0 e.counts e.counts_after

-- all was stored, and a prefix of the text written
pub record FailsToPrint (a : Answer) (e : Effects) : Type 0 where
  pub files : HasStored e.files e.files_after a.stores NoName
  pub written : AppendsPart e.written e.written_after a.text
  pub counts : e.counts_after ≡ e.counts
  pub rose : Rose e.faults e.faults_after

-- memory was wanted: the first files were stored, and a prefix of the text was written only where all of them were
pub record PublishesSome (a : Answer) (e : Effects) : Type 0 where
  pub stored : List (Word × List ℕ)
  pub behind : List (Word × List ℕ)
  pub stores : a.stores ≡ stored ++ behind
  pub files : HasStored e.files e.files_after stored NoName
  pub written : (e.written_after ≡ e.written) ⊎ ((behind ≡ []) × AppendsPart e.written e.written_after a.text)
  pub counts : e.counts_after ≡ e.counts

-- how an answer that is ready ends
abbrev pub Publishes : Answer → Effects → SolveStatus → Type 0
Publishes a e status.Done = (a.status ≡ status.Done) × Whole a e
Publishes a e status.Usage = (a.status ≡ status.Usage) × Whole a e
Publishes a e status.Refused = (a.status ≡ status.Refused) × Whole a e
Publishes a e status.ReadFault = ⊥
Publishes a e status.StoreFault = FailsToStore a e
Publishes a e status.PrintFault = FailsToPrint a e
Publishes a e status.Memory = PublishesSome a e
