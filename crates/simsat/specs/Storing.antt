-- What storing files one after the other leaves.
use Rattle.std.specs.Prelude.{ℕ, ◌≡◌, List, ◌∷◌, ◌++◌, Option, Result, Ok, Err}
use Rattle.ss_shelf.specs.declared.CallKind.TheVariants.{Store}
use Rattle.ss_shelf.specs.declared.ShelfFault.{ShelfFault}
use Rattle.ss_shelf.specs.declared.ShelfFault.TheVariants as fault
use Rattle.ss_shelf.specs.Outside.{Files, Counts}
use Rattle.solve_words.specs.Words.{Word}
use Rattle.simsat.specs.Effects.{HasStored, NoName, OneRose}

-- one of the files could not be stored; those before it were
pub record FailedAt (xs : List (Word × List ℕ)) (old new : Option Files) (counts counts' : Counts) : Type 0 where
  pub before : List (Word × List ℕ)
  pub failed : Word × List ℕ
  pub behind : List (Word × List ℕ)
  pub stores : xs ≡ before ++ failed ∷ behind
  pub files : HasStored old new before (λ name. name ≡ failed.0)
  pub rose : OneRose Store failed.0 counts counts'

-- the first of the files were stored
pub record StoredFirst (xs : List (Word × List ℕ)) (old new : Option Files) (counts counts' : Counts) : Type 0 where
  pub before : List (Word × List ℕ)
  pub behind : List (Word × List ℕ)
  pub stores : xs ≡ before ++ behind
  pub files : HasStored old new before NoName
  pub kept : counts' ≡ counts

abbrev pub StoresEach : List (Word × List ℕ) → Option Files → Option Files → Counts → Counts → Result (Unit {0}) ShelfFault → Type 0
StoresEach xs old new counts counts' (Ok u) = HasStored old new xs NoName × (counts' ≡ counts)
StoresEach xs old new counts counts' (Err fault.Failed) = FailedAt xs old new counts counts'
StoresEach xs old new counts counts' (Err fault.Memory) = StoredFirst xs old new counts counts'
