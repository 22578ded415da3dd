-- What a session has read, as the definition of reading sees it.
use Rattle.std.specs.Prelude.{◌≡◌, ◌<◌, ◌≤◌, ℕ, List, [], ◌∷◌, ◌++◌, length, map, Result, Ok, Err}
use Rattle.ss_names.specs.declared.ScriptFault.{ScriptFault}
use Rattle.ss_names.specs.declared.ScriptFault.TheVariants.{Bad, Memory}
use Rattle.lin_truth.specs.declared.VarSort.TheVariants as sorts
use Rattle.symbol_table.specs.declared.Known.{Known}
use Rattle.term_table.specs.Placed.{Typed, top, parameter}
use Rattle.term_table.specs.Meaning.{Meaning, at, meanings, Extends, AreBelow}
use Rattle.smt_term.specs.declared.Binding.{Binding}
use Rattle.smt_term.specs.declared.Reader.{Reader}
use Rattle.smt_term.specs.Reading.{Read}
use Rattle.smt_term.specs.Scope.{parameter_names}
use Rattle.smt_term.specs.Newest.{newest_first}
use Rattle.smt_term.specs.View.{entries_at, NamesIn}
use Rattle.smt_goal.specs.declared.session.Question.{Question}
use Rattle.smt_goal.specs.declared.session.Session.{Session}
use Rattle.smt_goal.specs.Command.{Asked, State, sort_or_rat}

-- a goal, by the entry of its root
abbrev pub asked_at : List Meaning → Question → Asked
asked_at ms q = record { sort = q.sort; line = q.line; column = q.column; consts = q.consts; body = at ms q.root top (length q.consts) }

-- an asserted formula, by its entry
abbrev pub formula_at : List Meaning → ℕ → Typed
formula_at ms i = record { sort = sorts.Bool; tree = at ms i }

abbrev pub state_seen : Session → State
state_seen s = record {
  logic = s.logic;
  names = entries_at (meanings s.reader.table) s.reader.signatures.items s.reader.names;
  consts = s.consts.items;
  asserted = map (formula_at (meanings s.reader.table)) s.asserted.items;
  goals = map (asked_at (meanings s.reader.table)) s.goals.items;
  ended = s.ended;
}

-- each root is in a table of so many
abbrev pub RootsIn : ℕ → List Question → Type 0
RootsIn n [] = Unit {0}
RootsIn n (q ∷ qs) = (q.root < n) × RootsIn n qs

-- each name has one of so many signatures, or none
abbrev pub SignedIn : ℕ → List (List ℕ × Known) → Type 0
SignedIn n [] = Unit {0}
SignedIn n (k ∷ ks) = (k.1.signature ≤ n) × SignedIn n ks

-- what is named is in the table, and terms are read in the logic that was set
pub record IsReady (s : Session) : Type 0 where
  pub names : NamesIn (length s.reader.table) s.reader.names
  pub signed : SignedIn (length s.reader.signatures.items) s.reader.names
  pub asserted : AreBelow (length s.reader.table) s.asserted.items
  pub roots : RootsIn (length s.reader.table) s.goals.items
  pub logic : s.reader.logic ≡ sort_or_rat s.logic
  pub around : s.reader.around ≡ 0

-- What a command made of a session is what the definition makes of it. After want of memory nothing is said.
abbrev pub Obeys : Read State → Result (Unit {0}) ScriptFault → Session → Type 0
Obeys read (Ok u) new = (read ≡ Ok (state_seen new)) × IsReady new
Obeys read (Err (Bad k line column)) new = read ≡ Err (Bad k line column)
Obeys read (Err Memory) new = Unit {0}

-- the same, of a session that was given away
abbrev pub Reaches : Read State → Result Session ScriptFault → Type 0
Reaches read (Ok s) = (read ≡ Ok (state_seen s)) × IsReady s
Reaches read (Err (Bad k line column)) = read ≡ Err (Bad k line column)
Reaches read (Err Memory) = Unit {0}

-- a command that changes nothing
abbrev pub Passes : State → Read State → Result (Unit {0}) ScriptFault → Type 0
Passes st read (Ok u) = read ≡ Ok st
Passes st read (Err (Bad k line column)) = read ≡ Err (Bad k line column)
Passes st read (Err Memory) = Unit {0}

-- the table grew, and nothing was said
pub record Remains (old new : Session) : Type 0 where
  pub state : state_seen new ≡ state_seen old
  pub ready : IsReady new

abbrev pub with_assertion : State → Typed → State
with_assertion st t = record st { asserted = st.asserted ++ t ∷ [] }

-- names for these parameters stand over those that were there
pub record IsBound (old new : Reader) (params : List Binding) : Type 0 where
  pub names : entries_at (meanings new.table) old.signatures.items new.names ≡ parameter_names (newest_first [] params) (entries_at (meanings old.table) old.signatures.items old.names)
  pub over : (ks : List (List ℕ × Known)) × (new.names ≡ ks ++ old.names) × (length ks ≡ length params)
  pub within : NamesIn (length new.table) new.names
  pub grown : Extends old.table new.table
  pub signatures : new.signatures.items ≡ old.signatures.items
  pub logic : new.logic ≡ old.logic
  pub around : new.around ≡ old.around

-- a name for the parameter with this number stands over those that were there
pub record IsNamed (old new : Reader) (param : Binding) (number : ℕ) : Type 0 where
  pub names : (place : ℕ) × (new.names ≡ (param.name.now, record { sort = param.sort; node = place; signature = 0 }) ∷ old.names) × (at (meanings new.table) place ≡ parameter number) × (place < length new.table)
  pub grown : Extends old.table new.table
  pub signatures : new.signatures.items ≡ old.signatures.items
  pub logic : new.logic ≡ old.logic
  pub around : new.around ≡ old.around
