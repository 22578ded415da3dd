-- What the reader keeps, as the definitions see it.
use Rattle.std.specs.Prelude.{◌≡◌, ◌<◌, ℕ, ℤ, Bool, true, List, [], ◌∷◌, length, map, Option, Some, None, Result, Ok, Err}
use Rattle.std.specs.Global.{Vec}
use Rattle.ss_names.specs.declared.ScriptFault.{ScriptFault}
use Rattle.ss_names.specs.declared.ScriptFault.TheVariants.{Bad, Memory}
use Rattle.lin_truth.specs.declared.VarSort.{VarSort}
use Rattle.symbol_table.specs.declared.Known.{Known}
use Rattle.term_table.specs.declared.Node.{Node}
use Rattle.term_table.specs.declared.Worth.{Worth}
use Rattle.term_table.specs.Placed.{Frame, Typed, top}
use Rattle.term_table.specs.Worth.{worth_of}
use Rattle.term_table.specs.Meaning.{Meaning, at, meanings, Extends, AreBelow}
use Rattle.lin_term.specs.Linear.{Value}
use Rattle.lin_truth.specs.Term.{Term}
use Rattle.lin_truth.specs.View.{den_of}
use Rattle.smt_term.specs.declared.seen.Seen.{Seen}
use Rattle.smt_lex.specs.Lexeme.{Lexeme, lexeme}
use Rattle.smt_lex.specs.Place.{place}
use Rattle.smt_lex.specs.declared.Token.{Token}
use Rattle.smt_tree.specs.declared.Expr.{Expr}
use Rattle.smt_tree.specs.Sexp.{Sexps, none, leaf, list}
use Rattle.smt_tree.specs.Seen.{seen, all_seen}
use Rattle.smt_term.specs.declared.operator.Linear.{Linear}
use Rattle.smt_term.specs.declared.operator.Linear.TheVariants as linear
use Rattle.smt_term.specs.declared.part.Part.{Part as Shown}
use Rattle.smt_term.specs.declared.part.Part.TheVariants as shown
use Rattle.smt_term.specs.Reading.{Read, Part, token, group}
use Rattle.smt_term.specs.Scope.{Entry, Names, signature_at}

-- one expression, by what it is
abbrev pub first_part : Sexps → Part
first_part none = group (place 0 0) none
first_part (leaf t rest) = token t
first_part (list p inner rest) = group p inner

abbrev pub part : Expr → Part
part e = first_part (seen e)

abbrev pub part_seen : Shown → Part
part_seen (shown.Token t) = token (lexeme t)
part_seen (shown.Group line column items) = group (place line column) (all_seen items.now)

-- a term that was read, by its entry in the table
abbrev pub typed_at : List Meaning → Seen → Typed
typed_at ms x = record { sort = x.sort; tree = at ms x.node }

abbrev pub all_at : List Meaning → List Seen → List Typed
all_at ms xs = map (typed_at ms) xs

abbrev pub sorts_seen : List Seen → List VarSort
sorts_seen xs = map (λ (x : Seen). x.sort) xs

abbrev pub worths_at : List Meaning → List Seen → List Worth
worths_at ms xs = map (λ (x : Seen). worth_of (at ms x.node top 0)) xs

-- what is known of the arguments, where the operator looks at it
abbrev pub AreAsked : Linear → List Worth → List Worth → Type 0
AreAsked linear.Free ws us = Unit {0}
AreAsked linear.Factors ws us = ws ≡ us
AreAsked linear.Divisors ws us = ws ≡ us

-- each is in a table of so many
abbrev pub AreIn : ℕ → List Seen → Type 0
AreIn n [] = Unit {0}
AreIn n (x ∷ xs) = (x.node < n) × AreIn n xs

-- what a name stands for, by its entry and the sorts of its parameters
abbrev pub entry_at : List Meaning → List (List VarSort) → Known → Entry
entry_at ms signatures k = record { params = signature_at signatures k.signature; meaning = record { sort = k.sort; tree = at ms k.node } }

abbrev pub entries_at : List Meaning → List (List VarSort) → List (List ℕ × Known) → Names
entries_at ms signatures [] = []
entries_at ms signatures (k ∷ ks) = (k.0, entry_at ms signatures k.1) ∷ entries_at ms signatures ks

abbrev pub NamesIn : ℕ → List (List ℕ × Known) → Type 0
NamesIn n [] = Unit {0}
NamesIn n (k ∷ ks) = (k.1.node < n) × NamesIn n ks

-- A new entry that stands for this, in a table that grew. After want of memory nothing is said.
abbrev pub Makes : List Node → Result ℕ ScriptFault → List Node → Meaning → Type 0
Makes old (Ok i) new m = (at (meanings new) i ≡ m) × (i < length new) × Extends old new
Makes old (Err (Bad k line column)) new m = ⊥
Makes old (Err Memory) new m = Unit {0}

-- the same, of several entries
abbrev pub MakesAll : List Node → Result (Vec ℕ) ScriptFault → List Node → (Frame → ℕ → List Term) → Type 0
MakesAll old (Ok is) new ts = ((frame : Frame) (n : ℕ) → map (λ i. at (meanings new) i frame n) is.items ≡ ts frame n) × AreBelow (length new) is.items × Extends old new
MakesAll old (Err (Bad k line column)) new ts = ⊥
MakesAll old (Err Memory) new ts = Unit {0}

-- What reading gave is what the definition gives, in a table that grew. After want of memory nothing is said.
abbrev pub GivesOne : List Node → Read Typed → Result Seen ScriptFault → List Node → Type 0
GivesOne old read (Ok x) new = (read ≡ Ok (typed_at (meanings new) x)) × (x.node < length new) × Extends old new
GivesOne old read (Err (Bad k line column)) new = read ≡ Err (Bad k line column)
GivesOne old read (Err Memory) new = Unit {0}

-- the same, of several terms
abbrev pub GivesAll : List Node → Read (List Typed) → Result (Vec Seen) ScriptFault → List Node → Type 0
GivesAll old read (Ok xs) new = (read ≡ Ok (all_at (meanings new) xs.items)) × AreIn (length new) xs.items × Extends old new
GivesAll old read (Err (Bad k line column)) new = read ≡ Err (Bad k line column)
GivesAll old read (Err Memory) new = Unit {0}

-- a test that the definition passes, or its fault
abbrev pub IsDone : Read Bool → Result (Unit {0}) ScriptFault → Type 0
IsDone read (Ok u) = read ≡ Ok true
IsDone read (Err (Bad k line column)) = read ≡ Err (Bad k line column)
IsDone read (Err Memory) = Unit {0}

-- an answer is what the definition gives; want of memory is free
abbrev pub IsRead : {A : Type 0} → Read A → Result A ScriptFault → Type 0
IsRead read (Ok x) = read ≡ Ok x
IsRead read (Err (Bad k line column)) = read ≡ Err (Bad k line column)
IsRead read (Err Memory) = Unit {0}

-- the same, of a token
abbrev pub IsToken : Read Lexeme → Result Token ScriptFault → Type 0
IsToken read (Ok t) = read ≡ Ok (lexeme t)
IsToken read (Err (Bad k line column)) = read ≡ Err (Bad k line column)
IsToken read (Err Memory) = Unit {0}

-- a value as a numerator and a denominator, if there is one
abbrev pub IsKeptExpression : Option Value → Option (ℤ × ℤ) → Type 0
IsKeptExpression None None = Unit {0}
IsKeptExpression None (Some v) = ⊥
IsKeptExpression (Some v) None = ⊥
IsKeptExpression (Some v) (Some w) = v ≡ record { num = w.0; den = den_of w.1 }

-- the same, of a reading
abbrev pub IsAmount : Read Value → Result (ℤ × ℤ) ScriptFault → Type 0
IsAmount read (Ok w) = read ≡ Ok (record { num = w.0; den = den_of w.1 })
IsAmount read (Err (Bad k line column)) = read ≡ Err (Bad k line column)
IsAmount read (Err Memory) = Unit {0}
