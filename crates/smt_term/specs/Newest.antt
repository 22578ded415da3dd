-- Bindings one by one, and lists of them as the definitions see them: the newest first.
use Rattle.std.specs.Prelude.{◌≡◌, ◌<◌, ◌+◌, ℕ, not, List, [], ◌∷◌, length, map, Result, Ok, Err}
use Rattle.std.specs.Global.{Vec}
use Rattle.std.specs.Borrow.{Bor}
use Rattle.ss_names.specs.declared.FaultKind.TheVariants as kind
use Rattle.ss_names.specs.declared.ScriptFault.{ScriptFault}
use Rattle.ss_names.specs.declared.ScriptFault.TheVariants.{Bad, Memory}
use Rattle.smt_lex.specs.Place.{Place}
use Rattle.smt_tree.specs.Sexp.{Sexps, none, leaf, list}
use Rattle.smt_tree.specs.Seen.{seen, all_seen}
use Rattle.smt_tree.specs.declared.Expr.{Expr}
use Rattle.lin_term.specs.declared.Sort.{Sort}
use Rattle.lin_truth.specs.declared.VarSort.{VarSort}
use Rattle.term_table.specs.declared.Node.{Node}
use Rattle.term_table.specs.Placed.{Typed}
use Rattle.term_table.specs.Meaning.{Meaning, meanings, Extends}
use Rattle.smt_term.specs.declared.bindings.Binding.{Binding}
use Rattle.smt_term.specs.declared.bindings.Bound.{Bound}
use Rattle.smt_term.specs.Reading.{Read, ◌>>=◌, refuse, unless, place_of, Part, token, group}
use Rattle.smt_term.specs.Word.{new_name}
use Rattle.smt_term.specs.Terms.{parts, is_empty}
use Rattle.smt_term.specs.View.{part, typed_at}

-- how many tokens and lists stand in expressions
abbrev pub size : Sexps → ℕ
size none = 0
size (leaf t rest) = 1 + size rest
size (list p inner rest) = 1 + (size inner + size rest)

-- ---- one binding

abbrev pub behind_name : {A : Type 0} → Sort → List (List ℕ × A) → Place → List Part → Read (List ℕ × Part)
behind_name logic taken p (x ∷ y ∷ []) = new_name logic taken x >>= λ name. Ok (name, y)
behind_name logic taken p other = refuse kind.Sort p

-- a name, where these names are taken, and what stands behind it
unfoldable pub pair_of : {A : Type 0} → Sort → List (List ℕ × A) → Part → Read (List ℕ × Part)
pair_of logic taken (token t) = refuse kind.Sort (place_of t)
pair_of logic taken (group p inner) = behind_name logic taken p (parts inner)

-- the bindings that stand first, of which there is one at least, and the body behind them
unfoldable pub bindings_of : Place → Sexps → Read (Sexps × Sexps)
bindings_of p none = refuse kind.Arity p
bindings_of p (leaf t body) = refuse kind.Sort (place_of t)
bindings_of p (list q bindings body) = unless (not (is_empty bindings)) kind.Sort q (Ok (bindings, body))

-- a name that was read; want of memory is free
abbrev pub IsName : Read (List ℕ) → Result (Bor (List ℕ)) ScriptFault → Type 0
IsName read (Ok name) = read ≡ Ok name.now
IsName read (Err (Bad k line column)) = read ≡ Err (Bad k line column)
IsName read (Err Memory) = Unit {0}

-- a name and what stands behind it, which is smaller than the binding
abbrev pub IsPair : Read (List ℕ × Part) → Expr → Result (Bor (List ℕ) × Bor Expr) ScriptFault → Type 0
IsPair read item (Ok x) = (read ≡ Ok (x.0.now, part x.1.now)) × (size (seen x.1.now) < size (seen item))
IsPair read item (Err (Bad k line column)) = read ≡ Err (Bad k line column)
IsPair read item (Err Memory) = Unit {0}

-- bindings and a body, both within these expressions
abbrev pub IsBindings : Read (Sexps × Sexps) → Sexps → Result (Bor (List Expr) × Bor (List Expr)) ScriptFault → Type 0
IsBindings read args (Ok x) = (read ≡ Ok (all_seen x.0.now, all_seen x.1.now)) × (size (all_seen x.0.now) + size (all_seen x.1.now) < size args)
IsBindings read args (Err (Bad k line column)) = read ≡ Err (Bad k line column)
IsBindings read args (Err Memory) = Unit {0}

-- ---- names with sorts

-- names in order, behind those that are there
abbrev pub newest_first : List (List ℕ × VarSort) → List Binding → List (List ℕ × VarSort)
newest_first taken [] = taken
newest_first taken (b ∷ bs) = newest_first ((b.name.now, b.sort) ∷ taken) bs

-- their sorts, in order
abbrev pub sorts_bound : List Binding → List VarSort
sorts_bound bs = map (λ (b : Binding). b.sort) bs

-- what was read is what the definition gives; want of memory is free
abbrev pub IsSorted : Read (List (List ℕ × VarSort)) → Result (Vec Binding) ScriptFault → Type 0
IsSorted read (Ok bs) = read ≡ Ok (newest_first [] bs.items)
IsSorted read (Err (Bad k line column)) = read ≡ Err (Bad k line column)
IsSorted read (Err Memory) = Unit {0}

-- ---- names with terms

abbrev pub bound_at : List Meaning → List (List ℕ × Typed) → List Bound → List (List ℕ × Typed)
bound_at ms taken [] = taken
bound_at ms taken (b ∷ bs) = bound_at ms ((b.name.now, typed_at ms b.seen) ∷ taken) bs

abbrev pub BoundIn : ℕ → List Bound → Type 0
BoundIn n [] = Unit {0}
BoundIn n (b ∷ bs) = (b.seen.node < n) × BoundIn n bs

-- names with terms that were read, in a table that grew; after want of memory nothing is said
abbrev pub GivesBound : List Node → Read (List (List ℕ × Typed)) → Result (Vec Bound) ScriptFault → List Node → Type 0
GivesBound old read (Ok bs) new = (read ≡ Ok (bound_at (meanings new) [] bs.items)) × BoundIn (length new) bs.items × Extends old new
GivesBound old read (Err (Bad k line column)) new = read ≡ Err (Bad k line column)
GivesBound old read (Err Memory) new = Unit {0}
