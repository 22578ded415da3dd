-- What the names of a script stand for where a term is read.
use Rattle.std.specs.Prelude.{ℕ, zero, suc, ◌+◌, List, [], ◌∷◌, ◌++◌, length, get_or, is_some, Bool}
use Rattle.lin_term.specs.declared.Sort.{Sort}
use Rattle.lin_truth.specs.declared.VarSort.{VarSort}
use Rattle.lin_truth.specs.Term.{variable}
use Rattle.symbol_table.specs.Names.{looked_up}
use Rattle.term_table.specs.Placed.{Typed, parameter, binding}

-- A name stands for a term. That of a definition with parameters speaks of its arguments by them.
pub record Entry : Type 0 where
  pub params : List VarSort
  pub meaning : Typed

-- names and what they stand for, the newest first
abbrev pub Names : Type 0
Names = List (List ℕ × Entry)

abbrev pub has_name : {A : Type 0} → List (List ℕ × A) → List ℕ → Bool
has_name es name = is_some (looked_up es name)

-- where a term is read: the sort of the logic's numbers, the names, and how many bindings are around
pub record Scope : Type 0 where
  pub logic : Sort
  pub names : Names
  pub around : ℕ

-- a name that takes no arguments
abbrev pub plain : Typed → Entry
plain t = record { params = []; meaning = t }

-- the declared constant at this place
abbrev pub constant_at : VarSort → ℕ → Typed
constant_at s i = record { sort = s; tree = λ frame n. variable i }

-- the binding at this place around a term
abbrev pub binding_at : VarSort → ℕ → Typed
binding_at s i = record { sort = s; tree = binding i }

-- the parameter with this number
abbrev pub parameter_at : VarSort → ℕ → Typed
parameter_at s i = record { sort = s; tree = parameter i }

-- the names of `let`, the newest first
abbrev pub bound_names : List (List ℕ × Typed) → Names → Names
bound_names [] names = names
bound_names (b ∷ bs) names = (b.0, plain b.1) ∷ bound_names bs names

abbrev pub with_bound : Scope → List (List ℕ × Typed) → Scope
with_bound s bs = record { logic = s.logic; names = bound_names bs s.names; around = s.around }

-- variables of these sorts, the newest first, at the places from n on
abbrev pub binding_names : ℕ → List (List ℕ × VarSort) → Names → Names
binding_names n [] names = names
binding_names n (v ∷ vs) names = (v.0, plain (binding_at v.1 (n + length vs))) ∷ binding_names n vs names

-- behind a binder of these variables
abbrev pub with_bindings : Scope → List (List ℕ × VarSort) → Scope
with_bindings s vs = record { logic = s.logic; names = binding_names s.around vs s.names; around = s.around + length vs }

abbrev pub parameter_names : List (List ℕ × VarSort) → Names → Names
parameter_names [] names = names
parameter_names (v ∷ vs) names = (v.0, plain (parameter_at v.1 (length vs))) ∷ parameter_names vs names

-- in the body of a definition with these parameters
abbrev pub with_parameters : Scope → List (List ℕ × VarSort) → Scope
with_parameters s vs = record { logic = s.logic; names = parameter_names vs s.names; around = s.around }

-- their sorts, the oldest first
abbrev pub sorts_in_order : List (List ℕ × VarSort) → List VarSort
sorts_in_order [] = []
sorts_in_order (v ∷ vs) = sorts_in_order vs ++ v.1 ∷ []

-- the parameters' sorts at this place of the signatures, from 1; none at 0
abbrev pub signature_at : List (List VarSort) → ℕ → List VarSort
signature_at signatures zero = []
signature_at signatures (suc i) = get_or signatures i []
