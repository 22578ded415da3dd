-- Terms as functions of what stands around them.
use Rattle.std.specs.Prelude.{ℕ, zero, suc, ◌+◌, List, [], ◌∷◌, ◌++◌, map, take, slice_index_or}
use Rattle.lin_truth.specs.declared.term.VarSort.{VarSort}
use Rattle.lin_truth.specs.Term.{Term, no, variable}

-- A tree below so many variables. A variable's place counts from the outside, so that of a binding inside depends on where the tree stands.
abbrev pub Placed : Type 0
Placed = ℕ → Term

-- What stands around a term: what each parameter of its definition stands for, and the place of each binding, the outermost first.
pub record Frame : Type 0 where
  pub given : List Placed
  pub bound : List ℕ

-- nothing around
abbrev pub top : Frame
top = record { given = []; bound = [] }

-- a term that was read: its sort, and its tree
pub record Typed : Type 0 where
  pub sort : VarSort
  pub tree : Frame → Placed

abbrev pub nothing : Placed
nothing n = no

abbrev pub parameter : ℕ → Frame → Placed
parameter p frame n = slice_index_or frame.given p nothing n

abbrev pub binding : ℕ → Frame → Placed
binding i frame n = variable (slice_index_or frame.bound i 0)

-- the places from n on, of so many bindings
abbrev pub places : ℕ → ℕ → List ℕ
places zero n = []
places (suc k) n = n ∷ places k (suc n)

-- the frame behind a binder of k bindings, where so many bindings are around it and n variables above
abbrev pub inner : ℕ → ℕ → Frame → ℕ → Frame
inner around k frame n = record { given = frame.given; bound = take around frame.bound ++ places k n }

-- the tree behind a binder
abbrev pub below : ℕ → ℕ → (Frame → Placed) → Frame → Placed
below around k tree frame n = tree (inner around k frame n) (n + k)

-- the tree of a definition's body, where these stand for the parameters
abbrev pub used : (Frame → Placed) → List (Frame → Placed) → Frame → Placed
used body args frame n = body (record { given = map (λ (a : Frame → Placed). a frame) args; bound = [] }) n
