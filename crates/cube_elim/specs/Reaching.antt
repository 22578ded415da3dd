-- How the search over the rationals ends at a level.
use Rattle.std.specs.Prelude.{ℕ, ◌≡◌, ◌<◌, true, List, length, ⊤}
use Rattle.lin_term.specs.declared.Short.{Short}
use Rattle.lin_term.specs.declared.Short.TheVariants as short
use Rattle.lin_term.specs.declared.Wide.{Wide as a_number}
use Rattle.lin_term.specs.Linear.{Point as a_point}
use Rattle.cube_elim.specs.Values.{with_zeros}
use Rattle.lin_term.specs.declared.Lit.{Lit}
use Rattle.lin_term.specs.declared.Sort.TheVariants.{Rat}
use Rattle.lin_term.specs.Truth.{truth_of}
use Rattle.cube_rules.specs.Lines.{is_false}
use Rattle.cube_elim.specs.declared.descent.Reached.{Reached}
use Rattle.cube_elim.specs.declared.descent.Reached.TheVariants.{Point, False, Wide}
use Rattle.cube_elim.specs.Determined.{WideBelow}
use Rattle.cube_elim.specs.Searching.{IsDetermined}
use Rattle.cube_elim.specs.declared.store.Store.{Store}
use Rattle.cube_elim.specs.Stored.{lit_of, IsKept, IsLonger}

-- a literal without variables that is false
abbrev pub IsFalseAt : List Lit → ℕ → Type 0
IsFalseAt lits i = (i < length lits) × (is_false (truth_of (lit_of lits i)) ≡ true)

-- over the variables below n: the point, a literal of the store that is false, or a number past the cap
abbrev pub Reaches : ℕ → List Lit → List Lit → Reached → Type 0
Reaches n c lits (Point p) = IsDetermined Rat n c p
Reaches n c lits (False i) = IsFalseAt lits i
Reaches n c lits (Wide w) = WideBelow n Rat c w.number

-- the point with 0 for k more variables
abbrev pub IsPointWith : a_point → ℕ → Reached → Type 0
IsPointWith p k (Point q) = q ≡ with_zeros p k
IsPointWith p k (False i) = ⊥
IsPointWith p k (Wide w) = ⊥

-- the number of the fault
abbrev pub IsPastCap : Short a_number → Reached → Type 0
IsPastCap (short.Fault w) (Point p) = ⊥
IsPastCap (short.Fault w) (False i) = ⊥
IsPastCap (short.Fault w) (Wide z) = z ≡ w
IsPastCap short.Memory r = ⊥

-- the store is one still, with the literals that it had; where the cube is wide nothing is said of it
abbrev pub Keeps : Store → Store → Reached → Type 0
Keeps old new (Point p) = IsLonger old.lits new.lits × IsKept old new
Keeps old new (False i) = IsLonger old.lits new.lits × IsKept old new
Keeps old new (Wide w) = ⊤
