-- Facts read as literals and by their parts, and the tests of literals.
use Rattle.std.specs.Prelude.{ℕ, zero, suc, ℤ, Bool, true, false, ◌&&◌, nat_lt, nat_le, Option, Some, None, option_and_then, option_map, slice_get, List, [], ◌∷◌}
use Rattle.lin_term.specs.declared.Sort.{Sort}
use Rattle.lin_term.specs.declared.Sort.TheVariants.{Rat, Int}
use Rattle.lin_term.specs.declared.Lit.{Lit}
use Rattle.lin_term.specs.declared.Lit.TheVariants.{AtLeast, Above, Divides, NotDivides}
use Rattle.lin_term.specs.Literal.{prim}
use Rattle.lin_term.specs.Same.{same_literal}
use Rattle.dom_core.specs.Game.{Matrix, lit, all, some, Matrices, none, more}
use Rattle.cube_rules.specs.Context.{Context}

-- the value where the test holds
abbrev pub guard : {A : Type 0} → Bool → Option A → Option A
guard true o = o
guard false o = None

abbrev pub child : Matrices → ℕ → Option Matrix
child none i = None
child (more m ms) zero = Some m
child (more m ms) (suc i) = child ms i

abbrev pub count : Matrices → ℕ
count none = 0
count (more m ms) = suc (count ms)

-- the i-th child of a conjunction
abbrev pub and_child : ℕ → Matrix → Option Matrix
and_child i (all ms) = child ms i
and_child i (lit l) = None
and_child i (some ms) = None

-- the children of a disjunction
abbrev pub or_children : Matrix → Option Matrices
or_children (some ms) = Some ms
or_children (lit l) = None
or_children (all ms) = None

abbrev pub literal_of : Matrix → Option Lit
literal_of (lit l) = Some l
literal_of (all ms) = None
literal_of (some ms) = None

-- the fact, where it is a literal
abbrev pub literal_at : Context → ℕ → Option Lit
literal_at c f = option_and_then literal_of (slice_get c.facts f)

-- the facts of these numbers, where all are literals
abbrev pub literals_at : Context → List ℕ → Option (List Lit)
literals_at c [] = Some []
literals_at c (i ∷ is) = option_and_then (λ l. option_map (λ ls. l ∷ ls) (literals_at c is)) (literal_at c i)

-- all facts, where all are literals
abbrev pub all_literals : List Matrix → Option (List Lit)
all_literals [] = Some []
all_literals (m ∷ ms) = option_and_then (λ l. option_map (λ ls. l ∷ ls) (all_literals ms)) (literal_of m)

-- ---- tests of a literal

abbrev pub is_inequality : Lit → Bool
is_inequality (AtLeast f) = true
is_inequality (Above f) = true
is_inequality (Divides d f) = false
is_inequality (NotDivides d f) = false

-- the literals of a sort
abbrev pub is_of : Sort → Lit → Bool
is_of Rat (AtLeast f) = true
is_of Rat (Above f) = true
is_of Rat (Divides d f) = false
is_of Rat (NotDivides d f) = false
is_of Int (AtLeast f) = true
is_of Int (Above f) = false
is_of Int (Divides d f) = nat_le 1 d
is_of Int (NotDivides d f) = nat_le 1 d

-- of its sort, and its own primitive form
abbrev pub is_primitive : Sort → Lit → Bool
is_primitive s l = is_of s l && same_literal (prim s l) l

-- the variables are below n
abbrev pub all_below : ℕ → List (ℕ × ℤ) → Bool
all_below n [] = true
all_below n (t ∷ ts) = nat_lt t.0 n && all_below n ts
