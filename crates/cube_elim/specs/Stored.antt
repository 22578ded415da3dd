-- Literals by their places in a list, and lists whose later literals are sums that cancel a variable.
use Rattle.std.specs.Prelude.{ℕ, ◌+◌, ◌<◌, ◌≡◌, true, Bool, if◌then◌else◌, pos, List, [], ◌∷◌, ◌++◌, map, filter, length, get_or}
use Rattle.std.specs.List.{AllByRecursion}
use Rattle.lin_term.specs.declared.Lit.{Lit}
use Rattle.lin_term.specs.declared.Lit.TheVariants.{AtLeast}
use Rattle.lin_term.specs.Linear.{constant_form}
use Rattle.dom_core.specs.Elimination.{is_free, is_lower, is_upper, resolvent}
use Rattle.cube_elim.specs.declared.store.Pair.{Pair}
use Rattle.cube_elim.specs.declared.store.Store.{Store}

-- where a list has no literal
abbrev pub no_literal : Lit
no_literal = AtLeast (constant_form (pos 0))

abbrev pub no_pair : Pair
no_pair = record { lower = 0; upper = 0; var = 0 }

abbrev pub lit_of : List Lit → ℕ → Lit
lit_of lits i = get_or lits i no_literal

abbrev pub lits_of : List Lit → List ℕ → List Lit
lits_of lits ids = map (lit_of lits) ids

-- the place where the test holds
abbrev pub when : Bool → ℕ → List ℕ
when b i = if b then i ∷ [] else []

-- each place is below n
abbrev pub AreIn : ℕ → List ℕ → Type 0
AreIn n ids = AllByRecursion (λ i. i < n) ids

-- the literal at place k is the sum of the two of the pair, which stand before it, and cancels their variable
pub record IsPairSum (lits : List Lit) (k : ℕ) (p : Pair) : Type 0 where
  pub lower_before : p.lower < k
  pub upper_before : p.upper < k
  pub lower : is_lower p.var (lit_of lits p.lower) ≡ true
  pub upper : is_upper p.var (lit_of lits p.upper) ≡ true
  pub made : lit_of lits k ≡ resolvent p.var (lit_of lits p.lower) (lit_of lits p.upper)

-- g literals, and behind them the sums of the pairs
pub record IsStore (g : ℕ) (s : Store) : Type 0 where
  pub count : length s.lits ≡ g + length s.pairs
  pub sums : (i : ℕ) → i < length s.pairs → IsPairSum s.lits (g + i) (get_or s.pairs i no_pair)

-- what a call keeps that adds sums
abbrev pub IsKept : Store → Store → Type 0
IsKept old new = (g : ℕ) → IsStore g old → IsStore g new

-- literals were added
pub record IsLonger (old new : List Lit) : Type 0 where
  pub more : List Lit
  pub longer : new ≡ old ++ more
