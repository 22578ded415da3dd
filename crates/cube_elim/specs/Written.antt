-- The lines that form the sums of a store, and what has been written of them.
use Rattle.std.specs.Prelude.{ℕ, ◌+◌, ◌/◌, ◌<◌, ◌≡◌, ◌≢◌, pos, Bool, true, false, Some, List, [], ◌∷◌, ◌++◌, length, get_or, take}
use Rattle.lin_term.specs.declared.Lit.{Lit}
use Rattle.lin_term.specs.declared.Sort.TheVariants.{Rat}
use Rattle.lin_term.specs.Literal.{form_of, gcd, divisor}
use Rattle.lin_term.specs.Sum.{sum_of}
use Rattle.dom_core.specs.Elimination.{size_at}
use Rattle.cube_rules.specs.declared.Step.{Step}
use Rattle.cube_rules.specs.declared.Step.TheVariants.{Sum}
use Rattle.cube_rules.specs.Bare.{bare_rules}
use Rattle.cube_rules.specs.Closing.{Rules}
use Rattle.cube_rules.specs.Context.{Context, cube_context}
use Rattle.cube_elim.specs.declared.lines.Lines.{Lines}
use Rattle.cube_elim.specs.declared.store.Pair.{Pair}
use Rattle.cube_elim.specs.Stored.{no_pair, lit_of}

-- where the sum is marked, the two of its pair are; no other mark has changed
pub record IsMarked (old new : List Bool) (sum : ℕ) (p : Pair) : Type 0 where
  pub count : length new ≡ length old
  pub stays : (j : ℕ) → get_or old j false ≡ true → get_or new j false ≡ true
  pub others : (j : ℕ) → j ≢ p.lower → j ≢ p.upper → get_or new j false ≡ get_or old j false
  pub both : get_or old sum false ≡ true → (get_or new p.lower false ≡ true) × (get_or new p.upper false ≡ true)

-- with each sum the two of its pair are marked
abbrev pub AreClosed : ℕ → List Pair → List Bool → Type 0
AreClosed g pairs marks =
    (i : ℕ) → i < length pairs → get_or marks (g + i) false ≡ true → (get_or marks (get_or pairs i no_pair).lower false ≡ true) × (get_or marks (get_or pairs i no_pair).upper false ≡ true)

-- the literal is marked, and with each sum the two of its pair
pub record IsNeeded (g : ℕ) (pairs : List Pair) (id : ℕ) (marks : List Bool) : Type 0 where
  pub count : length marks ≡ g + length pairs
  pub this : get_or marks id false ≡ true
  pub both : AreClosed g pairs marks

-- the line that forms the sum of a lower and an upper literal that cancels the variable
abbrev pub sum_line : ℕ → Lit → ℕ → Lit → ℕ → Step
sum_line x l f u h =
    let g = gcd (size_at x l) (size_at x u) in
    Sum (pos (size_at x u / g)) f (pos (size_at x l / g)) h (pos (divisor Rat (form_of (sum_of (pos (size_at x u / g)) l (pos (size_at x l / g)) u))))

-- lines of which each leaves one context
abbrev pub Runs : Rules → Context → List Step → Context → Type 0
Runs rules c [] e = c ≡ e
Runs rules c (l ∷ ls) e = (k : Context) × (rules c l ≡ Some (k ∷ [])) × Runs rules k ls e

-- one more line, and the fact that it adds
pub record AddsLine (old new : Lines) (line : Step) : Type 0 where
  pub steps : new.steps ≡ old.steps ++ line ∷ []
  pub facts : new.facts ≡ old.facts ++ old.count ∷ []
  pub count : new.count ≡ old.count + 1

-- no line, and no fact
pub record SkipsLine (old new : Lines) : Type 0 where
  pub steps : new.steps ≡ old.steps
  pub facts : new.facts ≡ old.facts ++ 0 ∷ []
  pub count : new.count ≡ old.count

-- the line of a sum, where it is needed
abbrev pub IsNextLine : Bool → Lines → Lines → Step → Type 0
IsNextLine true old new line = AddsLine old new line
IsNextLine false old new line = SkipsLine old new

-- the lines of the first i pairs whose sums are marked: each marked literal is a fact of the context that they leave
pub record IsWritten (g : ℕ) (lits : List Lit) (marks : List Bool) (i : ℕ) (w : Lines) : Type 0 where
  pub known : List Lit
  pub count : w.count ≡ length known
  pub facts : length w.facts ≡ g + i
  pub each : (j : ℕ) → j < g + i → get_or marks j false ≡ true → (get_or w.facts j 0 < length known) × (lit_of known (get_or w.facts j 0) ≡ lit_of lits j)
  pub runs : (n : ℕ) → Runs (bare_rules Rat n) (cube_context (take g lits)) w.steps (cube_context known)
