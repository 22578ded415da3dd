-- What is found out of a cube of either sort.
use Rattle.std.specs.Prelude.{ℕ, ◌≡◌, List, take, ⊤}
use Rattle.lin_term.specs.declared.Sort.TheVariants.{Rat}
use Rattle.lin_term.specs.Point.{IsKeptPoint}
use Rattle.lin_term.specs.declared.Sort.{Sort}
use Rattle.lin_term.specs.declared.Lit.{Lit}
use Rattle.cube_rules.specs.Bare.{ClosesBare}
use Rattle.cube_elim.specs.declared.whole.Outcome.{Outcome}
use Rattle.cube_elim.specs.declared.whole.Outcome.TheVariants.{Point, Refuted, Wide}
use Rattle.cube_elim.specs.declared.descent.Reached.{Reached}
use Rattle.cube_elim.specs.declared.descent.Reached.TheVariants as reached
use Rattle.cube_elim.specs.declared.store.Store.{Store}
use Rattle.cube_elim.specs.Stored.{IsStore}
use Rattle.cube_elim.specs.Reaching.{IsFalseAt}
use Rattle.cube_elim.specs.Values.{with_zeros}
use Rattle.cube_elim.specs.Deciding.{IsSolution}
use Rattle.cube_elim.specs.Determined.{WideAt}

-- a point at which the cube holds, lines that close its bare context, or a number past the cap of its elimination or point
abbrev pub Decides : Sort → ℕ → List Lit → Outcome → Type 0
Decides s n c (Point p) = IsSolution s n c p
Decides s n c (Refuted steps) = ClosesBare s n c steps
Decides s n c (Wide w) = WideAt s c w.number

-- ---- how a search over the rationals ends

-- a false literal is one of a store with g given ones
abbrev pub IsEnd : ℕ → Store → Reached → Type 0
IsEnd g s (reached.Point p) = ⊤
IsEnd g s (reached.False i) = IsStore g s × IsFalseAt s.lits i
IsEnd g s (reached.Wide w) = ⊤

-- the point with 0 for k more variables, lines that close the bare context of the given literals, the number
abbrev pub IsOutcomeOf : ℕ → Store → Reached → ℕ → Outcome → Type 0
IsOutcomeOf g s (reached.Point p) k (Point q) = (q ≡ with_zeros p k) × IsKeptPoint p
IsOutcomeOf g s (reached.Point p) k (Refuted steps) = ⊥
IsOutcomeOf g s (reached.Point p) k (Wide w) = ⊥
IsOutcomeOf g s (reached.False i) k (Point q) = ⊥
IsOutcomeOf g s (reached.False i) k (Refuted steps) = (n : ℕ) → ClosesBare Rat n (take g s.lits) steps
IsOutcomeOf g s (reached.False i) k (Wide w) = ⊥
IsOutcomeOf g s (reached.Wide w) k (Point q) = ⊥
IsOutcomeOf g s (reached.Wide w) k (Refuted steps) = ⊥
IsOutcomeOf g s (reached.Wide w) k (Wide z) = z ≡ w
