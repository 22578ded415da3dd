-- How the search below a level ends.
use Rattle.std.specs.Prelude.{ℕ, ◌≡◌, ◌<◌, ◌≤◌, ℤ, nat_abs, List, ⊤}
use Rattle.lin_term.specs.declared.Sort.TheVariants.{Int}
use Rattle.lin_term.specs.declared.Lit.{Lit}
use Rattle.lin_term.specs.Form.{cap}
use Rattle.lin_term.specs.Linear.{Point}
use Rattle.lin_term.specs.Point.{IsKeptPoint}
use Rattle.lin_term.specs.declared.Short.{Short}
use Rattle.lin_term.specs.declared.Short.TheVariants as short
use Rattle.lin_term.specs.declared.Wide.{Wide as a_number}
use Rattle.cube_rules.specs.declared.Step.{Step}
use Rattle.cube_elim.specs.declared.found.Found.{Found}
use Rattle.cube_elim.specs.declared.found.Found.TheVariants.{Point as point, Refuted, Wide}
use Rattle.cube_elim.specs.Determined.{WideBelow}
use Rattle.cube_elim.specs.Values.{added, with_zeros}
use Rattle.cube_elim.specs.Searching.{IsDetermined, AddsProof}

-- over the variables below n: the point, lines that were added, or a number past the cap
abbrev pub Ends : ℕ → List Lit → List Step → List Step → Found → Type 0
Ends n c old new (point p) = IsDetermined Int n c p
Ends n c old new Refuted = AddsProof n c old new
Ends n c old new (Wide w) = WideBelow n Int c w.number

-- the point with one more number, or the number where it is past the cap
abbrev pub Steps : Point → ℤ → Found → Type 0
Steps p v (point q) = (q ≡ added p v) × (nat_abs v ≤ cap)
Steps p v Refuted = ⊥
Steps p v (Wide w) = (w.number ≡ v) × (cap < nat_abs v)

-- the number of the fault
abbrev pub IsFault : Short a_number → Found → Type 0
IsFault (short.Fault w) (point p) = ⊥
IsFault (short.Fault w) Refuted = ⊥
IsFault (short.Fault w) (Wide z) = z ≡ w
IsFault short.Memory f = ⊥

-- a point with 0 for k more variables
abbrev pub IsRaised : Found → ℕ → Found → Type 0
IsRaised (point p) k (point q) = (q ≡ with_zeros p k) × IsKeptPoint p
IsRaised (point p) k Refuted = ⊥
IsRaised (point p) k (Wide w) = ⊥
IsRaised Refuted k (point q) = ⊥
IsRaised Refuted k Refuted = ⊤
IsRaised Refuted k (Wide w) = ⊥
IsRaised (Wide w) k (point q) = ⊥
IsRaised (Wide w) k Refuted = ⊥
IsRaised (Wide w) k (Wide z) = z ≡ w
