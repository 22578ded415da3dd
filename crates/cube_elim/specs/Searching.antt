-- How the search below a level ends.
use Rattle.std.specs.Prelude.{ℕ, ◌≡◌, ℤ, None, Some, List, ◌++◌}
use Rattle.lin_term.specs.declared.Sort.{Sort}
use Rattle.lin_term.specs.declared.Sort.TheVariants.{Int}
use Rattle.lin_term.specs.declared.Lit.{Lit}
use Rattle.lin_term.specs.Linear.{Point}
use Rattle.lin_term.specs.Wide.{first_past}
use Rattle.cube_rules.specs.declared.Step.{Step}
use Rattle.cube_rules.specs.Bare.{ClosesBare}
use Rattle.cube_elim.specs.Determined.{determined}

-- the point that the variables below n of a cube determine, none of its numbers past the cap
pub record IsDetermined (s : Sort) (n : ℕ) (c : List Lit) (p : Point) : Type 0 where
  pub numbers : List ℤ
  pub determines : determined n s c ≡ Some (record { point = p; numbers = numbers })
  pub fits : first_past numbers ≡ None

-- lines that close the cube were added to those before
pub record AddsProof (n : ℕ) (c : List Lit) (old new : List Step) : Type 0 where
  pub made : List Step
  pub added : new ≡ old ++ made
  pub closes : ClosesBare Int n c made
