-- Proofs that a strategy file can hold.
use Rattle.std.specs.Prelude.{ℕ, zero, suc, ◌+◌, ◌≤◌, List, [], ◌∷◌, length, ⊤}
use Rattle.lin_term.specs.Form.{cap}
use Rattle.cube_rules.specs.declared.Step.{Step}
use Rattle.cube_rules.specs.Limits.{IsStep}
use Rattle.cube_rules.specs.Lines.{parts}

-- each number of each line is within its limit
abbrev pub AreSteps : List Step → Type 0
AreSteps [] = ⊤
AreSteps (l ∷ ls) = IsStep l × AreSteps ls

-- so many subproofs in preorder, one after the other: a line stands for itself and for the subproofs that follow it
abbrev pub ArePreorders : ℕ → List Step → Type 0
ArePreorders zero [] = ⊤
ArePreorders zero (l ∷ ls) = ⊥
ArePreorders (suc others) [] = ⊥
ArePreorders (suc others) (l ∷ ls) = ArePreorders (others + parts l) ls

-- the numbers are within their limits, the lines are one tree, and their count is within the cap
pub record IsWritable (proof : List Step) : Type 0 where
  pub steps : AreSteps proof
  pub tree : ArePreorders 1 proof
  pub count : length proof ≤ cap
