-- A cube and the variable that is taken out of it.
use Rattle.std.specs.Prelude.{ℕ, ◌≤◌, ◌≡◌, None, List}
use Rattle.lin_term.specs.declared.Lit.{Lit}
use Rattle.lin_term.specs.declared.Sort.TheVariants.{Int}
use Rattle.lin_term.specs.Form.{cap}
use Rattle.lin_term.specs.Wide.{first_past}
use Rattle.dom_core.specs.Cube.{IsPrimitiveCube}
use Rattle.dom_core.specs.Elimination.{last_of, delta, count_sums}
use Rattle.dom_int.specs.Counts.{first_numbers}

pub record Target : Type 0 where
  pub cube : List Lit
  pub variable : ℕ

-- the period and the cases of the lower literals, all numbers so far within the cap
pub record IsPrepared (c : List Lit) (x n total : ℕ) : Type 0 where
  pub primitive : IsPrimitiveCube Int c
  pub period : n ≡ delta c x
  pub period_kept : n ≤ cap
  pub lower : total ≡ last_of 0 (count_sums x n 0 c)
  pub lower_kept : total ≤ cap
  pub fits : first_past (first_numbers c x) ≡ None
