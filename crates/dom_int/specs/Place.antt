-- The lower literal whose case the index names.
use Rattle.std.specs.Prelude.{ℕ, ◌+◌, ◌*◌, ◌<◌, ◌≡◌, ℤ, pos, Bool, true, List, [], length, get_or, take, drop}
use Rattle.lin_term.specs.declared.Lit.{Lit}
use Rattle.lin_term.specs.declared.Lit.TheVariants.{AtLeast}
use Rattle.lin_term.specs.Linear.{constant_form}
use Rattle.dom_core.specs.Elimination.{size_at, is_lower, lower_case, lower_cases}

-- the literal at a place; past the end 0 >= 0
abbrev pub lit_at : List Lit → ℕ → Lit
lit_at c i = get_or c i (AtLeast (constant_form (pos 0)))

-- the case at the index is the k-th of the lower literal at the place
pub record IsPlace (x n : ℕ) (c : List Lit) (index place k : ℕ) : Type 0 where
  pub within : place < length c
  pub lower : is_lower x (lit_at c place) ≡ true
  pub count : k < size_at x (lit_at c place) * n
  pub case : get_or (lower_cases x n [] c) index [] ≡ lower_case x (take place c) (lit_at c place) (drop (place + 1) c) k
