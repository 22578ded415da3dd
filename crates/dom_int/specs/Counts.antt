-- What is known of an elimination before any case is built: its period and how many cases there are.
use Rattle.std.specs.Prelude.{ℕ, ◌*◌, ℤ, pos, if◌then◌else◌, List, ◌++◌, map}
use Rattle.lin_term.specs.declared.Lit.{Lit}
use Rattle.lin_term.specs.declared.Lit.TheVariants.{AtLeast, Above, Divides, NotDivides}
use Rattle.lin_term.specs.PutIn.{coef}
use Rattle.dom_core.specs.Elimination.{size_at, is_lower, next_delta, partial_deltas, delta, count_sums}

-- the period of the first literals becomes that of one more
abbrev pub delta_after : ℕ → ℕ → Lit → ℕ
delta_after x n (AtLeast f) = n
delta_after x n (Above f) = n
delta_after x n (Divides d f) = next_delta n d (coef f.terms x)
delta_after x n (NotDivides d f) = next_delta n d (coef f.terms x)

-- how many cases a literal has
abbrev pub count_at : ℕ → ℕ → Lit → ℕ
count_at x n l = if is_lower x l then size_at x l * n else 0

-- the partial deltas, then the partial sums of the counts
abbrev pub first_numbers : List Lit → ℕ → List ℤ
first_numbers c x = map pos (partial_deltas 1 c x) ++ map pos (count_sums x (delta c x) 0 c)
