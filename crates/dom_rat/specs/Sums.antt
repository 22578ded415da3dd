-- The sums of an elimination over the rationals, as they are added.
use Rattle.std.specs.Prelude.{ℕ, List, map, filter}
use Rattle.std.specs.List.{flat_map}
use Rattle.lin_term.specs.declared.Lit.{Lit}
use Rattle.dom_core.specs.Elimination.{is_lower, is_upper, resolvent}

-- the sums of one lower literal with the upper ones
abbrev pub sums_of : ℕ → Lit → List Lit → List Lit
sums_of x l c = map (λ u. resolvent x l u) (filter (is_upper x) c)

-- those of the lower literals of a list
abbrev pub all_sums : ℕ → List Lit → List Lit → List Lit
all_sums x c ls = flat_map (λ l. sums_of x l c) (filter (is_lower x) ls)
