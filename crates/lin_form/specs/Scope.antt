-- The variables of a goal that are in scope.
use Rattle.std.specs.Prelude.{ℕ, List, get_or}
use Rattle.lin_truth.specs.declared.VarSort.{VarSort}
use Rattle.lin_truth.specs.declared.VarSort.TheVariants as sorts
use Rattle.lin_form.specs.declared.scope.Bound.{Bound}

abbrev pub bound_sort : Bound → VarSort
bound_sort b = b.sort

abbrev pub level_at : List Bound → ℕ → ℕ
level_at ctx i = (get_or ctx i (record { sort = sorts.Number; level = 0 })).level
