-- Variables in scope, and quantifiers around a formula.
use Rattle.std.specs.Prelude.{ℕ, zero, suc, Bool, List, [], ◌∷◌, ◌++◌, Option}
use Rattle.lin_truth.specs.declared.term.VarSort.{VarSort}
use Rattle.lin_form.specs.declared.Bound.{Bound}
use Rattle.norm_form.specs.Cap.{over}
use Rattle.norm_form.specs.Norm.{bind_one}
use Rattle.norm_form.specs.Normal.{Normal}

abbrev pub all_bound : List Bound → List VarSort → ℕ → List Bound
all_bound ctx [] d = ctx
all_bound ctx (v ∷ vs) d = all_bound (ctx ++ (record { sort = v; level = d }) ∷ []) vs (suc d)

abbrev pub wrapped : Bool → ℕ → Option Normal → Option Normal
wrapped q zero n = n
wrapped q (suc m) n = over (bind_one q) (wrapped q m n)
