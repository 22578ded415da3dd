-- Terms on a stack, as trees.
use Rattle.std.specs.Prelude.{List, [], ◌∷◌}
use Rattle.lin_truth.specs.declared.term.Term.{Term as Written}
use Rattle.lin_truth.specs.Term.{Term}
use Rattle.lin_truth.specs.View.{tree_of}

abbrev pub stacked_on : List Term → List Written → List Term
stacked_on ts [] = ts
stacked_on ts (x ∷ xs) = stacked_on (tree_of x ∷ ts) xs

-- the last one first
abbrev pub stacked : List Written → List Term
stacked xs = stacked_on [] xs
