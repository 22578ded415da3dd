-- Literals that are new, place by place, and the keys of literals in a set.
use Rattle.std.specs.Prelude.{◌≡◌, Bool, not, if◌then◌else◌, List, [], ◌∷◌, ◌++◌}
use Rattle.std.specs.List.{list_any}
use Rattle.std.specs.BTreeSet.{BTreeSet, contains}
use Rattle.lin_term.specs.declared.Lit.{Lit}
use Rattle.lin_term.specs.Order.{literal_cmp}
use Rattle.lin_term.specs.Same.{same_literal}
use Rattle.dom_core.specs.declared.key.Key.{Key}

-- whether neither the first list nor one before it in the second has the literal
abbrev pub new_places : List Lit → List Lit → List Bool
new_places c [] = []
new_places c (l ∷ ls) = not (list_any (same_literal l) c) ∷ new_places (c ++ l ∷ []) ls

-- the literals at the places
abbrev pub at_places : List Bool → List Lit → List Lit
at_places [] ls = []
at_places (b ∷ bs) [] = []
at_places (b ∷ bs) (l ∷ ls) = if b then l ∷ at_places bs ls else at_places bs ls

-- a literal is in the set exactly where it is in the list
abbrev pub HasLits : BTreeSet Key → List Lit → Type 0
HasLits set c = (k : Key) → contains (λ a b. literal_cmp a.lit.now b.lit.now) set k ≡ list_any (same_literal k.lit.now) c
