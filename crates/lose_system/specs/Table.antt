-- The nodes of a skeleton in preorder, each with the node above it.
use Rattle.std.specs.Prelude.{ℕ, zero, suc, ◌+◌, Option, Some, None, option_map, option_and_then, slice_get, List, [], ◌∷◌, ◌++◌, map}
use Rattle.lin_term.specs.declared.Sort.{Sort}
use Rattle.lin_term.specs.Move.{Move}
use Rattle.lin_term.specs.Definition.{Definition, definition}
use Rattle.game_tree.specs.Skeleton.{Skeleton, end, theirs, mine, Branches, no_more, branch, nodes}
use Rattle.lose_system.specs.Place.{Place}
use Rattle.lose_system.specs.declared.table.Node.{Node}

abbrev pub place_of : Node → Place
place_of n = record { term = option_map (λ x. x.now) n.term; depth = n.depth; above = n.above }

abbrev pub places_of : List Node → List Place
places_of ns = map place_of ns

abbrev pub at_place : Option Move → ℕ → ℕ → Place
at_place m d a = record { term = m; depth = d; above = a }

-- the nodes from position d on, below node a; v is the next node
abbrev mutual
  pub places : Skeleton → ℕ → ℕ → ℕ → List Place
  places end d a v = []
  places (theirs t) d a v = at_place None d a ∷ places t (suc d) v (suc v)
  places (mine bs) d a v = branch_places bs d a v

  pub branch_places : Branches → ℕ → ℕ → ℕ → List Place
  branch_places no_more d a v = []
  branch_places (branch m t bs) d a v =
      (at_place (Some m) d a ∷ places t (suc d) v (suc v)) ++ branch_places bs d a (suc v + nodes t)

-- the last node of each path
abbrev mutual
  pub leaves : Skeleton → ℕ → ℕ → List ℕ
  leaves end a v = a ∷ []
  leaves (theirs t) a v = leaves t v (suc v)
  leaves (mine bs) a v = branch_leaves bs a v

  pub branch_leaves : Branches → ℕ → ℕ → List ℕ
  branch_leaves no_more a v = []
  branch_leaves (branch m t bs) a v = leaves t v (suc v) ++ branch_leaves bs a (suc v + nodes t)

-- ---- what the table says

abbrev pub above_at : Option Place → ℕ
above_at None = 0
above_at (Some p) = p.above

-- the first k nodes of a way down that ends in node a
abbrev pub route : ℕ → List Place → ℕ → List ℕ
route zero t a = []
route (suc k) t a = route k t (above_at (slice_get t a)) ++ a ∷ []

abbrev pub definition_of : Sort → List Place → ℕ → Place → Option Definition
definition_of s t v p = option_map (λ m. definition s m (route p.depth t p.above) v) p.term

-- the definition of node v, where it is a move
abbrev pub definition_in : Sort → List Place → ℕ → Option Definition
definition_in s t v = option_and_then (definition_of s t v) (slice_get t v)
