-- The paths of a skeleton that a proof needs, and the skeleton that has these alone.
use Rattle.std.specs.Prelude.{ℕ, suc, ◌+◌, nat_eq, Bool, false, not, ◌&&◌, ◌||◌, if◌then◌else◌, List, [], ◌∷◌, ◌++◌, map, get_or, length}
use Rattle.std.specs.List.{flat_map, list_any}
use Rattle.lin_term.specs.declared.Lit.{Lit}
use Rattle.lin_term.specs.Literal.{form_of}
use Rattle.cube_rules.specs.declared.Step.{Step}
use Rattle.cube_rules.specs.declared.Step.TheVariants.{Path, Def, Part, Cases, Sum, Split, Cube, Least, Learn, False}
use Rattle.game_tree.specs.Skeleton.{Skeleton, end, theirs, mine, Branches, no_more, branch, nodes, paths}

-- ---- what a proof names

abbrev pub variables_of : Lit → List ℕ
variables_of l = map (λ t. t.0) (form_of l).terms

-- the path of a line `path`
abbrev pub named_paths : Step → List ℕ
named_paths (Path k) = k ∷ []
named_paths (Def v i) = []
named_paths (Part f i) = []
named_paths (Cases f n) = []
named_paths (Sum p f q h g) = []
named_paths (Split l) = []
named_paths (Cube fs) = []
named_paths (Least v n) = []
named_paths (Learn ls) = []
named_paths (False f) = []

-- the node of a line `def` or `least`, and the variables of the literals that a line writes
abbrev pub named_nodes : Step → List ℕ
named_nodes (Path k) = []
named_nodes (Def v i) = v ∷ []
named_nodes (Part f i) = []
named_nodes (Cases f n) = []
named_nodes (Sum p f q h g) = []
named_nodes (Split l) = variables_of l
named_nodes (Cube fs) = []
named_nodes (Least v n) = v ∷ []
named_nodes (Learn ls) = flat_map variables_of ls
named_nodes (False f) = []

abbrev pub names_path : List Step → ℕ → Bool
names_path steps k = list_any (λ l. list_any (nat_eq k) (named_paths l)) steps

abbrev pub names_node : List Step → ℕ → Bool
names_node steps v = list_any (λ l. list_any (nat_eq v) (named_nodes l)) steps

-- ---- which paths stay; k is the number of the first path, v that of the first node

-- one of the paths is chosen
abbrev mutual
  pub has_path : Skeleton → (ℕ → Bool) → ℕ → Bool
  has_path end chosen k = chosen k
  has_path (theirs t) chosen k = has_path t chosen k
  has_path (mine bs) chosen k = some_has_path bs chosen k

  pub some_has_path : Branches → (ℕ → Bool) → ℕ → Bool
  some_has_path no_more chosen k = false
  some_has_path (branch m t bs) chosen k = has_path t chosen k || some_has_path bs chosen (k + length (paths t))

-- the first one too, where it is asked for
abbrev pub with_first : Bool → List Bool → List Bool
with_first asked [] = []
with_first asked (b ∷ bs) = (b || asked) ∷ bs

-- A path stays where it is named, and where it is the first through a node that is named and lies on no named path. The
-- paths through a node are those below it, so its first path is the first below it.
abbrev mutual
  pub stays : Skeleton → (ℕ → Bool) → (ℕ → Bool) → ℕ → ℕ → List Bool
  stays end path node k v = path k ∷ []
  stays (theirs t) path node k v = with_first (node v && not (has_path t path k)) (stays t path node k (suc v))
  stays (mine bs) path node k v = each_stays bs path node k v

  pub each_stays : Branches → (ℕ → Bool) → (ℕ → Bool) → ℕ → ℕ → List Bool
  each_stays no_more path node k v = []
  each_stays (branch m t bs) path node k v =
      with_first (node v && not (has_path t path k)) (stays t path node k (suc v))
      ++ each_stays bs path node (k + length (paths t)) (suc v + nodes t)

-- the first path where else none stays
abbrev pub or_first : List Bool → List Bool
or_first bs = with_first (not (list_any (λ b. b) bs)) bs

-- for each path whether the proof needs it
abbrev pub needed : Skeleton → List Step → List Bool
needed S steps = or_first (stays S (names_path steps) (names_node steps) 0 0)

abbrev pub marked : List Bool → ℕ → Bool
marked marks i = get_or marks i false

-- ---- the chosen paths alone

-- those that are chosen of a list, whose first one has number k
abbrev pub only : {A : Type 0} → (ℕ → Bool) → ℕ → List A → List A
only {A} chosen k [] = []
only {A} chosen k (x ∷ xs) = if chosen k then x ∷ only chosen (suc k) xs else only chosen (suc k) xs

abbrev mutual
  pub prune : Skeleton → (ℕ → Bool) → ℕ → Skeleton
  prune end chosen k = end
  prune (theirs t) chosen k = theirs (prune t chosen k)
  prune (mine bs) chosen k = mine (prune_branches bs chosen k)

  pub prune_branches : Branches → (ℕ → Bool) → ℕ → Branches
  prune_branches no_more chosen k = no_more
  prune_branches (branch m t bs) chosen k =
      if has_path t chosen k then branch m (prune t chosen k) (prune_branches bs chosen (k + length (paths t)))
      else prune_branches bs chosen (k + length (paths t))

-- for each node whether a chosen path goes through it
abbrev mutual
  pub on_path : Skeleton → (ℕ → Bool) → ℕ → List Bool
  on_path end chosen k = []
  on_path (theirs t) chosen k = has_path t chosen k ∷ on_path t chosen k
  on_path (mine bs) chosen k = each_on_path bs chosen k

  pub each_on_path : Branches → (ℕ → Bool) → ℕ → List Bool
  each_on_path no_more chosen k = []
  each_on_path (branch m t bs) chosen k =
      (has_path t chosen k ∷ on_path t chosen k) ++ each_on_path bs chosen (k + length (paths t))

-- the new numbers: n and how many stay before
abbrev pub numbers : ℕ → List Bool → List ℕ
numbers n [] = []
numbers n (b ∷ bs) = n ∷ numbers (if b then suc n else n) bs
