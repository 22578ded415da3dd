-- The losing system of the chosen paths has what lines name of the whole one, at the new numbers.
use Rattle.std.specs.Prelude.{ℕ, zero, suc, ◌+◌, ◌<◌, ◌≡◌, Bool, true, false, Some, slice_get, List, [], ◌∷◌, map, get_or, length}
use Rattle.std.proofs.Common.{arith, ap, ap₂, ◌∙◌, subst, refl}
use Rattle.lin_term.specs.declared.Sort.{Sort}
use Rattle.lin_term.specs.declared.Lit.{Lit}
use Rattle.lin_term.specs.declared.Lit.TheVariants.{AtLeast, Above, Divides, NotDivides}
use Rattle.lin_term.specs.Form.{Form}
use Rattle.lin_term.specs.Linear.{Below, rename}
use Rattle.lin_term.specs.Literal.{form_of, rename_lit}
use Rattle.lin_term.specs.Definition.{Definition}
use Rattle.dom_core.specs.Game.{Matrix, lit, all, some, Matrices, none, more, neg_matrix, rename_matrix, rename_matrices, IsMatrix, AreMatrices, Problem}
use Rattle.dom_core.proofs.Renaming.{neg_is_matrix}
use Rattle.game_tree.specs.Skeleton.{Skeleton, nodes, Follows}
use Rattle.lose_system.specs.Losing.{definitions, routes, system, definition_at}
use Rattle.lose_system.proofs.Rise.{rising_none, routes_rise, route_at}
use Rattle.cube_rules.proofs.Sound.{some_same}
use Rattle.strat_trim.specs.Trimmed.{has_path, only, prune, on_path, numbers, marked}
use Rattle.strat_trim.specs.Trim.{node_numbers}
use Rattle.strat_trim.proofs.RenamedForms.{Keeps}
use Rattle.strat_trim.proofs.RenamedSteps.{MatrixWithin, MatricesWithin}
use Rattle.strat_trim.proofs.RenamedProofs.{Renames}
use Rattle.strat_trim.proofs.PrunedNodes.{agree_all, count_left, numbers_rise, numbers_below, names_at, routes_pruned, AllMarked, routes_marked, only_get, flags_all, each_only}
use Rattle.strat_trim.proofs.PrunedDefinitions.{IsMarked, rename_twice, within_names, rename_definition, left, DefinitionWithin, definitions_pruned, definitions_within, definition_left}

-- ---- a matrix at names of names

form_twice : (new names : List ℕ) (f : Form) → Below (length names) f → rename (names_at new names) f ≡ rename new (rename names f)
form_twice new names f b = ap (λ (ts : List (ℕ × _)). let g : Form = record { terms = ts; constant = f.constant } in g) (rename_twice new names f.terms b)

lit_twice : (new names : List ℕ) (l : Lit) → Below (length names) (form_of l) → rename_lit (names_at new names) l ≡ rename_lit new (rename_lit names l)
lit_twice new names (AtLeast f) b = ap AtLeast (form_twice new names f b)
lit_twice new names (Above f) b = ap Above (form_twice new names f b)
lit_twice new names (Divides d f) b = ap (Divides d) (form_twice new names f b)
lit_twice new names (NotDivides d f) b = ap (NotDivides d) (form_twice new names f b)

lit_names_within : (marks : List Bool) (names : List ℕ) (l : Lit) → AllMarked marks names → Below (length names) (form_of l) → MatrixWithin (lit (rename_lit names l)) (IsMarked marks)
lit_names_within marks names (AtLeast f) a b = within_names marks names f.terms a b
lit_names_within marks names (Above f) a b = within_names marks names f.terms a b
lit_names_within marks names (Divides d f) a b = within_names marks names f.terms a b
lit_names_within marks names (NotDivides d f) a b = within_names marks names f.terms a b

mutual
  matrix_twice : (m : Matrix) (s : Sort) (new names : List ℕ) → IsMatrix m s (length names) → rename_matrix m (names_at new names) ≡ rename_matrix (rename_matrix m names) new
  matrix_twice (lit l) s new names b = ap lit (lit_twice new names l b.1)
  matrix_twice (all ms) s new names b = ap all (matrices_twice ms s new names b)
  matrix_twice (some ms) s new names b = ap some (matrices_twice ms s new names b)

  matrices_twice : (ms : Matrices) (s : Sort) (new names : List ℕ) → AreMatrices ms s (length names) → rename_matrices ms (names_at new names) ≡ rename_matrices (rename_matrices ms names) new
  matrices_twice none s new names b = refl
  matrices_twice (more m ms) s new names b = ap₂ more (matrix_twice m s new names b.0) (matrices_twice ms s new names b.1)

mutual
  matrix_names_within : (m : Matrix) (s : Sort) (marks : List Bool) (names : List ℕ) → AllMarked marks names → IsMatrix m s (length names) → MatrixWithin (rename_matrix m names) (IsMarked marks)
  matrix_names_within (lit l) s marks names a b = lit_names_within marks names l a b.1
  matrix_names_within (all ms) s marks names a b = matrices_names_within ms s marks names a b
  matrix_names_within (some ms) s marks names a b = matrices_names_within ms s marks names a b

  matrices_names_within : (ms : Matrices) (s : Sort) (marks : List Bool) (names : List ℕ) → AllMarked marks names → AreMatrices ms s (length names) → MatricesWithin (rename_matrices ms names) (IsMarked marks)
  matrices_names_within none s marks names a b = tt
  matrices_names_within (more m ms) s marks names a b = (matrix_names_within m s marks names a b.0, matrices_names_within ms s marks names a b.1)

get_mapped : {A B : Type 0} (f : A → B) (xs : List A) (i : ℕ) (y : B) → slice_get (map f xs) i ≡ Some y → (x : A) × (slice_get xs i ≡ Some x) × (f x ≡ y)
get_mapped f [] i y e = absurd (cc)
get_mapped f (x ∷ xs) zero y e = (x, refl, some_same (f x) y e)
get_mapped f (x ∷ xs) (suc i) y e = get_mapped f xs i y e

map_get : {A B : Type 0} (f : A → B) (xs : List A) (i : ℕ) (x : A) → slice_get xs i ≡ Some x → slice_get (map f xs) i ≡ Some (f x)
map_get f [] i x e = absurd (cc)
map_get f (y ∷ xs) zero x e = ap (λ z. Some (f z)) (some_same y x e)
map_get f (y ∷ xs) (suc i) x e = map_get f xs i x e

-- ---- the systems

abbrev pub IsChosen : List Bool → ℕ → Type 0
IsChosen flags k = marked flags k ≡ true

abbrev pub IsOn : Skeleton → List Bool → ℕ → Type 0
IsOn S flags v = IsMarked (on_path S (marked flags) 0) v

pub nodes_rise : (S : Skeleton) (flags : List Bool) → Keeps (node_numbers S flags) (IsOn S flags)
nodes_rise S flags = record { ascend = λ i j a b l. numbers_rise 0 (on_path S (marked flags) 0) i j a b l }

pub nodes_below : (S : Skeleton) (flags : List Bool) (v : ℕ) → has_path S (marked flags) 0 ≡ true → IsOn S flags v → get_or (node_numbers S flags) v 0 < nodes (prune S (marked flags) 0)
nodes_below S flags v e h =
    let b = numbers_below 0 (on_path S (marked flags) 0) v h in
    let q = count_left S (marked flags) 0 e in
    omega arith

path_there : (s : Sort) (P : Problem) (S : Skeleton) (flags : List Bool) (k : ℕ) (m : Matrix) → IsMatrix P.matrix s (length P.prefix) → Follows S s P.prefix 0 → has_path S (marked flags) 0 ≡ true → IsChosen flags k → slice_get (system s P S).paths k ≡ Some m → (slice_get (system s P (prune S (marked flags) 0)).paths (get_or (numbers 0 flags) k 0) ≡ Some (rename_matrix m (node_numbers S flags))) × MatrixWithin m (IsOn S flags)
path_there s P S flags k m o f e q g =
    let M : Matrix = neg_matrix P.matrix s in
    let c : ℕ → Bool = marked flags in
    let marks : List Bool = on_path S c 0 in
    let new : List ℕ = node_numbers S flags in
    let r = get_mapped (rename_matrix M) (routes S [] 0) k m g in
    let j = only_get c 0 (routes S [] 0) flags 0 k r.0 (flags_all flags) r.1 q in
    let old_at : slice_get (map (names_at new) (only c 0 (routes S [] 0))) j.0 ≡ Some (names_at new r.0) = map_get (names_at new) (only c 0 (routes S [] 0)) j.0 r.0 j.2 in
    let all_routes_new : routes (prune S c 0) [] 0 ≡ map (names_at new) (only c 0 (routes S [] 0)) = routes_pruned S c 0 new [] 0 0 e (agree_all 0 new) in
    let number : get_or (numbers 0 flags) k 0 ≡ j.0 = let x = j.1 in omega arith in
    let way = route_at (0 + length P.prefix) (0 + nodes S) (routes S [] 0) k r.0 (routes_rise S s P.prefix 0 [] 0 f (rising_none 0)) r.1 in
    let long : length P.prefix ≡ length r.0 = let x = way.long in omega arith in
    let over : IsMatrix M s (length r.0) = subst (λ (n : ℕ). IsMatrix M s n) long (neg_is_matrix P.matrix s (length P.prefix) o) in
    let on = each_only (AllMarked marks) (only c 0 (routes S [] 0)) j.0 r.0 (routes_marked S c 0 marks [] 0 (agree_all false marks) tt) j.2 in (
      ap₂ (λ (rs : List (List ℕ)) (i : ℕ). slice_get (map (rename_matrix M) rs) i) all_routes_new number
          ∙ map_get (rename_matrix M) (map (names_at new) (only c 0 (routes S [] 0))) j.0 (names_at new r.0) old_at
          ∙ ap Some (matrix_twice M s new r.0 over ∙ ap (λ (x : Matrix). rename_matrix x new) r.2),
      subst (λ (x : Matrix). MatrixWithin x (IsMarked marks)) r.2 (matrix_names_within M s marks r.0 on over),
    )

definition_there : (s : Sort) (P : Problem) (S : Skeleton) (flags : List Bool) (v : ℕ) (d : Definition) → Follows S s P.prefix 0 → has_path S (marked flags) 0 ≡ true → IsOn S flags v → definition_at (system s P S).defs v ≡ Some d → (definition_at (system s P (prune S (marked flags) 0)).defs (get_or (node_numbers S flags) v 0) ≡ Some (rename_definition (node_numbers S flags) d)) × DefinitionWithin (IsOn S flags) d
definition_there s P S flags v d f e h g =
    let c : ℕ → Bool = marked flags in
    let marks : List Bool = on_path S c 0 in
    let new : List ℕ = node_numbers S flags in
    let same : definitions (prune S c 0) s [] 0 ≡ map (rename_definition new) (left marks (definitions S s [] 0)) =
    definitions_pruned S s P.prefix 0 c 0 new marks [] 0 0 e (agree_all 0 new) (agree_all false marks) (nodes_rise S flags) tt refl f in
    let r = definition_left new marks (definitions S s [] 0) v d (nodes_rise S flags) h (definitions_within S s P.prefix 0 c 0 marks [] 0 e (agree_all false marks) tt refl f) g in
    (ap (λ (ds : List Definition). definition_at ds (get_or new v 0)) same ∙ r.0, r.1)

pub system_renamed : (s : Sort) (P : Problem) (S : Skeleton) (flags : List Bool) → IsMatrix P.matrix s (length P.prefix) → Follows S s P.prefix 0 → has_path S (marked flags) 0 ≡ true → Renames (system s P S) (system s P (prune S (marked flags) 0)) (numbers 0 flags) (node_numbers S flags) (IsChosen flags) (IsOn S flags)
system_renamed s P S flags o f e = record {
  keeps = nodes_rise S flags;
  below = λ v h. nodes_below S flags v e h;
  path = λ k m q g. path_there s P S flags k m o f e q g;
  def = λ v d h g. definition_there s P S flags v d f e h g;
}
