-- What the type of a losing system keeps, read at its nodes and paths.
use Rattle.std.specs.Prelude.{ℕ, zero, suc, ◌+◌, ◌^◌, ◌<◌, ◌≤◌, ◌≡◌, Option, Some, None, option_map, option_and_then, slice_get, Result, Ok, Err, IfOk, IfSome, List, [], ◌∷◌, map, length}
use Rattle.std.proofs.Common.{arith, ap, ap₂, ◌∙◌, sym, subst, length-append, Bor}
use Rattle.std.proofs.lemmas.List.{length-map}
use Rattle.lin_term.specs.declared.Sort.{Sort}
use Rattle.lin_term.specs.declared.Lit.{Lit}
use Rattle.lin_term.specs.Linear.{Below}
use Rattle.lin_term.specs.Move.{Move}
use Rattle.lin_term.specs.Definition.{definition}
use Rattle.dom_core.specs.declared.Quant.{Quant}
use Rattle.dom_core.specs.Problem.{WrittenProblem, IsProblem, problem_of}
use Rattle.game_tree.specs.declared.Tree.{Tree}
use Rattle.game_tree.specs.Skeleton.{Skeleton, end, theirs, mine, Branches, no_more, branch, nodes, branch_nodes, node_limit, Follows, IsSkeleton}
use Rattle.game_tree.specs.Written.{WrittenSkeleton, FollowsPrefix}
use Rattle.game_tree.specs.View.{skeleton_of}
use Rattle.lose_system.specs.Losing.{routes, literal_number}
use Rattle.lose_system.specs.Written.{WrittenSystem, definition_literal}
use Rattle.lose_system.specs.Place.{Place}
use Rattle.lose_system.specs.declared.table.Node.{Node}
use Rattle.lose_system.specs.Table.{place_of, places_of, places, leaves, branch_leaves, route, definition_of, definition_in}
use Rattle.lose_system.specs.Kept.{IsTable}
use Rattle.lin_term.specs.Rising.{IsRising, IsDefinable}
use Rattle.lin_term.proofs.AtNames.{rising_more}
use Rattle.lose_system.specs.Rising.{IsWay}
use Rattle.lose_system.proofs.Filling.{length-places}
use Rattle.lose_system.proofs.Found.{all_routes, all_definitions}
use Rattle.lose_system.proofs.Rise.{length-route, all_places_kept, rising_none, route_at, routes_rise}
use Rattle.lose_system.proofs.Seen.{place_at}
use Rattle.lose_system.proofs.LostLemmas.{map_at}

mutual
  length-leaves : (S : Skeleton) (a v : ℕ) → length (leaves S a v) ≤ 1 + nodes S
  length-leaves end a v = omega arith
  length-leaves (theirs t) a v = let h = length-leaves t v (suc v) in omega arith
  length-leaves (mine bs) a v = let h = length-branch_leaves bs a v in omega arith

  length-branch_leaves : (bs : Branches) (a v : ℕ) → length (branch_leaves bs a v) ≤ branch_nodes bs
  length-branch_leaves no_more a v = omega arith
  length-branch_leaves (branch m t bs) a v =
      let h = length-leaves t v (suc v) in
      let k = length-branch_leaves bs a (suc v + nodes t) in
      let e = length-append (leaves t v (suc v)) (branch_leaves bs a (suc v + nodes t)) in
      omega arith

pub node_count_is : (s : Sort) (w : WrittenSystem) (list : List Node) (last : List ℕ) → IsTable s w list last → length list ≡ nodes (skeleton_of w.tree)
node_count_is s w list last t =
    sym (length-map list place_of) ∙ ap length t.nodes ∙ length-places (skeleton_of w.tree) 0 0 0

pub few_nodes : (s : Sort) (w : WrittenSystem) (list : List Node) (last : List ℕ) → IsTable s w list last → length list ≤ 1048576
few_nodes s w list last t = let f = t.skeleton.few in let e = node_count_is s w list last t in omega arith

pub all_paths : (s : Sort) (w : WrittenSystem) (list : List Node) (last : List ℕ) → IsTable s w list last → routes (skeleton_of w.tree) [] 0 ≡ map (route (length w.problem.prefix) (places_of list)) last
all_paths s w list last t =
    all_routes (skeleton_of w.tree) s w.problem.prefix t.skeleton.follows
    ∙ ap₂ (λ (p : List Place) (l : List ℕ). map (route (length w.problem.prefix) p) l) (sym t.nodes) (sym t.ends)

pub path_count_is : (s : Sort) (w : WrittenSystem) (list : List Node) (last : List ℕ) → IsTable s w list last → length last ≡ length (routes (skeleton_of w.tree) [] 0)
path_count_is s w list last t =
    sym (ap length (all_paths s w list last t) ∙ length-map last (route (length w.problem.prefix) (places_of list)))

pub few_paths : (s : Sort) (w : WrittenSystem) (list : List Node) (last : List ℕ) → IsTable s w list last → length last ≤ 1048577
few_paths s w list last t =
    let f = t.skeleton.few in
    let e = ap length t.ends in
    let h = length-leaves (skeleton_of w.tree) 0 0 in
    omega arith

pub path_is : (s : Sort) (w : WrittenSystem) (list : List Node) (last : List ℕ) → IsTable s w list last → (k : ℕ) → slice_get (routes (skeleton_of w.tree) [] 0) k ≡ option_map (route (length w.problem.prefix) (places_of list)) (slice_get last k)
path_is s w list last t k =
    ap (λ (rs : List (List ℕ)). slice_get rs k) (all_paths s w list last t) ∙ map_at (route (length w.problem.prefix) (places_of list)) last k

-- ---- definitions

pub definition_is : (s : Sort) (w : WrittenSystem) (list : List Node) (last : List ℕ) → IsTable s w list last → (v i : ℕ) (o : Option Node) → o ≡ slice_get list v → definition_literal s w v i ≡ option_and_then (literal_number i) (option_and_then (definition_of s (places_of list) v) (option_map place_of o))
definition_is s w list last t v i o e =
    ap (option_and_then (literal_number i))
    (all_definitions (skeleton_of w.tree) s v
    ∙ ap (λ (p : List Place). definition_in s p v) (sym t.nodes)
    ∙ ap (option_and_then (definition_of s (places_of list) v)) (place_at list v ∙ ap (option_map place_of) (sym e)))

pub no_node : (s : Sort) (w : WrittenSystem) (list : List Node) (last : List ℕ) → IsTable s w list last → (v i : ℕ) → None ≡ slice_get list v → None ≡ definition_literal s w v i
no_node s w list last t v i e = sym (definition_is s w list last t v i None e)

pub no_move : (s : Sort) (w : WrittenSystem) (list : List Node) (last : List ℕ) → IsTable s w list last → (v i : ℕ) (n : Node) → Some n ≡ slice_get list v → n.term ≡ None → None ≡ definition_literal s w v i
no_move s w list last t v i n e f =
    sym (definition_is s w list last t v i (Some n) e
    ∙ ap (λ (x : Option (Bor Move)). option_and_then (literal_number i) (option_map (λ m. definition s m (route n.depth (places_of list) n.above) v) (option_map (λ b. b.now) x))) f)

pub some_move : (s : Sort) (w : WrittenSystem) (list : List Node) (last : List ℕ) → IsTable s w list last → (v i : ℕ) (n : Node) (x : Bor Move) (names : List ℕ) (o : Option Lit) → Some n ≡ slice_get list v → n.term ≡ Some x → names ≡ route n.depth (places_of list) n.above → o ≡ literal_number i (definition s x.now names v) → o ≡ definition_literal s w v i
some_move s w list last t v i n x names o e f q r =
    r ∙ ap (λ (u : List ℕ). literal_number i (definition s x.now u v)) q
    ∙ sym (definition_is s w list last t v i (Some n) e
    ∙ ap (λ (y : Option (Bor Move)). option_and_then (literal_number i) (option_map (λ m. definition s m (route n.depth (places_of list) n.above) v) (option_map (λ b. b.now) y))) f)

get_inside : {A : Type 0} (xs : List A) (i : ℕ) (x : A) → slice_get xs i ≡ Some x → i < length xs
get_inside [] i x e = absurd (cc)
get_inside (y ∷ xs) zero x e = omega arith
get_inside (y ∷ xs) (suc i) x e = let h = get_inside xs i x e in omega arith

pub is_definable : (s : Sort) (w : WrittenSystem) (list : List Node) (last : List ℕ) → IsTable s w list last → (v : ℕ) (n : Node) (x : Bor Move) (names : List ℕ) → Some n ≡ slice_get list v → n.term ≡ Some x → names ≡ route n.depth (places_of list) n.above → IsDefinable s x.now names v
is_definable s w list last t v n x names e f q =
    let g : slice_get (places (skeleton_of w.tree) 0 0 0) v ≡ Some (place_of n) = ap (λ (p : List Place). slice_get p v) (sym t.nodes) ∙ place_at list v ∙ ap (option_map place_of) (sym e) in
    let k = all_places_kept (skeleton_of w.tree) s w.problem.prefix v (place_of n) t.skeleton.follows g in
    let m = k.kept x.now (ap (option_map (λ (b : Bor Move). b.now)) f) in
    let i = get_inside list v n (sym e) in
    let b = few_nodes s w list last t in
    record {
      kept = m.kept;
      named = subst (λ (j : ℕ). Below j x.now.numer) (sym (ap length q ∙ length-route n.depth (places_of list) n.above)) m.earlier;
      rising = subst (λ (u : List ℕ). IsRising u v) (sym (q ∙ ap (λ (p : List Place). route n.depth p n.above) t.nodes)) k.rising;
      few = omega arith;
    }

pub IfOk_with : {A E : Type 0} {P Q : A → Type 0} (r : Result A E) → ((x : A) → P x → Q x) → IfOk r P → IfOk r Q
IfOk_with (Ok x) f h = f x h
IfOk_with (Err e) f h = tt

pub is_way : (s : Sort) (w : WrittenSystem) (list : List Node) (last : List ℕ) → IsTable s w list last → (k : ℕ) (names : List ℕ) → slice_get (routes (skeleton_of w.tree) [] 0) k ≡ Some names → IsWay (length w.problem.prefix) names
is_way s w list last t k names e =
    let few = t.skeleton.few in
    let r = route_at (0 + length w.problem.prefix) (0 + nodes (skeleton_of w.tree)) (routes (skeleton_of w.tree) [] 0) k names (routes_rise (skeleton_of w.tree) s w.problem.prefix 0 [] 0 t.skeleton.follows (rising_none 0)) e in
    let l = r.long in
    record { long = omega arith; rising = rising_more names (0 + nodes (skeleton_of w.tree)) (2 ^ 20) (omega arith) r.rising }

-- each name of a path is a node
pub rises_way : (s : Sort) (w : WrittenSystem) (list : List Node) (last : List ℕ) → IsTable s w list last → (k : ℕ) (names : List ℕ) → Some names ≡ slice_get (routes (skeleton_of w.tree) [] 0) k → IsRising names (nodes (skeleton_of w.tree))
rises_way s w list last t k names e =
    let r = route_at (0 + length w.problem.prefix) (0 + nodes (skeleton_of w.tree)) (routes (skeleton_of w.tree) [] 0) k names (routes_rise (skeleton_of w.tree) s w.problem.prefix 0 [] 0 t.skeleton.follows (rising_none 0)) (sym e) in
    rising_more names (0 + nodes (skeleton_of w.tree)) (nodes (skeleton_of w.tree)) (omega arith) r.rising

pub kept_way : (s : Sort) (w : WrittenSystem) (list : List Node) (last : List ℕ) → IsTable s w list last → (k : ℕ) (o : Option (List ℕ)) → o ≡ slice_get (routes (skeleton_of w.tree) [] 0) k → IfSome o (λ names. IsWay (length w.problem.prefix) names)
kept_way s w list last t k None e = tt
kept_way s w list last t k (Some names) e = is_way s w list last t k names (sym e)

-- ---- the skeleton of a system

-- a skeleton over the problem's prefix, within the limit, is one of the problem
pub is_skeleton : (s : Sort) (P : WrittenProblem) (S : WrittenSkeleton) → FollowsPrefix s S → S.prefix ≡ P.prefix → nodes (skeleton_of S.tree) ≤ node_limit → IsSkeleton s (problem_of P) (skeleton_of S.tree)
is_skeleton s P S f e few = record { follows = subst (λ (qs : List Quant). Follows (skeleton_of S.tree) s qs 0) e f.follows; few = few }

-- and the other way round
pub follows_prefix : (s : Sort) (P : WrittenProblem) (qs : List Quant) (t : Tree) → qs ≡ P.prefix → IsProblem s P → IsSkeleton s (problem_of P) (skeleton_of t) → FollowsPrefix s (record { prefix = qs; tree = t })
follows_prefix s P qs t e p f = record {
  short = subst (λ (xs : List Quant). length xs ≤ 1024) (sym e) p.0;
  follows = subst (λ (xs : List Quant). Follows (skeleton_of t) s xs 0) (sym e) f.follows;
  countable = let few = f.few in omega arith;
}
