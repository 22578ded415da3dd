-- Filling the table: one more branch.
use Rattle.std.specs.Prelude.{ℕ, suc, ◌+◌, ◌≤◌, ◌≡◌, Some, List, [], ◌∷◌, ◌++◌, length}
use Rattle.std.proofs.Common.{arith, ap, ap₂, ◌∙◌, sym, refl, append_assoc, append-nil, length-append}
use Rattle.std.proofs.lemmas.List.{length-map, map-append}
use Rattle.lin_term.specs.Move.{Move}
use Rattle.game_tree.specs.Skeleton.{Skeleton, end, theirs, mine, Branches, no_more, branch, nodes, branch_nodes}
use Rattle.lose_system.specs.Place.{Place}
use Rattle.lose_system.specs.declared.table.Node.{Node}
use Rattle.lose_system.specs.Table.{place_of, places_of, at_place, places, branch_places, leaves, branch_leaves}

mutual
  pub length-places : (S : Skeleton) (d a v : ℕ) → length (places S d a v) ≡ nodes S
  length-places end d a v = refl
  length-places (theirs t) d a v = let h = length-places t (suc d) v (suc v) in omega arith
  length-places (mine bs) d a v = length-branch_places bs d a v

  pub length-branch_places : (bs : Branches) (d a v : ℕ) → length (branch_places bs d a v) ≡ branch_nodes bs
  length-branch_places no_more d a v = refl
  length-branch_places (branch m t bs) d a v =
      let h = length-places t (suc d) v (suc v) in
      let k = length-branch_places bs d a (suc v + nodes t) in
      let e = length-append (places t (suc d) v (suc v)) (branch_places bs d a (suc v + nodes t)) in
      omega arith

-- what the loop keeps: the table so far, and what the branches from here on will add to it
pub record Filled (list : List Node) (ends : List ℕ) (rest : Branches) (d a : ℕ) (old : List Node) (old_ends : List ℕ) (all : Branches) : Type 0 where
  pub nodes_so_far : places_of list ++ branch_places rest d a (length list) ≡ places_of old ++ branch_places all d a (length old)
  pub ends_so_far : ends ++ branch_leaves rest a (length list) ≡ old_ends ++ branch_leaves all a (length old)
  pub few : length list + branch_nodes rest ≤ 1048576
  pub deep : d ≤ length list

pub filled_first : (list : List Node) (ends : List ℕ) (all : Branches) (d a : ℕ) → length list + branch_nodes all ≤ 1048576 → d ≤ length list → Filled list ends all d a list ends all
filled_first list ends all d a f g = record { nodes_so_far = refl; ends_so_far = refl; few = f; deep = g }

pub length_pushed : {A : Type 0} (xs ys : List A) (x : A) → ys ≡ xs ++ x ∷ [] → length ys ≡ length xs + 1
length_pushed xs ys x e = ap length e ∙ length-append xs (x ∷ [])

length_after : (list pushed new : List Node) (n : Node) (t : Skeleton) (d v : ℕ) → pushed ≡ list ++ n ∷ [] → places_of new ≡ places_of pushed ++ places t d v (length pushed) → length new ≡ suc (length list) + nodes t
length_after list pushed new n t d v e h =
    let a = ap length h in
    let b = length-map new place_of in
    let c = length-map pushed place_of in
    let f = length-append (places_of pushed) (places t d v (length pushed)) in
    let g = length-places t d v (length pushed) in
    let k = ap length e in
    let l = length-append list (n ∷ []) in
    omega arith

pub filled_more : (list pushed new : List Node) (n : Node) (ends new_ends : List ℕ) (m : Move) (t : Skeleton) (rest : Branches) (d a : ℕ) (old : List Node) (old_ends : List ℕ) (all : Branches) → Filled list ends (branch m t rest) d a old old_ends all → place_of n ≡ at_place (Some m) d a → pushed ≡ list ++ n ∷ [] → (k : ℕ) → k ≡ length list → places_of new ≡ places_of pushed ++ places t (d + 1) k (length pushed) → new_ends ≡ ends ++ leaves t k (length pushed) → Filled new new_ends rest d a old old_ends all
filled_more list pushed new n ends new_ends m t rest d a old old_ends all f pn pe k ke nodes_is ends_is =
    let v : ℕ = length list in
    let nodes_new : places_of new ≡ places_of pushed ++ places t (d + 1) v (length pushed) = nodes_is ∙ ap (λ (j : ℕ). places_of pushed ++ places t (d + 1) j (length pushed)) ke in
    let ends_new : new_ends ≡ ends ++ leaves t v (length pushed) = ends_is ∙ ap (λ (j : ℕ). ends ++ leaves t j (length pushed)) ke in
    let len = length_after list pushed new n t (d + 1) v pe nodes_new in
    let lp : length pushed ≡ suc v = let k = ap length pe in let l = length-append list (n ∷ []) in omega arith in
    let sd : d + 1 ≡ suc d = omega arith in
    let seen : places_of pushed ≡ places_of list ++ at_place (Some m) d a ∷ [] = ap places_of pe ∙ map-append place_of list (n ∷ []) ∙ ap (λ (x : Place). places_of list ++ x ∷ []) pn in
    let child : places t (d + 1) v (length pushed) ≡ places t (suc d) v (suc v) = ap₂ (λ (i j : ℕ). places t i v j) sd lp in
    let left : leaves t v (length pushed) ≡ leaves t v (suc v) = ap (λ (j : ℕ). leaves t v j) lp in
    record {
      nodes_so_far = ap₂ (λ (x : List Place) (j : ℕ). x ++ branch_places rest d a j) (nodes_new ∙ ap₂ (λ (x y : List Place). x ++ y) seen child) len
          ∙ ap (λ (x : List Place). x ++ branch_places rest d a (suc v + nodes t)) (append_assoc (places_of list) (at_place (Some m) d a ∷ []) (places t (suc d) v (suc v)))
          ∙ append_assoc (places_of list) (at_place (Some m) d a ∷ places t (suc d) v (suc v)) (branch_places rest d a (suc v + nodes t))
          ∙ f.nodes_so_far;
      ends_so_far = ap₂ (λ (x : List ℕ) (j : ℕ). x ++ branch_leaves rest a j) (ends_new ∙ ap (λ (x : List ℕ). ends ++ x) left) len
          ∙ append_assoc ends (leaves t v (suc v)) (branch_leaves rest a (suc v + nodes t))
          ∙ f.ends_so_far;
      few = let w = f.few in omega arith;
      deep = let w = f.deep in omega arith;
    }

pub filled_last : (list : List Node) (ends : List ℕ) (d a : ℕ) (old : List Node) (old_ends : List ℕ) (all : Branches) → Filled list ends no_more d a old old_ends all → (places_of list ≡ places_of old ++ branch_places all d a (length old)) × (ends ≡ old_ends ++ branch_leaves all a (length old))
filled_last list ends d a old old_ends all f =
    (sym (append-nil (places_of list)) ∙ f.nodes_so_far, sym (append-nil ends) ∙ f.ends_so_far)
