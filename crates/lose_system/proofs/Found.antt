-- What the table says is what the tree says: the nodes of each path, and the definition of each node.
use Rattle.std.specs.Prelude.{ℕ, zero, suc, ◌+◌, ◌<◌, ◌≤◌, ◌≡◌, ◌≢◌, nat_eq, Bool, true, false, Option, Some, None, option_and_then, slice_get, List, [], ◌∷◌, ◌++◌, map, length}
use Rattle.std.proofs.Common.{arith, ap, ap₂, ◌∙◌, sym, subst, refl, inl, inr, cond, append_assoc, append-nil, length-append, eq-eqb}
use Rattle.std.proofs.lemmas.Bool.{eqb-true, cases_lt}
use Rattle.std.proofs.lemmas.List.{map-append}
use Rattle.lin_term.specs.declared.Sort.{Sort}
use Rattle.lin_term.specs.Move.{Move}
use Rattle.lin_term.specs.Definition.{Definition, definition}
use Rattle.dom_core.specs.declared.Quant.{Quant}
use Rattle.dom_core.specs.declared.Quant.TheVariants.{Exists, Forall}
use Rattle.game_tree.specs.Skeleton.{Skeleton, end, theirs, mine, Branches, no_more, branch, nodes, branch_nodes, Follows, EachFollows}
use Rattle.lose_system.specs.Losing.{definitions, branch_definitions, routes, branch_routes, definition_at}
use Rattle.lose_system.specs.Place.{Place}
use Rattle.lose_system.specs.Table.{at_place, places, branch_places, leaves, branch_leaves, above_at, route, definition_of, definition_in}
use Rattle.lose_system.proofs.Filling.{length-places}

-- ---- a place in the middle of the table

pub get_middle : {A : Type 0} (pre rest : List A) (x : A) → slice_get (pre ++ x ∷ rest) (length pre) ≡ Some x
get_middle [] rest x = refl
get_middle (y ∷ pre) rest x = get_middle pre rest x

pub get_at : {A : Type 0} (t pre rest : List A) (x : A) (v : ℕ) → t ≡ pre ++ x ∷ rest → length pre ≡ v → slice_get t v ≡ Some x
get_at t pre rest x v e l =
    ap₂ (λ (u : List _) (i : ℕ). slice_get u i) e (sym l) ∙ get_middle pre rest x

-- one item more stands before
pub shift_one : {A : Type 0} (t pre rest post : List A) (x : A) → t ≡ pre ++ ((x ∷ rest) ++ post) → t ≡ (pre ++ x ∷ []) ++ (rest ++ post)
shift_one t pre rest post x e = e ∙ sym (append_assoc pre (x ∷ []) (rest ++ post))

pub shift_more : {A : Type 0} (t pre mid rest post : List A) → t ≡ pre ++ ((mid ++ rest) ++ post) → t ≡ (pre ++ mid) ++ (rest ++ post)
shift_more t pre mid rest post e =
    e ∙ ap (λ (u : List _). pre ++ u) (append_assoc mid rest post) ∙ sym (append_assoc pre mid (rest ++ post))

-- ---- the nodes of each path

-- the way to a node that stands in the table
pub route_push : (t : List Place) (names : List ℕ) (d a v : ℕ) (m : Option Move) → slice_get t v ≡ Some (at_place m d a) → names ≡ route d t a → names ++ v ∷ [] ≡ route (suc d) t v
route_push t names d a v m e n =
    ap (λ (u : List ℕ). u ++ v ∷ []) (n ∙ ap (λ (b : ℕ). route d t b) (sym (ap above_at e)))

pub length_one : {A : Type 0} (pre : List A) (x : A) (v : ℕ) → length pre ≡ v → length (pre ++ x ∷ []) ≡ suc v
length_one pre x v e = let l = length-append pre (x ∷ []) in omega arith

pub length_branch : (pre : List Place) (t : Skeleton) (p : Place) (d v : ℕ) → length pre ≡ v → length (pre ++ (p ∷ places t (suc d) v (suc v))) ≡ suc v + nodes t
length_branch pre t p d v e =
    let l = length-append pre (p ∷ places t (suc d) v (suc v)) in let k = length-places t (suc d) v (suc v) in omega arith

mutual
  pub routes_found : (S : Skeleton) (s : Sort) (qs : List Quant) (k : ℕ) (t pre post : List Place) (d a v : ℕ) (names : List ℕ) → Follows S s qs k → t ≡ pre ++ (places S d a v ++ post) → length pre ≡ v → names ≡ route d t a → routes S names v ≡ map (route (d + length qs) t) (leaves S a v)
  routes_found end s [] k t pre post d a v names f e l n =
      let z : d ≡ d + 0 = omega arith in ap (λ (u : List ℕ). u ∷ []) (n ∙ ap (λ (i : ℕ). route i t a) z)
  routes_found end s (q ∷ qs) k t pre post d a v names f e l n = absurd f
  routes_found (theirs S) s [] k t pre post d a v names f e l n = absurd f
  routes_found (theirs S) s (Exists ∷ qs) k t pre post d a v names f e l n = absurd f
  routes_found (theirs S) s (Forall ∷ qs) k t pre post d a v names f e l n =
      let p : Place = at_place None d a in
      let here = get_at t pre (places S (suc d) v (suc v) ++ post) p v e l in
      let z : suc d + length qs ≡ d + suc (length qs) = omega arith in
      routes_found S s qs (suc k) t (pre ++ p ∷ []) post (suc d) v (suc v) (names ++ v ∷ []) f
      (shift_one t pre (places S (suc d) v (suc v)) post p e) (length_one pre p v l) (route_push t names d a v None here n)
      ∙ ap (λ (i : ℕ). map (route i t) (leaves S v (suc v))) z
  routes_found (mine bs) s [] k t pre post d a v names f e l n = absurd f
  routes_found (mine bs) s (Forall ∷ qs) k t pre post d a v names f e l n = absurd f
  routes_found (mine bs) s (Exists ∷ qs) k t pre post d a v names f e l n =
      branch_routes_found bs s qs k t pre post d a v names f.1 e l n

  pub branch_routes_found : (bs : Branches) (s : Sort) (qs : List Quant) (k : ℕ) (t pre post : List Place) (d a v : ℕ) (names : List ℕ) → EachFollows bs s qs k → t ≡ pre ++ (branch_places bs d a v ++ post) → length pre ≡ v → names ≡ route d t a → branch_routes bs names v ≡ map (route (d + suc (length qs)) t) (branch_leaves bs a v)
  branch_routes_found no_more s qs k t pre post d a v names f e l n = refl
  branch_routes_found (branch m S bs) s qs k t pre post d a v names f e l n =
      let p : Place = at_place (Some m) d a in
      let below : List Place = places S (suc d) v (suc v) in
      let rest : List Place = branch_places bs d a (suc v + nodes S) in
      let e' = e ∙ ap (λ (u : List Place). pre ++ u) (append_assoc (p ∷ below) rest post) in
      let here = get_at t pre (below ++ (rest ++ post)) p v e' l in
      let z : suc d + length qs ≡ d + suc (length qs) = omega arith in
      ap₂ (λ (x y : List (List ℕ)). x ++ y)
      (routes_found S s qs (suc k) t (pre ++ p ∷ []) (rest ++ post) (suc d) v (suc v) (names ++ v ∷ []) f.2
      (shift_one t pre below (rest ++ post) p e') (length_one pre p v l) (route_push t names d a v (Some m) here n)
      ∙ ap (λ (i : ℕ). map (route i t) (leaves S v (suc v))) z)
      (branch_routes_found bs s qs k t (pre ++ (p ∷ below)) post d a (suc v + nodes S) names f.3
      (shift_more t pre (p ∷ below) rest post e) (length_branch pre S p d v l) n)
      ∙ sym (map-append (route (d + suc (length qs)) t) (leaves S v (suc v)) (branch_leaves bs a (suc v + nodes S)))

-- ---- the definition of each node

abbrev or_else : {A : Type 0} → Option A → Option A → Option A
or_else None o = o
or_else (Some x) o = Some x

or_none : {A : Type 0} (o : Option A) → or_else o None ≡ o
or_none None = refl
or_none (Some x) = refl

definition_at-append : (ds es : List Definition) (w : ℕ) → definition_at (ds ++ es) w ≡ or_else (definition_at ds w) (definition_at es w)
definition_at-append [] es w = refl
definition_at-append (d ∷ ds) es w = by (nat_eq d.node w) (definition_at-append ds es w)
  where
    by : (b : Bool) → definition_at (ds ++ es) w ≡ or_else (definition_at ds w) (definition_at es w) → cond b (Some d) (definition_at (ds ++ es) w) ≡ or_else (cond b (Some d) (definition_at ds w)) (definition_at es w)
    by true h = refl
    by false h = h

pub first_only : (ds es : List Definition) (w : ℕ) → definition_at es w ≡ None → definition_at (ds ++ es) w ≡ definition_at ds w
first_only ds es w e =
    definition_at-append ds es w ∙ ap (or_else (definition_at ds w)) e ∙ or_none (definition_at ds w)

pub second_only : (ds es : List Definition) (w : ℕ) → definition_at ds w ≡ None → definition_at (ds ++ es) w ≡ definition_at es w
second_only ds es w e =
    definition_at-append ds es w ∙ ap (λ (o : Option Definition). or_else o (definition_at es w)) e

differ : (a b : ℕ) → a ≢ b → nat_eq a b ≡ false
differ a b n = by (nat_eq a b) refl
  where
    by : (c : Bool) → nat_eq a b ≡ c → c ≡ false
    by false e = refl
    by true e = absurd (n (eqb-true a b e))

pub other_node : (d : Definition) (ds : List Definition) (w : ℕ) → d.node ≢ w → definition_at (d ∷ ds) w ≡ definition_at ds w
other_node d ds w n =
    ap (λ (b : Bool). cond b (Some d) (definition_at ds w)) (differ d.node w n)

pub same_node : (d : Definition) (ds : List Definition) (w : ℕ) → d.node ≡ w → definition_at (d ∷ ds) w ≡ Some d
same_node d ds w e =
    ap (λ (b : Bool). cond b (Some d) (definition_at ds w)) (eq-eqb d.node w e)

-- a node before the first, or after the last, has none
mutual
  pub none_before : (S : Skeleton) (s : Sort) (names : List ℕ) (v w : ℕ) → w < v → definition_at (definitions S s names v) w ≡ None
  none_before end s names v w h = refl
  none_before (theirs S) s names v w h = none_before S s (names ++ v ∷ []) (suc v) w (omega arith)
  none_before (mine bs) s names v w h = none_before_branches bs s names v w h

  pub none_before_branches : (bs : Branches) (s : Sort) (names : List ℕ) (v w : ℕ) → w < v → definition_at (branch_definitions bs s names v) w ≡ None
  none_before_branches no_more s names v w h = refl
  none_before_branches (branch m S bs) s names v w h =
      other_node (definition s m names v) (definitions S s (names ++ v ∷ []) (suc v) ++ branch_definitions bs s names (suc v + nodes S)) w (λ e. omega arith)
      ∙ first_only (definitions S s (names ++ v ∷ []) (suc v)) (branch_definitions bs s names (suc v + nodes S)) w (none_before_branches bs s names (suc v + nodes S) w (omega arith))
      ∙ none_before S s (names ++ v ∷ []) (suc v) w (omega arith)

mutual
  pub none_after : (S : Skeleton) (s : Sort) (names : List ℕ) (v w : ℕ) → v + nodes S ≤ w → definition_at (definitions S s names v) w ≡ None
  none_after end s names v w h = refl
  none_after (theirs S) s names v w h = none_after S s (names ++ v ∷ []) (suc v) w (omega arith)
  none_after (mine bs) s names v w h = none_after_branches bs s names v w h

  pub none_after_branches : (bs : Branches) (s : Sort) (names : List ℕ) (v w : ℕ) → v + branch_nodes bs ≤ w → definition_at (branch_definitions bs s names v) w ≡ None
  none_after_branches no_more s names v w h = refl
  none_after_branches (branch m S bs) s names v w h =
      other_node (definition s m names v) (definitions S s (names ++ v ∷ []) (suc v) ++ branch_definitions bs s names (suc v + nodes S)) w (λ e. omega arith)
      ∙ first_only (definitions S s (names ++ v ∷ []) (suc v)) (branch_definitions bs s names (suc v + nodes S)) w (none_after_branches bs s names (suc v + nodes S) w (omega arith))
      ∙ none_after S s (names ++ v ∷ []) (suc v) w (omega arith)

-- a variable of the other player is no move
theirs_in : (s : Sort) (t : List Place) (d a w : ℕ) → slice_get t w ≡ Some (at_place None d a) → definition_in s t w ≡ None
theirs_in s t d a w e = ap (option_and_then (definition_of s t w)) e

mine_in : (s : Sort) (t : List Place) (m : Move) (d a w : ℕ) (names : List ℕ) → slice_get t w ≡ Some (at_place (Some m) d a) → names ≡ route d t a → definition_in s t w ≡ Some (definition s m names w)
mine_in s t m d a w names e n =
    ap (option_and_then (definition_of s t w)) e ∙ ap (λ (u : List ℕ). Some (definition s m u w)) (sym n)

mutual
  pub definition_found : (S : Skeleton) (s : Sort) (t pre post : List Place) (d a v w : ℕ) (names : List ℕ) → t ≡ pre ++ (places S d a v ++ post) → length pre ≡ v → names ≡ route d t a → v ≤ w → w < v + nodes S → definition_at (definitions S s names v) w ≡ definition_in s t w
  definition_found end s t pre post d a v w names e l n lo hi = absurd (omega arith)
  definition_found (theirs S) s t pre post d a v w names e l n lo hi =
      let p : Place = at_place None d a in
      let here = get_at t pre (places S (suc d) v (suc v) ++ post) p v e l in
      elim (cases_lt v w) [
        | inl less ↦ definition_found S s t (pre ++ p ∷ []) post (suc d) v (suc v) w (names ++ v ∷ []) (shift_one t pre (places S (suc d) v (suc v)) post p e) (length_one pre p v l) (route_push t names d a v None here n) (omega arith) (omega arith)
        | inr more ↦
            let same : v ≡ w = omega arith in
            none_before S s (names ++ v ∷ []) (suc v) w (omega arith) ∙ sym (theirs_in s t d a w (subst (λ (i : ℕ). slice_get t i ≡ Some p) same here))
      ]
  definition_found (mine bs) s t pre post d a v w names e l n lo hi =
      branch_definition_found bs s t pre post d a v w names e l n lo hi

  pub branch_definition_found : (bs : Branches) (s : Sort) (t pre post : List Place) (d a v w : ℕ) (names : List ℕ) → t ≡ pre ++ (branch_places bs d a v ++ post) → length pre ≡ v → names ≡ route d t a → v ≤ w → w < v + branch_nodes bs → definition_at (branch_definitions bs s names v) w ≡ definition_in s t w
  branch_definition_found no_more s t pre post d a v w names e l n lo hi = absurd (omega arith)
  branch_definition_found (branch m S bs) s t pre post d a v w names e l n lo hi =
      let p : Place = at_place (Some m) d a in
      let below : List Place = places S (suc d) v (suc v) in
      let rest : List Place = branch_places bs d a (suc v + nodes S) in
      let e' = e ∙ ap (λ (u : List Place). pre ++ u) (append_assoc (p ∷ below) rest post) in
      let here = get_at t pre (below ++ (rest ++ post)) p v e' l in
      let ds : List Definition = definitions S s (names ++ v ∷ []) (suc v) in
      let es : List Definition = branch_definitions bs s names (suc v + nodes S) in
      elim (cases_lt v w) [
        | inl less ↦
            other_node (definition s m names v) (ds ++ es) w (λ q. omega arith)
            ∙ (elim (cases_lt w (suc v + nodes S)) [
              | inl inside ↦
                  first_only ds es w (none_before_branches bs s names (suc v + nodes S) w inside)
                  ∙ definition_found S s t (pre ++ p ∷ []) (rest ++ post) (suc d) v (suc v) w (names ++ v ∷ []) (shift_one t pre below (rest ++ post) p e') (length_one pre p v l) (route_push t names d a v (Some m) here n) (omega arith) inside
              | inr beyond ↦
                  second_only ds es w (none_after S s (names ++ v ∷ []) (suc v) w beyond)
                  ∙ branch_definition_found bs s t (pre ++ (p ∷ below)) post d a (suc v + nodes S) w names (shift_more t pre (p ∷ below) rest post e) (length_branch pre S p d v l) n beyond (omega arith)
            ])
        | inr more ↦
            let same : v ≡ w = omega arith in
            same_node (definition s m names v) (ds ++ es) w same
            ∙ ap (λ (i : ℕ). Some (definition s m names i)) same
            ∙ sym (mine_in s t m d a w names (subst (λ (i : ℕ). slice_get t i ≡ Some p) same here) n)
      ]

-- ---- the whole table

pub all_routes : (S : Skeleton) (s : Sort) (qs : List Quant) → Follows S s qs 0 → routes S [] 0 ≡ map (route (length qs) (places S 0 0 0)) (leaves S 0 0)
all_routes S s qs f =
    routes_found S s qs 0 (places S 0 0 0) [] [] 0 0 0 [] f (sym (append-nil (places S 0 0 0))) refl refl
    ∙ (let z : 0 + length qs ≡ length qs = omega arith in ap (λ (i : ℕ). map (route i (places S 0 0 0)) (leaves S 0 0)) z)

get_past : {A : Type 0} (xs : List A) (i : ℕ) → length xs ≤ i → slice_get xs i ≡ None
get_past [] i h = refl
get_past (x ∷ xs) zero h = absurd (omega arith)
get_past (x ∷ xs) (suc i) h = get_past xs i (omega arith)

pub all_definitions : (S : Skeleton) (s : Sort) (w : ℕ) → definition_at (definitions S s [] 0) w ≡ definition_in s (places S 0 0 0) w
all_definitions S s w =
    elim (cases_lt w (nodes S)) [
      | inl inside ↦ definition_found S s (places S 0 0 0) [] [] 0 0 0 w [] (sym (append-nil (places S 0 0 0))) refl refl (omega arith) (omega arith)
      | inr beyond ↦
          let l = length-places S 0 0 0 in
          let past : length (places S 0 0 0) ≤ w = omega arith in
          none_after S s [] 0 w (omega arith) ∙ sym (ap (option_and_then (definition_of s (places S 0 0 0) w)) (get_past (places S 0 0 0) w past))
    ]
