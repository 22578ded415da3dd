-- The nodes of a path ascend, and so do the names of a node's definition; each node's move is one for its position.
use Rattle.std.specs.Prelude.{ℕ, zero, suc, ◌+◌, ◌<◌, ◌≤◌, ◌≡◌, Some, None, slice_get, List, [], ◌∷◌, ◌++◌, length, get_or, ⊤}
use Rattle.std.proofs.Common.{arith, ap, ◌∙◌, sym, subst, refl, inl, inr, append_assoc, append-nil, length-append}
use Rattle.std.proofs.lemmas.Bool.{cases_lt}
use Rattle.std.proofs.lemmas.List.{get_or_append_left, get_or_push}
use Rattle.lin_term.specs.declared.Sort.{Sort}
use Rattle.lin_term.specs.Move.{Move}
use Rattle.dom_core.specs.declared.Quant.{Quant}
use Rattle.dom_core.specs.declared.Quant.TheVariants.{Exists, Forall}
use Rattle.game_tree.specs.Skeleton.{Skeleton, end, theirs, mine, Branches, no_more, branch, nodes, branch_nodes, IsMoveAt, Follows, EachFollows}
use Rattle.lose_system.specs.Losing.{routes, branch_routes}
use Rattle.lose_system.specs.Place.{Place}
use Rattle.lose_system.specs.Table.{at_place, places, branch_places, above_at, route}
use Rattle.lin_term.specs.Rising.{IsRising}
use Rattle.lin_term.proofs.AtNames.{rising_more}
use Rattle.lose_system.proofs.Filling.{length-places}
use Rattle.lose_system.proofs.Found.{get_at, shift_one, shift_more, length_one, length_branch, route_push}

pub rising_none : (n : ℕ) → IsRising [] n
rising_none n = record { ascend = λ i j h l. absurd (omega arith); below = λ i l. absurd (omega arith) }

pub rising_push : (names : List ℕ) (v : ℕ) → IsRising names v → IsRising (names ++ v ∷ []) (suc v)
rising_push names v r =
    let len = length-append names (v ∷ []) in
    let old : (i : ℕ) → i < length names → get_or (names ++ v ∷ []) i 0 ≡ get_or names i 0 = λ i h. get_or_append_left names (v ∷ []) 0 i h in
    let new : (i : ℕ) → length names ≡ i → get_or (names ++ v ∷ []) i 0 ≡ v = λ i h. get_or_push names v 0 i h in
    record {
      ascend = λ i j h l. elim (cases_lt j (length names)) [
        | inl less ↦ let a = r.ascend i j h less in let p = old i (omega arith) in let q = old j less in omega arith
        | inr more ↦ let b = r.below i (omega arith) in let p = old i (omega arith) in let q = new j (omega arith) in omega arith
      ];
      below = λ i l. elim (cases_lt i (length names)) [
        | inl less ↦ let b = r.below i less in let p = old i less in omega arith
        | inr more ↦ let q = new i (omega arith) in omega arith
      ];
    }

-- ---- each path

-- so long, ascending, and below n
pub record IsRoute (k n : ℕ) (names : List ℕ) : Type 0 where
  pub long : length names ≡ k
  pub rising : IsRising names n

abbrev pub AreRoutes : ℕ → ℕ → List (List ℕ) → Type 0
AreRoutes k n [] = ⊤
AreRoutes k n (r ∷ rs) = IsRoute k n r × AreRoutes k n rs

routes-append : (k n : ℕ) (rs ts : List (List ℕ)) → AreRoutes k n rs → AreRoutes k n ts → AreRoutes k n (rs ++ ts)
routes-append k n [] ts a b = b
routes-append k n (r ∷ rs) ts a b = (a.0, routes-append k n rs ts a.1 b)

routes_more : (k m n : ℕ) (rs : List (List ℕ)) → m ≤ n → AreRoutes k m rs → AreRoutes k n rs
routes_more k m n [] h a = tt
routes_more k m n (r ∷ rs) h a =
    (record { long = a.0.long; rising = rising_more r m n h a.0.rising }, routes_more k m n rs h a.1)

pub route_at : (k n : ℕ) (rs : List (List ℕ)) (i : ℕ) (r : List ℕ) → AreRoutes k n rs → slice_get rs i ≡ Some r → IsRoute k n r
route_at k n [] i r a e = absurd (cc)
route_at k n (x ∷ rs) zero r a e = let same : x ≡ r = cc in subst (λ (y : List ℕ). IsRoute k n y) same a.0
route_at k n (x ∷ rs) (suc i) r a e = route_at k n rs i r a.1 e

same_length : (k l n : ℕ) (rs : List (List ℕ)) → k ≡ l → AreRoutes k n rs → AreRoutes l n rs
same_length k l n rs e a = subst (λ (i : ℕ). AreRoutes i n rs) e a

mutual
  pub routes_rise : (S : Skeleton) (s : Sort) (qs : List Quant) (k : ℕ) (names : List ℕ) (v : ℕ) → Follows S s qs k → IsRising names v → AreRoutes (length names + length qs) (v + nodes S) (routes S names v)
  routes_rise end s [] k names v f r = (record { long = omega arith; rising = rising_more names v (v + 0) (omega arith) r }, tt)
  routes_rise end s (q ∷ qs) k names v f r = absurd f
  routes_rise (theirs S) s [] k names v f r = absurd f
  routes_rise (theirs S) s (Exists ∷ qs) k names v f r = absurd f
  routes_rise (theirs S) s (Forall ∷ qs) k names v f r =
      let len = length-append names (v ∷ []) in
      same_length (length (names ++ v ∷ []) + length qs) (length names + suc (length qs)) (v + (1 + nodes S)) (routes S (names ++ v ∷ []) (suc v)) (omega arith)
      (routes_more (length (names ++ v ∷ []) + length qs) (suc v + nodes S) (v + (1 + nodes S)) (routes S (names ++ v ∷ []) (suc v)) (omega arith)
      (routes_rise S s qs (suc k) (names ++ v ∷ []) (suc v) f (rising_push names v r)))
  routes_rise (mine bs) s [] k names v f r = absurd f
  routes_rise (mine bs) s (Forall ∷ qs) k names v f r = absurd f
  routes_rise (mine bs) s (Exists ∷ qs) k names v f r = branch_routes_rise bs s qs k names v f.1 r

  pub branch_routes_rise : (bs : Branches) (s : Sort) (qs : List Quant) (k : ℕ) (names : List ℕ) (v : ℕ) → EachFollows bs s qs k → IsRising names v → AreRoutes (length names + suc (length qs)) (v + branch_nodes bs) (branch_routes bs names v)
  branch_routes_rise no_more s qs k names v f r = tt
  branch_routes_rise (branch m S bs) s qs k names v f r =
      let len = length-append names (v ∷ []) in
      let all : ℕ = v + ((1 + nodes S) + branch_nodes bs) in
      routes-append (length names + suc (length qs)) all (routes S (names ++ v ∷ []) (suc v)) (branch_routes bs names (suc v + nodes S))
      (same_length (length (names ++ v ∷ []) + length qs) (length names + suc (length qs)) all (routes S (names ++ v ∷ []) (suc v)) (omega arith)
      (routes_more (length (names ++ v ∷ []) + length qs) (suc v + nodes S) all (routes S (names ++ v ∷ []) (suc v)) (omega arith)
      (routes_rise S s qs (suc k) (names ++ v ∷ []) (suc v) f.2 (rising_push names v r))))
      (routes_more (length names + suc (length qs)) ((suc v + nodes S) + branch_nodes bs) all (branch_routes bs names (suc v + nodes S)) (omega arith)
      (branch_routes_rise bs s qs k names (suc v + nodes S) f.3 (rising_more names v (suc v + nodes S) (omega arith) r)))

-- ---- each node

pub record IsKeptPlace (s : Sort) (t : List Place) (w : ℕ) (p : Place) : Type 0 where
  pub rising : IsRising (route p.depth t p.above) w
  pub kept : (m : Move) → p.term ≡ Some m → IsMoveAt s p.depth m

pub length-route : (d : ℕ) (t : List Place) (a : ℕ) → length (route d t a) ≡ d
length-route zero t a = refl
length-route (suc d) t a =
    let h = length-route d t (above_at (slice_get t a)) in
    let l = length-append (route d t (above_at (slice_get t a))) (a ∷ []) in
    omega arith

some_place : (p q : Place) → Some p ≡ Some q → p ≡ q
some_place p q e = cc

no_move : (m : Move) → None ≡ Some m → ⊥
no_move m e = cc

-- what stands at w is the place p
same_place : (s : Sort) (t : List Place) (w : ℕ) (p q : Place) → slice_get t w ≡ Some p → slice_get t w ≡ Some q → IsKeptPlace s t w p → IsKeptPlace s t w q
same_place s t w p q e f k = subst (λ (x : Place). IsKeptPlace s t w x) (some_place p q (sym e ∙ f)) k

pub kept_theirs : (s : Sort) (t : List Place) (d a w : ℕ) (names : List ℕ) → names ≡ route d t a → IsRising names w → IsKeptPlace s t w (at_place None d a)
kept_theirs s t d a w names n r = record { rising = subst (λ (x : List ℕ). IsRising x w) n r; kept = λ m e. absurd (no_move m e) }

some_move : (m k : Move) → Some m ≡ Some k → m ≡ k
some_move m k e = cc

pub kept_mine : (s : Sort) (t : List Place) (m : Move) (d a w : ℕ) (names : List ℕ) → names ≡ route d t a → IsRising names w → IsMoveAt s d m → IsKeptPlace s t w (at_place (Some m) d a)
kept_mine s t m d a w names n r k = record { rising = subst (λ (x : List ℕ). IsRising x w) n r; kept = λ j e. subst (λ (x : Move). IsMoveAt s d x) (some_move m j e) k }

mutual
  pub place_kept : (S : Skeleton) (s : Sort) (qs : List Quant) (t pre post : List Place) (d a v w : ℕ) (names : List ℕ) (q : Place) → Follows S s qs d → t ≡ pre ++ (places S d a v ++ post) → length pre ≡ v → names ≡ route d t a → IsRising names v → v ≤ w → w < v + nodes S → slice_get t w ≡ Some q → IsKeptPlace s t w q
  place_kept end s [] t pre post d a v w names q f e l n r lo hi g = absurd (omega arith)
  place_kept end s (x ∷ qs) t pre post d a v w names q f e l n r lo hi g = absurd f
  place_kept (theirs S) s [] t pre post d a v w names q f e l n r lo hi g = absurd f
  place_kept (theirs S) s (Exists ∷ qs) t pre post d a v w names q f e l n r lo hi g = absurd f
  place_kept (theirs S) s (Forall ∷ qs) t pre post d a v w names q f e l n r lo hi g =
      let p : Place = at_place None d a in
      let here = get_at t pre (places S (suc d) v (suc v) ++ post) p v e l in
      elim (cases_lt v w) [
        | inl less ↦ place_kept S s qs t (pre ++ p ∷ []) post (suc d) v (suc v) w (names ++ v ∷ []) q f (shift_one t pre (places S (suc d) v (suc v)) post p e) (length_one pre p v l) (route_push t names d a v None here n) (rising_push names v r) (omega arith) (omega arith) g
        | inr more ↦
            let same : v ≡ w = omega arith in
            same_place s t w p q (subst (λ (i : ℕ). slice_get t i ≡ Some p) same here) g (kept_theirs s t d a w names n (subst (λ (i : ℕ). IsRising names i) same r))
      ]
  place_kept (mine bs) s [] t pre post d a v w names q f e l n r lo hi g = absurd f
  place_kept (mine bs) s (Forall ∷ qs) t pre post d a v w names q f e l n r lo hi g = absurd f
  place_kept (mine bs) s (Exists ∷ qs) t pre post d a v w names q f e l n r lo hi g =
      branch_place_kept bs s qs t pre post d a v w names q f.1 e l n r lo hi g

  pub branch_place_kept : (bs : Branches) (s : Sort) (qs : List Quant) (t pre post : List Place) (d a v w : ℕ) (names : List ℕ) (q : Place) → EachFollows bs s qs d → t ≡ pre ++ (branch_places bs d a v ++ post) → length pre ≡ v → names ≡ route d t a → IsRising names v → v ≤ w → w < v + branch_nodes bs → slice_get t w ≡ Some q → IsKeptPlace s t w q
  branch_place_kept no_more s qs t pre post d a v w names q f e l n r lo hi g = absurd (omega arith)
  branch_place_kept (branch m S bs) s qs t pre post d a v w names q f e l n r lo hi g =
      let p : Place = at_place (Some m) d a in
      let below : List Place = places S (suc d) v (suc v) in
      let rest : List Place = branch_places bs d a (suc v + nodes S) in
      let e' = e ∙ ap (λ (u : List Place). pre ++ u) (append_assoc (p ∷ below) rest post) in
      let here = get_at t pre (below ++ (rest ++ post)) p v e' l in
      elim (cases_lt v w) [
        | inl less ↦ elim (cases_lt w (suc v + nodes S)) [
          | inl inside ↦ place_kept S s qs t (pre ++ p ∷ []) (rest ++ post) (suc d) v (suc v) w (names ++ v ∷ []) q f.2 (shift_one t pre below (rest ++ post) p e') (length_one pre p v l) (route_push t names d a v (Some m) here n) (rising_push names v r) (omega arith) inside g
          | inr beyond ↦ branch_place_kept bs s qs t (pre ++ (p ∷ below)) post d a (suc v + nodes S) w names q f.3 (shift_more t pre (p ∷ below) rest post e) (length_branch pre S p d v l) n (rising_more names v (suc v + nodes S) (omega arith) r) beyond (omega arith) g
        ]
        | inr more ↦
            let same : v ≡ w = omega arith in
            same_place s t w p q (subst (λ (i : ℕ). slice_get t i ≡ Some p) same here) g (kept_mine s t m d a w names n (subst (λ (i : ℕ). IsRising names i) same r) f.0)
      ]

get_inside : {A : Type 0} (xs : List A) (i : ℕ) (x : A) → slice_get xs i ≡ Some x → i < length xs
get_inside [] i x e = absurd (cc)
get_inside (y ∷ xs) zero x e = omega arith
get_inside (y ∷ xs) (suc i) x e = let h = get_inside xs i x e in omega arith

pub all_places_kept : (S : Skeleton) (s : Sort) (qs : List Quant) (w : ℕ) (q : Place) → Follows S s qs 0 → slice_get (places S 0 0 0) w ≡ Some q → IsKeptPlace s (places S 0 0 0) w q
all_places_kept S s qs w q f g =
    let l = length-places S 0 0 0 in
    let i = get_inside (places S 0 0 0) w q g in
    place_kept S s qs (places S 0 0 0) [] [] 0 0 0 w [] q f (sym (append-nil (places S 0 0 0))) refl refl (rising_none 0) (omega arith) (omega arith) g
