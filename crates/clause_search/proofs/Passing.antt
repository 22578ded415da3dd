-- Ways through what is left.
use Rattle.std.specs.Prelude.{ℕ, zero, suc, ◌+◌, ◌<◌, ◌≤◌, ◌≡◌, get_or, List, [], ◌∷◌, ◌++◌, map, drop, length, reverse}
use Rattle.std.specs.List.{AllByRecursion}
use Rattle.std.proofs.Common.{ap, arith, ◌∙◌, sym, subst, refl, inl, inr}
use Rattle.std.proofs.lemmas.List.{reverse-append}
use Rattle.lin_term.specs.declared.Sort.{Sort}
use Rattle.lin_term.specs.declared.Lit.{Lit}
use Rattle.lin_term.specs.Literal.{neg, rename_lit}
use Rattle.dom_core.specs.declared.Matrix.{Matrix as Tree, Lit as Leaf, And, Or}
use Rattle.dom_core.specs.Game.{Matrix, lit, all, some, Matrices, none, more, neg_matrix, neg_matrices, rename_matrix, rename_matrices}
use Rattle.dom_core.specs.View.{matrix_of, matrices_of}
use Rattle.dom_core.proofs.AddingLemmas.{split_at}
use Rattle.game_tree.specs.View.{skeleton_of}
use Rattle.lose_system.specs.Losing.{routes}
use Rattle.lose_system.specs.Written.{WrittenSystem, system_of}
use Rattle.proof_rules.specs.Held.{nodes_on}
use Rattle.proof_rules.proofs.PartLemmas.{matrix_and, matrix_or, matrix_lit}
use Rattle.cube_elim.specs.Among.{IsAmong}
use Rattle.clause_search.specs.declared.goal.Part.{Part}
use Rattle.clause_search.specs.declared.goal.Goal.{Goal}
use Rattle.clause_search.specs.Branches.{ways, ways_all, ways_some}
use Rattle.clause_search.specs.Taken.{AreWays, matrix_at, left_of}
use Rattle.clause_search.specs.Passing.{HasWay, SomeHave, AllHave}
use Rattle.clause_search.specs.Searching.{with_open, Passes}
use Rattle.clause_search.proofs.Ways.{among_left, among_right, pair_among}
use Rattle.clause_search.proofs.Reaching.{all_more}

-- ---- a matrix

mutual
  way_of : (m : Matrix) (s : Sort) (names : List ℕ) → HasWay m → (way : List Lit) × IsAmong way (ways (rename_matrix (neg_matrix m s) names))
  way_of (lit l) s names h = (rename_lit names (neg s l) ∷ [], inl refl)
  way_of (all ms) s names h = one_way ms s names h
  way_of (some ms) s names h = all_ways ms s names h

  one_way : (ms : Matrices) (s : Sort) (names : List ℕ) → SomeHave ms → (way : List Lit) × IsAmong way (ways_some (rename_matrices (neg_matrices ms s) names))
  one_way none s names h = absurd h
  one_way (more m ms) s names (inl h) =
      let r = way_of m s names h in
      (r.0, among_left r.0 (ways (rename_matrix (neg_matrix m s) names)) (ways_some (rename_matrices (neg_matrices ms s) names)) r.1)
  one_way (more m ms) s names (inr h) =
      let r = one_way ms s names h in
      (r.0, among_right r.0 (ways (rename_matrix (neg_matrix m s) names)) (ways_some (rename_matrices (neg_matrices ms s) names)) r.1)

  all_ways : (ms : Matrices) (s : Sort) (names : List ℕ) → AllHave ms → (way : List Lit) × IsAmong way (ways_all (rename_matrices (neg_matrices ms s) names))
  all_ways none s names h = ([], inl refl)
  all_ways (more m ms) s names h =
      let r = way_of m s names h.0 in
      let q = all_ways ms s names h.1 in
      (r.0 ++ q.0, pair_among r.0 q.0 (ways (rename_matrix (neg_matrix m s) names)) (ways_all (rename_matrices (neg_matrices ms s) names)) r.1 q.1)

-- ---- all that is left

open_ways : (ms ns : List Matrix) (ws vs : List (List Lit)) → AreWays ms ws → AreWays ns vs → AreWays (ms ++ ns) (ws ++ vs)
open_ways [] ns [] vs h k = k
open_ways [] ns (w ∷ ws) vs h k = absurd h
open_ways (m ∷ ms) ns [] vs h k = absurd h
open_ways (m ∷ ms) ns (w ∷ ws) vs h k = (h.0, open_ways ms ns ws vs h.1 k)

parts_ways : (s : Sort) (w : WrittenSystem) (xs : List Part) → AllByRecursion (λ x. HasWay (matrix_of x.matrix.now)) xs → (ws : List (List Lit)) × AreWays (map (matrix_at s w) xs) ws
parts_ways s w [] h = ([], tt)
parts_ways s w (x ∷ xs) h =
    let r = way_of (matrix_of x.matrix.now) s (nodes_on w x.path) h.0 in
    let q = parts_ways s w xs h.1 in
    (r.0 ∷ q.0, (r.1, q.1))

paths_ways : (s : Sort) (m : Matrix) (routes : List (List ℕ)) (n : ℕ) → HasWay m → (ws : List (List Lit)) × AreWays (drop n (map (rename_matrix (neg_matrix m s)) routes)) ws
paths_ways s m [] zero h = ([], tt)
paths_ways s m [] (suc n) h = ([], tt)
paths_ways s m (r ∷ rs) zero h =
    let u = way_of m s r h in
    let q = paths_ways s m rs zero h in
    (u.0 ∷ q.0, (u.1, all_of rs q.0 q.1))
  where
    all_of : (rs : List (List ℕ)) (ws : List (List Lit)) → AreWays (drop 0 (map (rename_matrix (neg_matrix m s)) rs)) ws → AreWays (map (rename_matrix (neg_matrix m s)) rs) ws
    all_of [] ws h = h
    all_of (r ∷ rs) ws h = h
paths_ways s m (r ∷ rs) (suc n) h = paths_ways s m rs n h

turned : (P : Part → Type 0) (xs : List Part) → AllByRecursion P xs → AllByRecursion P (reverse xs)
turned P [] h = tt
turned P (x ∷ xs) h = subst (λ (ys : List Part). AllByRecursion P ys) (sym (reverse-append (x ∷ []) xs)) (more_at_end (reverse xs) (turned P xs h.1))
  where
    more_at_end : (ys : List Part) → AllByRecursion P ys → AllByRecursion P (ys ++ x ∷ [])
    more_at_end [] k = (h.0, tt)
    more_at_end (y ∷ ys) k = (k.0, more_at_end ys k.1)

-- where the matrix and all parts that wait have a way, what is left has ways
pub left_ways : (s : Sort) (w : WrittenSystem) (g : Goal) → HasWay (matrix_of w.problem.matrix) → AllByRecursion (λ x. HasWay (matrix_of x.matrix.now)) g.waiting → (ws : List (List Lit)) × AreWays (left_of s w g) ws
left_ways s w g h k =
    let r = parts_ways s w (reverse g.waiting) (turned (λ x. HasWay (matrix_of x.matrix.now)) g.waiting k) in
    let q = paths_ways s (matrix_of w.problem.matrix) (routes (skeleton_of w.tree) [] 0) g.next h in
    (r.0 ++ q.0, open_ways (map (matrix_at s w) (reverse g.waiting)) (drop g.next (system_of s w).paths) r.0 q.0 r.1 q.1)

-- ---- parts one after the other

pub all_have_none : (ts : List Tree) → AllHave (matrices_of (drop 0 ts)) → AllHave (matrices_of ts)
all_have_none [] h = h
all_have_none (t ∷ ts) h = h

pub all_have_more : (ts : List Tree) (i : ℕ) (t : Tree) → i < length ts → t ≡ get_or ts i t → HasWay (matrix_of t) → (AllHave (matrices_of (drop i ts)) → AllHave (matrices_of ts)) → AllHave (matrices_of (drop (i + 1) ts)) → AllHave (matrices_of ts)
all_have_more ts i t l e h k j = k (subst (λ (us : List Tree). AllHave (matrices_of us)) (sym (split_at ts i t l e)) (h, j))

pub all_have_end : (ts : List Tree) (i : ℕ) → length ts ≤ i → (AllHave (matrices_of (drop i ts)) → AllHave (matrices_of ts)) → AllHave (matrices_of ts)
all_have_end ts i l k = k (gone ts i l)
  where
    gone : (ts : List Tree) (i : ℕ) → length ts ≤ i → AllHave (matrices_of (drop i ts))
    gone [] zero l = tt
    gone [] (suc i) l = tt
    gone (t ∷ ts) zero l = absurd (omega arith)
    gone (t ∷ ts) (suc i) l = gone ts i (omega arith)

pub some_has : (ts : List Tree) (i : ℕ) (t : Tree) → i < length ts → t ≡ get_or ts i t → HasWay (matrix_of t) → SomeHave (matrices_of ts)
some_has ts i t l e h = at ts i t l (subst (λ (u : Tree). HasWay (matrix_of u)) e h)
  where
    at : (ts : List Tree) (i : ℕ) (d : Tree) → i < length ts → HasWay (matrix_of (get_or ts i d)) → SomeHave (matrices_of ts)
    at [] i d l h = absurd (omega arith)
    at (u ∷ ts) zero d l h = inl h
    at (u ∷ ts) (suc i) d l h = inr (at ts i d (omega arith) h)

pub lit_has : (t : Tree) (l : Lit) → t ≡ Leaf l → HasWay (matrix_of t)
lit_has t l e = subst HasWay (sym (ap matrix_of e ∙ matrix_lit l)) tt

pub and_has : (t : Tree) (ts us : List Tree) → t ≡ And ts → us ≡ ts → SomeHave (matrices_of us) → HasWay (matrix_of t)
and_has t ts us e f h = subst HasWay (sym (ap matrix_of e ∙ matrix_and ts)) (subst (λ (vs : List Tree). SomeHave (matrices_of vs)) f h)

pub or_has : (t : Tree) (ts us : List Tree) → t ≡ Or ts → us ≡ ts → AllHave (matrices_of us) → HasWay (matrix_of t)
or_has t ts us e f h = subst HasWay (sym (ap matrix_of e ∙ matrix_or ts)) (subst (λ (vs : List Tree). AllHave (matrices_of vs)) f h)

-- ---- parts that wait

pub waiting_none : (P : Part → Type 0) (xs : List Part) → AllByRecursion P (drop 0 xs) → AllByRecursion P xs
waiting_none P [] h = h
waiting_none P (x ∷ xs) h = h

pub waiting_more : (P : Part → Type 0) (xs : List Part) (i : ℕ) (x : Part) → i < length xs → x ≡ get_or xs i x → P x → (AllByRecursion P (drop i xs) → AllByRecursion P xs) → AllByRecursion P (drop (i + 1) xs) → AllByRecursion P xs
waiting_more P xs i x l e h k j = k (subst (λ (ys : List Part). AllByRecursion P ys) (sym (split_at xs i x l e)) (h, j))

pub waiting_end : (P : Part → Type 0) (xs : List Part) (i : ℕ) → length xs ≤ i → (AllByRecursion P (drop i xs) → AllByRecursion P xs) → AllByRecursion P xs
waiting_end P xs i l k = k (gone xs i l)
  where
    gone : (xs : List Part) (i : ℕ) → length xs ≤ i → AllByRecursion P (drop i xs)
    gone [] zero l = tt
    gone [] (suc i) l = tt
    gone (x ∷ xs) zero l = absurd (omega arith)
    gone (x ∷ xs) (suc i) l = gone xs i (omega arith)

-- with one more part that waits
pub passing : (s : Sort) (w : WrittenSystem) (g : Goal) (x : Part) → HasWay (matrix_of w.problem.matrix) → HasWay (matrix_of x.matrix.now) → AllByRecursion (λ y. HasWay (matrix_of y.matrix.now)) g.waiting → Passes s w (with_open g x)
passing s w g x h k j = left_ways s w (with_open g x) h (all_more (λ y. HasWay (matrix_of y.matrix.now)) g.waiting x j k)
