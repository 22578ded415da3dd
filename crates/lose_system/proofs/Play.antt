-- A skeleton whose losing system has no solution wins.
use Rattle.std.specs.Prelude.{ℕ, suc, ◌+◌, ◌≤◌, ◌≡◌, List, [], ◌∷◌, ◌++◌, map, length}
use Rattle.std.proofs.Common.{arith, sym, subst, refl, length-append}
use Rattle.lin_term.specs.declared.Sort.{Sort}
use Rattle.lin_term.specs.declared.Sort.TheVariants.{Rat, Int}
use Rattle.lin_term.specs.Linear.{Point, Value, IsValue, IsPoint, extend, origin, Below}
use Rattle.lin_term.specs.declared.Lit.TheVariants.{AtLeast}
use Rattle.lin_term.specs.Move.{Move, move_value}
use Rattle.lin_term.specs.Definition.{Definition, definition, upper_form, lower_form, rename_move}
use Rattle.dom_core.specs.declared.Quant.{Quant}
use Rattle.dom_core.specs.declared.Quant.TheVariants.{Exists, Forall}
use Rattle.dom_core.specs.Game.{Matrix, neg_matrix, rename_matrix, IsMatrix, Problem, TrueFrom, TrueP, HoldsIn}
use Rattle.game_tree.specs.Skeleton.{Skeleton, end, theirs, mine, Branches, no_more, branch, nodes, branch_nodes, Follows, EachFollows}
use Rattle.lose_system.specs.Losing.{definitions, branch_definitions, routes, branch_routes, AllDefined, AllLose, Lost}
use Rattle.lin_term.proofs.Dots.{length-extend}
use Rattle.lin_term.proofs.PrimitiveLemmas.{prim_to}
use Rattle.dom_core.proofs.Contrary.{neg_matrix_from, stable_true}
use Rattle.dom_core.proofs.Renaming.{matrix_to_names, neg_is_matrix}
use Rattle.lose_system.proofs.Growing.{Grows, grows_refl, grows_trans, grows_extend, State, state_grows, state_push, has_new_value, value_grows, move_is_value, defined_at}

all_defined-append : (ds es : List Definition) (p : Point) → AllDefined ds p → AllDefined es p → AllDefined (ds ++ es) p
all_defined-append [] es p a b = b
all_defined-append (d ∷ ds) es p a b = (a.0, a.1, all_defined-append ds es p a.2 b)

-- the matrix on each of the routes
abbrev on_routes : Matrix → List (List ℕ) → List Matrix
on_routes m rs = map (rename_matrix m) rs

all_lose-append : (m : Matrix) (rs ts : List (List ℕ)) (p : Point) → AllLose (on_routes m rs) p → AllLose (on_routes m ts) p → AllLose (on_routes m (rs ++ ts)) p
all_lose-append m [] ts p a b = b
all_lose-append m (r ∷ rs) ts p a b = (a.0, all_lose-append m rs ts p a.1 b)

-- q has n values more than p
record Reached (s : Sort) (n : ℕ) (p q : Point) : Type 0 where
  point : IsPoint s q
  grows : Grows p q
  count : length q.nums ≡ length p.nums + n

-- from q on the definitions and the paths hold at each point
record Kept (s : Sort) (ds : List Definition) (ms : List Matrix) (q : Point) : Type 0 where
  holds : (r : Point) → IsPoint s r → Grows q r → AllDefined ds r × AllLose ms r

-- what a part of the tree is played for: every point that is reached leads to a contradiction
abbrev Refuted : Sort → ℕ → Point → List Definition → List Matrix → Type 0
Refuted s n p ds ms = (q : Point) → Reached s n p q → Kept s ds ms q → ⊥

at_end : (s : Sort) (m : Matrix) (names : List ℕ) (e p : Point) → IsMatrix m s (length names) → State s names e p → ¬ HoldsIn m e → Refuted s 0 p [] (rename_matrix (neg_matrix m s) names ∷ []) → ⊥
at_end s m names e p o t h k =
    k p (record { point = t.whole_point; grows = grows_refl p; count = omega arith })
    (record { holds = λ r ir g. (tt, (matrix_to_names (neg_matrix m s) s names e r t.path_point ir (state_grows s names e p r t ir g).agree (neg_is_matrix m s (length names) o) (neg_matrix_from m s (length names) e o t.path_point h), tt)) })

below_same : (s : Sort) (m : Matrix) (n k : ℕ) → n ≡ k → IsMatrix m s n → IsMatrix m s k
below_same s m n k e o = subst (λ (i : ℕ). IsMatrix m s i) e o

after_push : (names : List ℕ) (v k : ℕ) → length names ≡ k → length (names ++ v ∷ []) ≡ suc k
after_push names v k e = let l = length-append names (v ∷ []) in omega arith

one_more : (s : Sort) (n : ℕ) (p q : Point) (x : Value) → Reached s n (extend p x) q → IsPoint s (extend p x) → Reached s (1 + n) p q
one_more s n p q x r i = record {
  point = r.point;
  grows = grows_trans s p (extend p x) q i (grows_extend p x) r.grows;
  count = let c = r.count in let l = length-extend p x in omega arith;
}

-- the definition of a node that has the move's value at p holds from p on
defined_from : (s : Sort) (mv : Move) (names : List ℕ) (e p : Point) (v : ℕ) → State s names e p → 1 ≤ mv.div → Below (length names) mv.numer → length p.nums ≡ v → (r : Point) → IsPoint s (extend p (move_value s mv e)) → IsPoint s r → Grows (extend p (move_value s mv e)) r → AllDefined (definition s mv names v ∷ []) r
defined_from s mv names e p v t h b l r ix ir g =
    let x : Value = move_value s mv e in
    let len = length-extend p x in
    let value = value_grows s (extend p x) r v x ix (omega arith) (has_new_value p v x l) g in
    let gp = grows_trans s p (extend p x) r ix (grows_extend p x) g in
    let d = defined_at s mv names e r v t.path_point ir h (state_grows s names e p r t ir gp).agree b value in
    (prim_to s (AtLeast (upper_form s (rename_move names mv) v)) r ir d.0, prim_to s (AtLeast (lower_form (rename_move names mv) v)) r ir d.1, tt)

mutual
  play : (S : Skeleton) (qs : List Quant) (s : Sort) (m : Matrix) (names : List ℕ) (e p : Point) (k v : ℕ) → IsMatrix m s (k + length qs) → State s names e p → length names ≡ k → length p.nums ≡ v → Follows S s qs k → ¬ TrueFrom qs s m e → Refuted s (nodes S) p (definitions S s names v) (on_routes (neg_matrix m s) (routes S names v)) → ⊥
  play end [] s m names e p k v o t lk lv f h c =
      at_end s m names e p (below_same s m (k + 0) (length names) (omega arith) o) t h c
  play end (q ∷ qs) s m names e p k v o t lk lv f h c = absurd f
  play (theirs S) [] s m names e p k v o t lk lv f h c = absurd f
  play (theirs S) (Exists ∷ qs) s m names e p k v o t lk lv f h c = absurd f
  play (theirs S) (Forall ∷ qs) s m names e p k v o t lk lv f h c =
      h (λ x i. stable_true qs s m (extend e x) (λ n.
      let u = state_push s names e p v x t lv i in
      play S qs s m (names ++ v ∷ []) (extend e x) (extend p x) (suc k) (suc v)
      (below_same s m (k + suc (length qs)) (suc k + length qs) (omega arith) o) u (after_push names v k lk)
      (let l = length-extend p x in omega arith) f n
      (λ q r kept. c q (one_more s (nodes S) p q x r u.whole_point) kept)))
  play (mine bs) [] s m names e p k v o t lk lv f h c = absurd f
  play (mine bs) (Forall ∷ qs) s m names e p k v o t lk lv f h c = absurd f
  play (mine bs) (Exists ∷ qs) s m names e p k v o t lk lv f h c =
      h (λ none. play_branches bs qs s m names e p k v o t lk lv f.1 none c)

  play_branches : (bs : Branches) (qs : List Quant) (s : Sort) (m : Matrix) (names : List ℕ) (e p : Point) (k v : ℕ) → IsMatrix m s (k + suc (length qs)) → State s names e p → length names ≡ k → length p.nums ≡ v → EachFollows bs s qs k → ((x : Value) → IsValue s x → ¬ TrueFrom qs s m (extend e x)) → Refuted s (branch_nodes bs) p (branch_definitions bs s names v) (on_routes (neg_matrix m s) (branch_routes bs names v)) → ⊥
  play_branches no_more qs s m names e p k v o t lk lv f none c =
      c p (record { point = t.whole_point; grows = grows_refl p; count = omega arith }) (record { holds = λ r ir g. (tt, tt) })
  play_branches (branch mv S bs) qs s m names e p k v o t lk lv f none c =
      let x : Value = move_value s mv e in
      let i : IsValue s x = move_is_value s mv e t.path_point f.0.written.1 in
      let u = state_push s names e p v x t lv i in
      play S qs s m (names ++ v ∷ []) (extend e x) (extend p x) (suc k) (suc v)
      (below_same s m (k + suc (length qs)) (suc k + length qs) (omega arith) o) u (after_push names v k lk)
      (let l = length-extend p x in omega arith) f.2 (none x i)
      (λ q r kept.
      let r' = one_more s (nodes S) p q x r u.whole_point in
      play_branches bs qs s m names e q k (suc v + nodes S) o (state_grows s names e p q t r'.point r'.grows) lk
      (let c' = r'.count in omega arith) f.3 none
      (λ q2 r2 kept2.
      c q2
      (record { point = r2.point; grows = grows_trans s p q q2 r'.point r'.grows r2.grows; count = let c1 = r'.count in let c2 = r2.count in omega arith })
      (record {
        holds = λ w iw g.
            let gq = grows_trans s q q2 w r2.point r2.grows g in
            let a = kept.holds w iw gq in
            let b = kept2.holds w iw g in
            let gx = grows_trans s (extend p x) q w r'.point r.grows gq in
            let d = defined_from s mv names e p v t f.0.written.1 (subst (λ (j : ℕ). Below j mv.numer) (sym lk) f.0.earlier) lv w u.whole_point iw gx in (
              (d.0, d.1, all_defined-append (definitions S s (names ++ v ∷ []) (suc v)) (branch_definitions bs s names (suc v + nodes S)) w a.0 b.0),
              all_lose-append (neg_matrix m s) (routes S (names ++ v ∷ []) (suc v)) (branch_routes bs names (suc v + nodes S)) w a.1 b.1,
            );
      })))

start : (s : Sort) → State s [] origin origin
start Rat = record { path_point = omega arith; whole_point = omega arith; long = refl; inside = λ i h. absurd (omega arith); agree = record { same = λ i h. absurd (omega arith) } }
start Int = record { path_point = refl; whole_point = refl; long = refl; inside = λ i h. absurd (omega arith); agree = record { same = λ i h. absurd (omega arith) } }

-- the heart: where the losing system has no solution, the problem is true
pub lost_is_true : (s : Sort) (P : Problem) (S : Skeleton) → IsMatrix P.matrix s (length P.prefix) → Follows S s P.prefix 0 → Lost s P S → TrueP s P
lost_is_true s P S o f lost =
    stable_true P.prefix s P.matrix origin (λ n.
    play S P.prefix s P.matrix [] origin origin 0 0 (below_same s P.matrix (length P.prefix) (0 + length P.prefix) (omega arith) o) (start s) refl refl f n
    (λ q r kept.
    let k = kept.holds q r.point (grows_refl q) in
    let c = r.count in
    lost q (record { point = r.point; one_each = omega arith; defined = k.0; lose = k.1 })))
