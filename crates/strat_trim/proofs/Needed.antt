-- What a proof names stays: its paths are chosen, and a chosen path goes through each of its nodes.
use Rattle.std.specs.Prelude.{ℕ, zero, suc, ◌+◌, ◌<◌, ◌≤◌, ◌≡◌, Bool, true, false, not, ◌&&◌, ◌||◌, List, [], ◌∷◌, ◌++◌, length, ⊤}
use Rattle.std.specs.List.{list_any}
use Rattle.std.proofs.Common.{arith, ap, ap₂, ◌∙◌, sym, subst, refl, inl, inr, length-append}
use Rattle.std.proofs.lemmas.Bool.{cases_lt}
use Rattle.lin_term.specs.declared.Sort.{Sort}
use Rattle.dom_core.specs.declared.Quant.{Quant}
use Rattle.dom_core.specs.declared.Quant.TheVariants.{Exists, Forall}
use Rattle.game_tree.specs.Skeleton.{Skeleton, end, theirs, mine, Branches, no_more, branch, nodes, branch_nodes, paths, branch_paths, IsSomeBranch, Follows, EachFollows}
use Rattle.game_tree.proofs.Counts.{theirs_paths, more_paths}
use Rattle.cube_rules.specs.declared.Step.{Step}
use Rattle.strat_trim.specs.Trimmed.{has_path, some_has_path, with_first, stays, each_stays, or_first, needed, on_path, each_on_path, names_path, names_node, marked}
use Rattle.strat_trim.proofs.PrunedPaths.{no_path}
use Rattle.strat_trim.proofs.PrunedNodes.{Agree, agree_left, agree_right, length-on_path, Flags, flags_all}

-- what the flags have is chosen, from number k on
abbrev pub Over : (ℕ → Bool) → ℕ → List Bool → Type 0
Over c k [] = ⊤
Over c k (b ∷ bs) = (b ≡ true → c k ≡ true) × Over c (suc k) bs

over_left : (c : ℕ → Bool) (k : ℕ) (xs ys : List Bool) → Over c k (xs ++ ys) → Over c k xs
over_left c k [] ys o = tt
over_left c k (x ∷ xs) ys o = (o.0, over_left c (suc k) xs ys o.1)

over_right : (c : ℕ → Bool) (k : ℕ) (xs ys : List Bool) → Over c k (xs ++ ys) → Over c (k + length xs) ys
over_right c k [] ys o = subst (λ (i : ℕ). Over c i ys) (let e : k ≡ k + 0 = omega arith in e) o
over_right c k (x ∷ xs) ys o =
    subst (λ (i : ℕ). Over c i ys) (let e : suc k + length xs ≡ k + suc (length xs) = omega arith in e) (over_right c (suc k) xs ys o.1)

or_one : (a b : Bool) → a ≡ true → (a || b) ≡ true
or_one a b e = ap (λ (x : Bool). x || b) e

or_other : (a b : Bool) → b ≡ true → (a || b) ≡ true
or_other true b e = refl
or_other false b e = e

pub over_first : (c : ℕ → Bool) (k : ℕ) (a : Bool) (bs : List Bool) → Over c k (with_first a bs) → Over c k bs
over_first c k a [] o = tt
over_first c k a (b ∷ bs) o = (λ e. o.0 (or_one b a e), o.1)

first_over : (c : ℕ → Bool) (k : ℕ) (a : Bool) (bs : List Bool) → a ≡ true → 1 ≤ length bs → Over c k (with_first a bs) → c k ≡ true
first_over c k a [] e l o = absurd (omega arith)
first_over c k a (b ∷ bs) e l o = o.0 (or_other b a e)

length-first : (a : Bool) (bs : List Bool) → length (with_first a bs) ≡ length bs
length-first a [] = refl
length-first a (b ∷ bs) = refl

mutual
  pub length-stays : (t : Skeleton) (P N : ℕ → Bool) (k v : ℕ) → length (stays t P N k v) ≡ length (paths t)
  length-stays end P N k v = refl
  length-stays (theirs t) P N k v =
      length-first (N v && not (has_path t P k)) (stays t P N k (suc v)) ∙ length-stays t P N k (suc v) ∙ sym (theirs_paths t)
  length-stays (mine bs) P N k v = length-each_stays bs P N k v

  pub length-each_stays : (bs : Branches) (P N : ℕ → Bool) (k v : ℕ) → length (each_stays bs P N k v) ≡ length (branch_paths bs)
  length-each_stays no_more P N k v = refl
  length-each_stays (branch m t bs) P N k v =
      let a = length-append (with_first (N v && not (has_path t P k)) (stays t P N k (suc v))) (each_stays bs P N (k + length (paths t)) (suc v + nodes t)) in
      let b = length-first (N v && not (has_path t P k)) (stays t P N k (suc v)) in
      let c = length-stays t P N k (suc v) in
      let d = length-each_stays bs P N (k + length (paths t)) (suc v + nodes t) in
      let e = more_paths m t bs in
      omega arith

-- a tree that follows its prefix has a path
mutual
  pub some_path : (t : Skeleton) (s : Sort) (qs : List Quant) (d : ℕ) → Follows t s qs d → 1 ≤ length (paths t)
  some_path end s qs d f = omega arith
  some_path (theirs t) s [] d f = absurd f
  some_path (theirs t) s (Exists ∷ qs) d f = absurd f
  some_path (theirs t) s (Forall ∷ qs) d f = let a = some_path t s qs (suc d) f in let b = theirs_paths t in omega arith
  some_path (mine bs) s [] d f = absurd f
  some_path (mine bs) s (Forall ∷ qs) d f = absurd f
  some_path (mine bs) s (Exists ∷ qs) d f = some_branch_path bs s qs d f.0 f.1

  some_branch_path : (bs : Branches) (s : Sort) (qs : List Quant) (d : ℕ) → IsSomeBranch bs → EachFollows bs s qs d → 1 ≤ length (branch_paths bs)
  some_branch_path no_more s qs d i f = absurd i
  some_branch_path (branch m t bs) s qs d i f = let a = some_path t s qs (suc d) f.2 in let b = more_paths m t bs in omega arith

-- a chosen one of its paths
pub has_at : (t : Skeleton) (c : ℕ → Bool) (k i : ℕ) → k ≤ i → i < k + length (paths t) → c i ≡ true → has_path t c k ≡ true
has_at t c k i l u h = by (has_path t c k) refl
  where
    by : (b : Bool) → has_path t c k ≡ b → b ≡ true
    by true e = refl
    by false e = absurd (let q : true ≡ false = sym h ∙ no_path t c k e i l u in cc)

has_first : (t : Skeleton) (c : ℕ → Bool) (k : ℕ) → 1 ≤ length (paths t) → c k ≡ true → has_path t c k ≡ true
has_first t c k l h = has_at t c k k (omega arith) (omega arith) h

-- ---- named paths

mutual
  pub path_stays : (t : Skeleton) (P N c : ℕ → Bool) (k v i : ℕ) → Over c k (stays t P N k v) → k ≤ i → i < k + length (paths t) → P i ≡ true → c i ≡ true
  path_stays end P N c k v i o l u p = let e : k ≡ i = omega arith in subst (λ (j : ℕ). c j ≡ true) e (o.0 (ap P e ∙ p))
  path_stays (theirs t) P N c k v i o l u p =
      let n = theirs_paths t in
      path_stays t P N c k (suc v) i (over_first c k (N v && not (has_path t P k)) (stays t P N k (suc v)) o) l (omega arith) p
  path_stays (mine bs) P N c k v i o l u p = branch_path_stays bs P N c k v i o l u p

  pub branch_path_stays : (bs : Branches) (P N c : ℕ → Bool) (k v i : ℕ) → Over c k (each_stays bs P N k v) → k ≤ i → i < k + length (branch_paths bs) → P i ≡ true → c i ≡ true
  branch_path_stays no_more P N c k v i o l u p = absurd (omega arith)
  branch_path_stays (branch m t bs) P N c k v i o l u p =
      let a : Bool = N v && not (has_path t P k) in
      let n = more_paths m t bs in
      let q = length-first a (stays t P N k (suc v)) ∙ length-stays t P N k (suc v) in
      let rest : List Bool = each_stays bs P N (k + length (paths t)) (suc v + nodes t) in
      elim (cases_lt i (k + length (paths t))) [
        | inl less ↦ path_stays t P N c k (suc v) i (over_first c k a (stays t P N k (suc v)) (over_left c k (with_first a (stays t P N k (suc v))) rest o)) l less p
        | inr beyond ↦ branch_path_stays bs P N c (k + length (paths t)) (suc v + nodes t) i
            (subst (λ (j : ℕ). Over c j rest) (ap (λ (j : ℕ). k + j) q) (over_right c k (with_first a (stays t P N k (suc v))) rest o)) beyond (omega arith) p
      ]

-- what has a named path has a chosen one
mutual
  named_chosen : (t : Skeleton) (P N c : ℕ → Bool) (k v : ℕ) → Over c k (stays t P N k v) → has_path t P k ≡ true → has_path t c k ≡ true
  named_chosen end P N c k v o e = o.0 e
  named_chosen (theirs t) P N c k v o e = named_chosen t P N c k (suc v) (over_first c k (N v && not (has_path t P k)) (stays t P N k (suc v)) o) e
  named_chosen (mine bs) P N c k v o e = branch_named_chosen bs P N c k v o e

  branch_named_chosen : (bs : Branches) (P N c : ℕ → Bool) (k v : ℕ) → Over c k (each_stays bs P N k v) → some_has_path bs P k ≡ true → some_has_path bs c k ≡ true
  branch_named_chosen no_more P N c k v o e = absurd (cc)
  branch_named_chosen (branch m t bs) P N c k v o e =
      let a : Bool = N v && not (has_path t P k) in
      let q = length-first a (stays t P N k (suc v)) ∙ length-stays t P N k (suc v) in
      let rest : List Bool = each_stays bs P N (k + length (paths t)) (suc v + nodes t) in
      by (has_path t P k) refl
      (named_chosen t P N c k (suc v) (over_first c k a (stays t P N k (suc v)) (over_left c k (with_first a (stays t P N k (suc v))) rest o)))
      (branch_named_chosen bs P N c (k + length (paths t)) (suc v + nodes t) (subst (λ (j : ℕ). Over c j rest) (ap (λ (j : ℕ). k + j) q) (over_right c k (with_first a (stays t P N k (suc v))) rest o)))
    where
      by : (b : Bool) → has_path t P k ≡ b → (has_path t P k ≡ true → has_path t c k ≡ true) → (some_has_path bs P (k + length (paths t)) ≡ true → some_has_path bs c (k + length (paths t)) ≡ true) → (has_path t c k || some_has_path bs c (k + length (paths t))) ≡ true
      by true p f g = or_one (has_path t c k) (some_has_path bs c (k + length (paths t))) (f p)
      by false p f g = or_other (has_path t c k) (some_has_path bs c (k + length (paths t))) (g (ap (λ (x : Bool). x || some_has_path bs P (k + length (paths t))) (sym p) ∙ e))

-- ---- named nodes

-- the node itself: a named path goes through it, or its first path is asked for
node_chosen : (t : Skeleton) (P N c : ℕ → Bool) (k v : ℕ) → 1 ≤ length (paths t) → Over c k (with_first (N v && not (has_path t P k)) (stays t P N k (suc v))) → N v ≡ true → has_path t c k ≡ true
node_chosen t P N c k v l o n = by (has_path t P k) refl
  where
    by : (b : Bool) → has_path t P k ≡ b → has_path t c k ≡ true
    by true p = named_chosen t P N c k (suc v) (over_first c k (N v && not (has_path t P k)) (stays t P N k (suc v)) o) p
    by false p =
        let e = length-stays t P N k (suc v) in
        has_first t c k l (first_over c k (N v && not (has_path t P k)) (stays t P N k (suc v)) (ap₂ (λ (x y : Bool). x && not y) n p) (omega arith) o)

mutual
  pub node_stays : (t : Skeleton) (s : Sort) (qs : List Quant) (d : ℕ) (P N c : ℕ → Bool) (marks : List Bool) (k v u : ℕ) → Follows t s qs d → Agree false marks v (on_path t c k) → Over c k (stays t P N k v) → v ≤ u → u < v + nodes t → N u ≡ true → marked marks u ≡ true
  node_stays end s qs d P N c marks k v u f a o l h n = absurd (omega arith)
  node_stays (theirs t) s [] d P N c marks k v u f a o l h n = absurd f
  node_stays (theirs t) s (Exists ∷ qs) d P N c marks k v u f a o l h n = absurd f
  node_stays (theirs t) s (Forall ∷ qs) d P N c marks k v u f a o l h n = elim (cases_lt v u) [
    | inl less ↦ node_stays t s qs (suc d) P N c marks k (suc v) u f a.1 (over_first c k (N v && not (has_path t P k)) (stays t P N k (suc v)) o) less (omega arith) n
    | inr more ↦
        let e : v ≡ u = omega arith in
        subst (λ (i : ℕ). marked marks i ≡ true) e (a.0 ∙ node_chosen t P N c k v (some_path t s qs (suc d) f) o (ap N e ∙ n))
  ]
  node_stays (mine bs) s [] d P N c marks k v u f a o l h n = absurd f
  node_stays (mine bs) s (Forall ∷ qs) d P N c marks k v u f a o l h n = absurd f
  node_stays (mine bs) s (Exists ∷ qs) d P N c marks k v u f a o l h n = branch_node_stays bs s qs d P N c marks k v u f.1 a o l h n

  pub branch_node_stays : (bs : Branches) (s : Sort) (qs : List Quant) (d : ℕ) (P N c : ℕ → Bool) (marks : List Bool) (k v u : ℕ) → EachFollows bs s qs d → Agree false marks v (each_on_path bs c k) → Over c k (each_stays bs P N k v) → v ≤ u → u < v + branch_nodes bs → N u ≡ true → marked marks u ≡ true
  branch_node_stays no_more s qs d P N c marks k v u f a o l h n = absurd (omega arith)
  branch_node_stays (branch m t bs) s qs d P N c marks k v u f a o l h n =
      let b : Bool = N v && not (has_path t P k) in
      let q = length-first b (stays t P N k (suc v)) ∙ length-stays t P N k (suc v) in
      let rest : List Bool = each_stays bs P N (k + length (paths t)) (suc v + nodes t) in
      let others : List Bool = each_on_path bs c (k + length (paths t)) in
      let here = over_left c k (with_first b (stays t P N k (suc v))) rest o in
      let len = length-on_path t c k in
      elim (cases_lt v u) [
        | inl less ↦ elim (cases_lt u (suc v + nodes t)) [
          | inl inside ↦ node_stays t s qs (suc d) P N c marks k (suc v) u f.2 (agree_left false marks (suc v) (on_path t c k) others a.1) (over_first c k b (stays t P N k (suc v)) here) less inside n
          | inr beyond ↦ branch_node_stays bs s qs d P N c marks (k + length (paths t)) (suc v + nodes t) u f.3
              (subst (λ (i : ℕ). Agree false marks i others) (let w : suc v + length (on_path t c k) ≡ suc v + nodes t = omega arith in w) (agree_right false marks (suc v) (on_path t c k) others a.1))
              (subst (λ (j : ℕ). Over c j rest) (ap (λ (j : ℕ). k + j) q) (over_right c k (with_first b (stays t P N k (suc v))) rest o)) beyond (omega arith) n
        ]
        | inr more ↦
            let e : v ≡ u = omega arith in
            subst (λ (i : ℕ). marked marks i ≡ true) e (a.0 ∙ node_chosen t P N c k v (some_path t s qs (suc d) f.2) here (ap N e ∙ n))
      ]

-- ---- all of them

over_flags : (c : ℕ → Bool) (k : ℕ) (bs : List Bool) → Flags c k bs → Over c k bs
over_flags c k [] f = tt
over_flags c k (b ∷ bs) f = (λ e. f.0 ∙ e, over_flags c (suc k) bs f.1)

pub needed_over : (S : Skeleton) (steps : List Step) → Over (marked (needed S steps)) 0 (stays S (names_path steps) (names_node steps) 0 0)
needed_over S steps =
    let bs : List Bool = stays S (names_path steps) (names_node steps) 0 0 in
    over_first (marked (needed S steps)) 0 (not (list_any (λ b. b) bs)) bs (over_flags (marked (needed S steps)) 0 (or_first bs) (flags_all (or_first bs)))

-- one is marked, or the first one is made so
some_marked : (bs : List Bool) → 1 ≤ length bs → (i : ℕ) × (i < length bs) × (marked (or_first bs) i ≡ true)
some_marked bs l = by (list_any (λ b. b) bs) refl
  where
    first_of : (a : Bool) (cs : List Bool) → 1 ≤ length cs → a ≡ true → marked (with_first a cs) 0 ≡ true
    first_of a [] l e = absurd (omega arith)
    first_of a (c ∷ cs) l e = or_other c a e

    found : (cs : List Bool) → list_any (λ b. b) cs ≡ true → (i : ℕ) × (i < length cs) × (marked cs i ≡ true)
    found [] e = absurd (cc)
    found (true ∷ cs) e = (0, omega arith, refl)
    found (false ∷ cs) e = let r = found cs e in (suc r.0, (let h = r.1 in omega arith), r.2)

    keeps : (a : Bool) (cs : List Bool) (i : ℕ) → marked cs i ≡ true → marked (with_first a cs) i ≡ true
    keeps a [] i e = e
    keeps a (c ∷ cs) zero e = or_one c a e
    keeps a (c ∷ cs) (suc i) e = e

    by : (q : Bool) → list_any (λ b. b) bs ≡ q → (i : ℕ) × (i < length bs) × (marked (or_first bs) i ≡ true)
    by true e = let r = found bs e in (r.0, r.1, keeps (not (list_any (λ b. b) bs)) bs r.0 r.2)
    by false e = (0, (omega arith), first_of (not (list_any (λ b. b) bs)) bs l (ap not e))

pub needed_some : (S : Skeleton) (s : Sort) (qs : List Quant) (steps : List Step) → Follows S s qs 0 → has_path S (marked (needed S steps)) 0 ≡ true
needed_some S s qs steps f =
    let bs : List Bool = stays S (names_path steps) (names_node steps) 0 0 in
    let n = length-stays S (names_path steps) (names_node steps) 0 0 in
    let p = some_path S s qs 0 f in
    let r = some_marked bs (omega arith) in
    has_at S (marked (needed S steps)) 0 r.0 (omega arith) (let h = r.1 in omega arith) r.2
