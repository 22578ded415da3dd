-- The skeleton of the chosen paths: what its paths are, and that it follows its prefix.
use Rattle.std.specs.Prelude.{ℕ, suc, ◌+◌, ◌<◌, ◌≤◌, ◌≡◌, Bool, true, false, ◌||◌, cond, Option, Some, None, List, [], ◌∷◌, ◌++◌, map, length}
use Rattle.std.proofs.Common.{arith, ap, ap₂, ◌∙◌, sym, refl, inl, inr, length-append}
use Rattle.std.proofs.lemmas.Bool.{cases_lt}
use Rattle.std.proofs.lemmas.List.{length-map}
use Rattle.lin_term.specs.declared.Sort.{Sort}
use Rattle.lin_term.specs.Move.{Move}
use Rattle.dom_core.specs.declared.Quant.{Quant}
use Rattle.dom_core.specs.declared.Quant.TheVariants.{Exists, Forall}
use Rattle.game_tree.specs.Skeleton.{Skeleton, end, theirs, mine, Branches, no_more, branch, nodes, branch_nodes, paths, branch_paths, IsNew, IsSomeBranch, Follows, EachFollows}
use Rattle.game_tree.proofs.Counts.{theirs_paths, more_paths}
use Rattle.lose_system.specs.Losing.{routes, branch_routes}
use Rattle.strat_trim.specs.Trimmed.{has_path, some_has_path, only, prune, prune_branches}

-- ---- lists of the chosen

pub only-map : {A B : Type 0} (c : ℕ → Bool) (k : ℕ) (f : A → B) (xs : List A) → only c k (map f xs) ≡ map f (only c k xs)
only-map c k f [] = refl
only-map c k f (x ∷ xs) = ap (λ (ys : List _). cond (c k) (f x ∷ ys) ys) (only-map c (suc k) f xs) ∙ by (c k)
  where
    by : (b : Bool) → cond b (f x ∷ map f (only c (suc k) xs)) (map f (only c (suc k) xs)) ≡ map f (cond b (x ∷ only c (suc k) xs) (only c (suc k) xs))
    by true = refl
    by false = refl

pub only-append : {A : Type 0} (c : ℕ → Bool) (k : ℕ) (xs ys : List A) → only c k (xs ++ ys) ≡ only c k xs ++ only c (k + length xs) ys
only-append c k [] ys = ap (λ (i : ℕ). only c i ys) (let e : k ≡ k + 0 = omega arith in e)
only-append c k (x ∷ xs) ys =
    ap (λ (zs : List _). cond (c k) (x ∷ zs) zs) (only-append c (suc k) xs ys ∙ ap (λ (i : ℕ). only c (suc k) xs ++ only c i ys) (let e : suc k + length xs ≡ k + suc (length xs) = omega arith in e))
    ∙ by (c k)
  where
    by : (b : Bool) → cond b (x ∷ (only c (suc k) xs ++ only c (k + suc (length xs)) ys)) (only c (suc k) xs ++ only c (k + suc (length xs)) ys) ≡ cond b (x ∷ only c (suc k) xs) (only c (suc k) xs) ++ only c (k + suc (length xs)) ys
    by true = refl
    by false = refl

-- none of the n from number k on is chosen
abbrev pub NoneOf : (ℕ → Bool) → ℕ → ℕ → Type 0
NoneOf c k n = (i : ℕ) → k ≤ i → i < k + n → c i ≡ false

pub only_none : {A : Type 0} (c : ℕ → Bool) (k : ℕ) (xs : List A) → NoneOf c k (length xs) → only c k xs ≡ []
only_none c k [] h = refl
only_none c k (x ∷ xs) h =
    ap (λ (b : Bool). cond b (x ∷ only c (suc k) xs) (only c (suc k) xs)) (h k (omega arith) (omega arith))
    ∙ only_none c (suc k) xs (λ i l u. h i (omega arith) (omega arith))

pub or_false : (a b : Bool) → (a || b) ≡ false → (a ≡ false) × (b ≡ false)
or_false true b e = absurd (cc)
or_false false b e = (refl, e)

mutual
  pub no_path : (t : Skeleton) (c : ℕ → Bool) (k : ℕ) → has_path t c k ≡ false → NoneOf c k (length (paths t))
  no_path end c k e i l u = let s : k ≡ i = omega arith in ap c (sym s) ∙ e
  no_path (theirs t) c k e i l u = let n = theirs_paths t in no_path t c k e i l (omega arith)
  no_path (mine bs) c k e i l u = no_branch_path bs c k e i l u

  pub no_branch_path : (bs : Branches) (c : ℕ → Bool) (k : ℕ) → some_has_path bs c k ≡ false → NoneOf c k (length (branch_paths bs))
  no_branch_path no_more c k e i l u = absurd (omega arith)
  no_branch_path (branch m t bs) c k e i l u =
      let n = more_paths m t bs in
      let p = or_false (has_path t c k) (some_has_path bs c (k + length (paths t))) e in
      elim (cases_lt i (k + length (paths t))) [
        | inl less ↦ no_path t c k p.0 i l less
        | inr more ↦ no_branch_path bs c (k + length (paths t)) p.1 i more (omega arith)
      ]

-- nothing of what has a path each is chosen
pub only_no_path : {A : Type 0} (t : Skeleton) (c : ℕ → Bool) (k : ℕ) (xs : List A) → length xs ≡ length (paths t) → has_path t c k ≡ false → only c k xs ≡ []
only_no_path t c k xs n e = only_none c k xs (λ i l u. no_path t c k e i l (omega arith))

-- ---- the paths

mutual
  pub paths_pruned : (t : Skeleton) (c : ℕ → Bool) (k : ℕ) → has_path t c k ≡ true → paths (prune t c k) ≡ only c k (paths t)
  paths_pruned end c k e = sym (ap (λ (b : Bool). cond b ([] ∷ []) []) e)
  paths_pruned (theirs t) c k e =
      ap (map (λ path. None ∷ path)) (paths_pruned t c k e) ∙ sym (only-map c k (λ path. None ∷ path) (paths t))
  paths_pruned (mine bs) c k e = branch_paths_pruned bs c k

  pub branch_paths_pruned : (bs : Branches) (c : ℕ → Bool) (k : ℕ) → branch_paths (prune_branches bs c k) ≡ only c k (branch_paths bs)
  branch_paths_pruned no_more c k = refl
  branch_paths_pruned (branch m t bs) c k =
      by (has_path t c k) refl (paths_pruned t c k) (branch_paths_pruned bs c (k + length (paths t)))
      ∙ sym (only-append c k (map (λ path. Some m ∷ path) (paths t)) (branch_paths bs))
    where
      rest : List (List (Option Move))
      rest = only c (k + length (map (λ path. Some m ∷ path) (paths t))) (branch_paths bs)

      by : (b : Bool) → has_path t c k ≡ b → (has_path t c k ≡ true → paths (prune t c k) ≡ only c k (paths t)) → branch_paths (prune_branches bs c (k + length (paths t))) ≡ only c (k + length (paths t)) (branch_paths bs) → branch_paths (cond b (branch m (prune t c k) (prune_branches bs c (k + length (paths t)))) (prune_branches bs c (k + length (paths t)))) ≡ only c k (map (λ path. Some m ∷ path) (paths t)) ++ rest
      by true e f g =
          ap₂ (λ (xs ys : List (List (Option Move))). xs ++ ys) (ap (map (λ path. Some m ∷ path)) (f e) ∙ sym (only-map c k (λ path. Some m ∷ path) (paths t)))
          (g ∙ ap (λ (n : ℕ). only c (k + n) (branch_paths bs)) (sym (length-map (paths t) (λ path. Some m ∷ path))))
      by false e f g =
          g ∙ ap (λ (n : ℕ). only c (k + n) (branch_paths bs)) (sym (length-map (paths t) (λ path. Some m ∷ path)))
          ∙ ap (λ (xs : List (List (Option Move))). xs ++ rest) (sym (only_no_path t c k (map (λ path. Some m ∷ path) (paths t)) (length-map (paths t) (λ path. Some m ∷ path)) e))

-- ---- the prefix

new_pruned : (m : Move) (bs : Branches) (c : ℕ → Bool) (k : ℕ) → IsNew m bs → IsNew m (prune_branches bs c k)
new_pruned m no_more c k h = tt
new_pruned m (branch n t bs) c k h = by (has_path t c k) (new_pruned m bs c (k + length (paths t)) h.1)
  where
    by : (b : Bool) → IsNew m (prune_branches bs c (k + length (paths t))) → IsNew m (cond b (branch n (prune t c k) (prune_branches bs c (k + length (paths t)))) (prune_branches bs c (k + length (paths t))))
    by true r = (h.0, r)
    by false r = r

some_pruned : (bs : Branches) (c : ℕ → Bool) (k : ℕ) → some_has_path bs c k ≡ true → IsSomeBranch (prune_branches bs c k)
some_pruned no_more c k e = absurd (cc)
some_pruned (branch m t bs) c k e = by (has_path t c k) refl (some_pruned bs c (k + length (paths t)))
  where
    by : (b : Bool) → has_path t c k ≡ b → (some_has_path bs c (k + length (paths t)) ≡ true → IsSomeBranch (prune_branches bs c (k + length (paths t)))) → IsSomeBranch (cond b (branch m (prune t c k) (prune_branches bs c (k + length (paths t)))) (prune_branches bs c (k + length (paths t))))
    by true q r = tt
    by false q r = r (ap (λ (b : Bool). b || some_has_path bs c (k + length (paths t))) (sym q) ∙ e)

mutual
  pub pruned_follows : (t : Skeleton) (c : ℕ → Bool) (k : ℕ) (s : Sort) (qs : List Quant) (d : ℕ) → has_path t c k ≡ true → Follows t s qs d → Follows (prune t c k) s qs d
  pruned_follows end c k s [] d e f = tt
  pruned_follows end c k s (q ∷ qs) d e f = absurd f
  pruned_follows (theirs t) c k s [] d e f = absurd f
  pruned_follows (theirs t) c k s (Exists ∷ qs) d e f = absurd f
  pruned_follows (theirs t) c k s (Forall ∷ qs) d e f = pruned_follows t c k s qs (suc d) e f
  pruned_follows (mine bs) c k s [] d e f = absurd f
  pruned_follows (mine bs) c k s (Forall ∷ qs) d e f = absurd f
  pruned_follows (mine bs) c k s (Exists ∷ qs) d e f = (some_pruned bs c k e, each_pruned_follows bs c k s qs d f.1)

  pub each_pruned_follows : (bs : Branches) (c : ℕ → Bool) (k : ℕ) (s : Sort) (qs : List Quant) (d : ℕ) → EachFollows bs s qs d → EachFollows (prune_branches bs c k) s qs d
  each_pruned_follows no_more c k s qs d f = tt
  each_pruned_follows (branch m t bs) c k s qs d f =
      by (has_path t c k) refl (λ e. pruned_follows t c k s qs (suc d) e f.2) (each_pruned_follows bs c (k + length (paths t)) s qs d f.3)
    where
      by : (b : Bool) → has_path t c k ≡ b → (has_path t c k ≡ true → Follows (prune t c k) s qs (suc d)) → EachFollows (prune_branches bs c (k + length (paths t))) s qs d → EachFollows (cond b (branch m (prune t c k) (prune_branches bs c (k + length (paths t)))) (prune_branches bs c (k + length (paths t)))) s qs d
      by true q g r = (f.0, new_pruned m bs c (k + length (paths t)) f.1, g q, r)
      by false q g r = r

mutual
  pub fewer_nodes : (t : Skeleton) (c : ℕ → Bool) (k : ℕ) → nodes (prune t c k) ≤ nodes t
  fewer_nodes end c k = omega arith
  fewer_nodes (theirs t) c k = let h = fewer_nodes t c k in omega arith
  fewer_nodes (mine bs) c k = fewer_branch_nodes bs c k

  pub fewer_branch_nodes : (bs : Branches) (c : ℕ → Bool) (k : ℕ) → branch_nodes (prune_branches bs c k) ≤ branch_nodes bs
  fewer_branch_nodes no_more c k = omega arith
  fewer_branch_nodes (branch m t bs) c k = by (has_path t c k) (fewer_nodes t c k) (fewer_branch_nodes bs c (k + length (paths t)))
    where
      by : (b : Bool) → nodes (prune t c k) ≤ nodes t → branch_nodes (prune_branches bs c (k + length (paths t))) ≤ branch_nodes bs → branch_nodes (cond b (branch m (prune t c k) (prune_branches bs c (k + length (paths t)))) (prune_branches bs c (k + length (paths t)))) ≤ (1 + nodes t) + branch_nodes bs
      by true g r = omega arith
      by false g r = omega arith

mutual
  pub length_routes : (t : Skeleton) (names : List ℕ) (v : ℕ) → length (routes t names v) ≡ length (paths t)
  length_routes end names v = refl
  length_routes (theirs t) names v = length_routes t (names ++ v ∷ []) (suc v) ∙ sym (theirs_paths t)
  length_routes (mine bs) names v = length_branch_routes bs names v

  pub length_branch_routes : (bs : Branches) (names : List ℕ) (v : ℕ) → length (branch_routes bs names v) ≡ length (branch_paths bs)
  length_branch_routes no_more names v = refl
  length_branch_routes (branch m t bs) names v =
      let a = length-append (routes t (names ++ v ∷ []) (suc v)) (branch_routes bs names (suc v + nodes t)) in
      let b = length_routes t (names ++ v ∷ []) (suc v) in
      let c = length_branch_routes bs names (suc v + nodes t) in
      let d = more_paths m t bs in
      omega arith
