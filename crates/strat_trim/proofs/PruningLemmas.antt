-- The walk that leaves the chosen paths alone: one more branch.
use Rattle.std.specs.Prelude.{ℕ, ◌+◌, ◌<◌, ◌≤◌, ◌≡◌, ◌≢◌, ◌↔◌, IsTrue, Bool, true, false, ◌||◌, cond, Some, None, List, [], ◌∷◌, ◌++◌, length, drop, get_or, ◌*◌}
use Rattle.std.proofs.Common.{arith, ap, ap₂, ◌∙◌, sym, subst, refl, append_assoc, append-nil}
use Rattle.lin_term.specs.Move.{Move}
use Rattle.game_tree.specs.declared.Tree.{Tree}
use Rattle.game_tree.specs.declared.Tree.TheVariants as trees
use Rattle.game_tree.specs.declared.Branch.{Branch}
use Rattle.game_tree.specs.Skeleton.{Skeleton, end, theirs, mine, Branches, no_more, branch, nodes, branch_nodes, paths, branch_paths}
use Rattle.game_tree.specs.View.{skeleton_of, branches_of}
use Rattle.game_tree.proofs.Views.{seen_end, seen_theirs, seen_mine, seen_branches, branches_at, branches_done, fewer_left}
use Rattle.game_tree.proofs.Counts.{more_paths}
use Rattle.strat_trim.specs.Parts.{IsPart, joined, Adds}
use Rattle.strat_trim.specs.Trimmed.{has_path, some_has_path, prune, prune_branches, on_path, each_on_path}

-- ---- branches in two parts

seen_push : (left : List Branch) (b : Branch) (cs : Branches) → joined (branches_of (left ++ b ∷ [])) cs ≡ joined (branches_of left) (branch b.term (skeleton_of b.rest) cs)
seen_push [] b cs = ap (λ (bs : Branches). joined bs cs) (seen_branches b [])
seen_push (x ∷ left) b cs =
    ap (λ (bs : Branches). joined bs cs) (seen_branches x (left ++ b ∷ []))
    ∙ ap (branch x.term (skeleton_of x.rest)) (seen_push left b cs)
    ∙ ap (λ (bs : Branches). joined bs (branch b.term (skeleton_of b.rest) cs)) (sym (seen_branches x left))

joined_none : (bs : Branches) → joined bs no_more ≡ bs
joined_none no_more = refl
joined_none (branch m t bs) = ap (branch m t) (joined_none bs)

-- ---- one more branch

-- what is left so far, and what the branches from here on will leave
pub record Pruning (c : ℕ → Bool) (left : List Branch) (path : ℕ) (marks : List Bool) (rest : Branches) (old_path : ℕ) (old_marks : List Bool) (all : Branches) : Type 0 where
  pub tree : joined (branches_of left) (prune_branches rest c path) ≡ prune_branches all c old_path
  pub so_far : marks ++ each_on_path rest c path ≡ old_marks ++ each_on_path all c old_path
  pub count : path + length (branch_paths rest) ≡ old_path + length (branch_paths all)

pub pruning_first : (c : ℕ → Bool) (left : List Branch) (path : ℕ) (marks : List Bool) (all : Branches) → left ≡ [] → Pruning c left path marks all path marks all
pruning_first c left path marks all e =
    record { tree = ap (λ (bs : List Branch). joined (branches_of bs) (prune_branches all c path)) e; so_far = refl; count = refl }

marks_more : (c : ℕ → Bool) (path next : ℕ) (marks new old_marks : List Bool) (old_path : ℕ) (m : Move) (t : Skeleton) (rest all : Branches) → marks ++ each_on_path (branch m t rest) c path ≡ old_marks ++ each_on_path all c old_path → new ≡ marks ++ has_path t c path ∷ on_path t c path → next ≡ path + length (paths t) → new ++ each_on_path rest c next ≡ old_marks ++ each_on_path all c old_path
marks_more c path next marks new old_marks old_path m t rest all w e n =
    ap₂ (λ (xs : List Bool) (i : ℕ). xs ++ each_on_path rest c i) e n
    ∙ append_assoc marks (has_path t c path ∷ on_path t c path) (each_on_path rest c (path + length (paths t)))
    ∙ w

-- a branch that is left, and one that is not
pub adds_kept : (m : Move) (S : Skeleton) (c : ℕ → Bool) (k : ℕ) (old new : List Branch) (b : Branch) → IsPart (Some b.rest) S c k → b.term ≡ m → new ≡ old ++ b ∷ [] → Adds m S c k old new
adds_kept m S c k old new b p q l cs =
    ap (λ (bs : List Branch). joined (branches_of bs) cs) l
    ∙ seen_push old b cs
    ∙ ap₂ (λ (x : Move) (s : Skeleton). joined (branches_of old) (branch x s cs)) q p.1
    ∙ ap (λ (x : Bool). joined (branches_of old) (cond x (branch m (prune S c k) cs) cs)) (sym p.0)

pub adds_none : (m : Move) (S : Skeleton) (c : ℕ → Bool) (k : ℕ) (old new : List Branch) → IsPart None S c k → new ≡ old → Adds m S c k old new
adds_none m S c k old new p l cs =
    ap (λ (bs : List Branch). joined (branches_of bs) cs) l
    ∙ ap (λ (x : Bool). joined (branches_of old) (cond x (branch m (prune S c k) cs) cs)) (sym p)

pub pruning_more : (c : ℕ → Bool) (left new_left : List Branch) (path next : ℕ) (marks new old_marks : List Bool) (old_path : ℕ) (m : Move) (t : Skeleton) (rest all : Branches) → Pruning c left path marks (branch m t rest) old_path old_marks all → Adds m t c path left new_left → new ≡ marks ++ has_path t c path ∷ on_path t c path → next ≡ path + length (paths t) → Pruning c new_left next new rest old_path old_marks all
pruning_more c left new_left path next marks new old_marks old_path m t rest all w p e n =
    record {
      tree = ap (λ (i : ℕ). joined (branches_of new_left) (prune_branches rest c i)) n
          ∙ p (prune_branches rest c (path + length (paths t)))
          ∙ w.tree;
      so_far = marks_more c path next marks new old_marks old_path m t rest all w.so_far e n;
      count = let a = w.count in let d = more_paths m t rest in omega arith;
    }

-- the same of the branches from place i on
pub pruning_step : (c : ℕ → Bool) (left new_left : List Branch) (path next : ℕ) (marks new old_marks : List Bool) (old_path : ℕ) (bs : List Branch) (i : ℕ) (b : Branch) (all : Branches) → Pruning c left path marks (branches_of (drop i bs)) old_path old_marks all → i < length bs → b ≡ get_or bs i b → Adds b.term (skeleton_of b.rest) c path left new_left → new ≡ marks ++ has_path (skeleton_of b.rest) c path ∷ on_path (skeleton_of b.rest) c path → next ≡ path + length (paths (skeleton_of b.rest)) → Pruning c new_left next new (branches_of (drop (i + 1) bs)) old_path old_marks all
pruning_step c left new_left path next marks new old_marks old_path bs i b all w l e p m n =
    pruning_more c left new_left path next marks new old_marks old_path b.term (skeleton_of b.rest) (branches_of (drop (i + 1) bs)) all
    (subst (λ (x : Branches). Pruning c left path marks x old_path old_marks all) (branches_at bs i b l e) w) p m n

pub pruning_end : (c : ℕ → Bool) (left : List Branch) (path : ℕ) (marks : List Bool) (bs : List Branch) (i : ℕ) (old_path : ℕ) (old_marks : List Bool) (all : Branches) → Pruning c left path marks (branches_of (drop i bs)) old_path old_marks all → length bs ≤ i → Pruning c left path marks no_more old_path old_marks all
pruning_end c left path marks bs i old_path old_marks all w l =
    subst (λ (x : Branches). Pruning c left path marks x old_path old_marks all) (branches_done bs i l) w

pub pruning_room : (c : ℕ → Bool) (left : List Branch) (path : ℕ) (marks : List Bool) (bs : List Branch) (i : ℕ) (b : Branch) (old_path n : ℕ) (old_marks : List Bool) → Pruning c left path marks (branches_of (drop i bs)) old_path old_marks (branches_of bs) → i < length bs → b ≡ get_or bs i b → old_path + length (branch_paths (branches_of bs)) ≤ n → (path + length (paths (skeleton_of b.rest)) ≤ n) × (4 * nodes (skeleton_of b.rest) + 3 < 4 * branch_nodes (branches_of bs))
pruning_room c left path marks bs i b old_path n old_marks w l e r =
    let q = ap branch_nodes (branches_at bs i b l e) in
    let k = ap (λ (x : Branches). length (branch_paths x)) (branches_at bs i b l e) ∙ more_paths b.term (skeleton_of b.rest) (branches_of (drop (i + 1) bs)) in
    let a = w.count in
    let h = fewer_left bs i in
    (omega arith, omega arith)

pub pruning_tree : (c : ℕ → Bool) (left : List Branch) (path : ℕ) (marks : List Bool) (old_path : ℕ) (old_marks : List Bool) (all : Branches) → Pruning c left path marks no_more old_path old_marks all → branches_of left ≡ prune_branches all c old_path
pruning_tree c left path marks old_path old_marks all w = sym (joined_none (branches_of left)) ∙ w.tree

pub pruning_marks : (c : ℕ → Bool) (left : List Branch) (path : ℕ) (marks : List Bool) (old_path : ℕ) (old_marks : List Bool) (all : Branches) → Pruning c left path marks no_more old_path old_marks all → marks ≡ old_marks ++ each_on_path all c old_path
pruning_marks c left path marks old_path old_marks all w = sym (append-nil marks) ∙ w.so_far

pub pruning_path : (c : ℕ → Bool) (left : List Branch) (path : ℕ) (marks : List Bool) (old_path : ℕ) (old_marks : List Bool) (all : Branches) → Pruning c left path marks no_more old_path old_marks all → path ≡ old_path + length (branch_paths all)
pruning_path c left path marks old_path old_marks all w = let a = w.count in omega arith

-- ---- what is left of one tree

pub part_end : (c : ℕ → Bool) (k : ℕ) (b : Bool) → b ≡ c k → b ≡ true → IsPart (Some trees.End) end c k
part_end c k b e h = (sym e ∙ h, seen_end)

pub part_theirs : (t : Tree) (S : Skeleton) (c : ℕ → Bool) (k : ℕ) → IsPart (Some t) S c k → IsPart (Some (trees.Theirs t)) (theirs S) c k
part_theirs t S c k p = (p.0, seen_theirs t ∙ ap theirs p.1)

not_none : (m : Move) (t : Skeleton) (bs : Branches) → branch m t bs ≡ no_more → ⊥
not_none m t bs e = absurd (cc)

some_of_pruned : (bs : Branches) (c : ℕ → Bool) (k : ℕ) (q : Bool) → some_has_path bs c k ≡ q → (q ≡ false → prune_branches bs c k ≡ no_more) × (q ≡ true → prune_branches bs c k ≡ no_more → ⊥)
some_of_pruned no_more c k q e = (λ f. refl, λ f g. (let z : false ≡ true = e ∙ f in cc))
some_of_pruned (branch m t bs) c k q e = by (has_path t c k) refl (some_of_pruned bs c (k + length (paths t)) (some_has_path bs c (k + length (paths t))) refl)
  where
    by : (b : Bool) → has_path t c k ≡ b → (some_has_path bs c (k + length (paths t)) ≡ false → prune_branches bs c (k + length (paths t)) ≡ no_more) × (some_has_path bs c (k + length (paths t)) ≡ true → prune_branches bs c (k + length (paths t)) ≡ no_more → ⊥) → (q ≡ false → cond b (branch m (prune t c k) (prune_branches bs c (k + length (paths t)))) (prune_branches bs c (k + length (paths t))) ≡ no_more) × (q ≡ true → cond b (branch m (prune t c k) (prune_branches bs c (k + length (paths t)))) (prune_branches bs c (k + length (paths t))) ≡ no_more → ⊥)
    by true h r = (λ f. absurd (let z : true ≡ false = sym (ap (λ (x : Bool). x || some_has_path bs c (k + length (paths t))) h) ∙ e ∙ f in cc), λ f g. not_none m (prune t c k) (prune_branches bs c (k + length (paths t))) g)
    by false h r = (
      λ f. r.0 (sym (ap (λ (x : Bool). x || some_has_path bs c (k + length (paths t))) h) ∙ e ∙ f),
      λ f g. r.1 (sym (ap (λ (x : Bool). x || some_has_path bs c (k + length (paths t))) h) ∙ e ∙ f) g,
    )

pub part_none : (left : List Branch) (bs : Branches) (c : ℕ → Bool) (k : ℕ) → branches_of left ≡ prune_branches bs c k → left ≡ [] → IsPart None (mine bs) c k
part_none left bs c k e n = by (some_has_path bs c k) refl
  where
    by : (q : Bool) → some_has_path bs c k ≡ q → q ≡ false
    by true h = absurd ((some_of_pruned bs c k true h).1 refl (sym e ∙ ap branches_of n))
    by false h = refl

pub part_some : (left : List Branch) (bs : Branches) (c : ℕ → Bool) (k : ℕ) → branches_of left ≡ prune_branches bs c k → left ≢ [] → IsPart (Some (trees.Mine left)) (mine bs) c k
part_some left bs c k e n = (by (some_has_path bs c k) refl, seen_mine left ∙ ap mine e)
  where
    empty : (xs : List Branch) → branches_of xs ≡ no_more → xs ≡ []
    empty [] q = refl
    empty (x ∷ xs) q = absurd (not_none x.term (skeleton_of x.rest) (branches_of xs) (sym (seen_branches x xs) ∙ q))

    by : (q : Bool) → some_has_path bs c k ≡ q → q ≡ true
    by true h = refl
    by false h = absurd (n (empty left (e ∙ (some_of_pruned bs c k false h).0 refl)))

-- a node of the owner, of which nothing is left, and of which something is
pub part_none_of : (tree : Tree) (bs given left : List Branch) (c : ℕ → Bool) (k : ℕ) (empty : Bool) → tree ≡ trees.Mine bs → given ≡ bs → branches_of left ≡ prune_branches (branches_of given) c k → IsTrue empty ↔ (left ≡ []) → empty ≡ true → IsPart None (skeleton_of tree) c k
part_none_of tree bs given left c k empty t g e i h =
    subst (λ (S : Skeleton). IsPart None S c k) (sym (ap skeleton_of t ∙ seen_mine bs))
    (part_none left (branches_of bs) c k (e ∙ ap (λ (xs : List Branch). prune_branches (branches_of xs) c k) g) (i.0 h))

pub part_some_of : (tree : Tree) (bs given left : List Branch) (c : ℕ → Bool) (k : ℕ) (empty : Bool) → tree ≡ trees.Mine bs → given ≡ bs → branches_of left ≡ prune_branches (branches_of given) c k → IsTrue empty ↔ (left ≡ []) → empty ≡ false → IsPart (Some (trees.Mine left)) (skeleton_of tree) c k
part_some_of tree bs given left c k empty t g e i h =
    subst (λ (S : Skeleton). IsPart (Some (trees.Mine left)) S c k) (sym (ap skeleton_of t ∙ seen_mine bs))
    (part_some left (branches_of bs) c k (e ∙ ap (λ (xs : List Branch). prune_branches (branches_of xs) c k) g) (λ n. (let z : false ≡ true = sym h ∙ i.1 n in cc)))
