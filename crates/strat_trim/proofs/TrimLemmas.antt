-- What the trimmed game of a won one keeps.
use Rattle.std.specs.Prelude.{ℕ, suc, ◌+◌, ◌^◌, ◌<◌, ◌≤◌, ◌≡◌, ◌&&◌, Bool, true, false, not, ◌||◌, cond, Option, Some, None, List, [], ◌∷◌, ◌++◌, length}
use Rattle.std.specs.List.{AllByRecursion, IsAmong}
use Rattle.std.proofs.Common.{arith, ap, ap₂, ◌∙◌, sym, subst, refl}
use Rattle.lin_term.specs.declared.Sort.{Sort}
use Rattle.lin_term.specs.declared.Lit.{Lit}
use Rattle.lin_term.specs.Move.{Move}
use Rattle.dom_core.specs.declared.Quant.{Quant}
use Rattle.dom_core.specs.Problem.{WrittenProblem, problem_of, IsProblem}
use Rattle.game_tree.specs.declared.Tree.{Tree}
use Rattle.game_tree.specs.Skeleton.{Skeleton, end, theirs, mine, Branches, no_more, branch, nodes, branch_nodes, paths, branch_paths, Follows, node_limit}
use Rattle.game_tree.specs.View.{skeleton_of}
use Rattle.game_tree.specs.Written.{WrittenSkeleton, FollowsPrefix}
use Rattle.game_tree.proofs.Counts.{theirs_paths, more_paths}
use Rattle.cube_rules.specs.declared.Step.{Step}
use Rattle.cube_rules.specs.declared.Step.TheVariants.{Path, Def, Part, Cases, Sum, Split, Cube, Least, Learn, False}
use Rattle.proof_rules.specs.Rules.{Refutes}
use Rattle.proof_rules.specs.Writable.{IsWritable}
use Rattle.proof_rules.specs.Won.{WonGame, IsWon}
use Rattle.strat_trim.specs.Marked.{HasMarks}
use Rattle.strat_trim.specs.Parts.{IsPart}
use Rattle.strat_trim.specs.Renamed.{rename_steps, HasNames, StepHasNames}
use Rattle.strat_trim.specs.Trimmed.{names_path, names_node, has_path, some_has_path, with_first, stays, each_stays, or_first, needed, marked, only, prune, on_path, numbers}
use Rattle.strat_trim.specs.Trim.{trimmed_tree, node_numbers, trimmed_steps}
use Rattle.strat_trim.specs.Needing.{AreNeeded}
use Rattle.strat_trim.proofs.NeededWords.{needed_exact}
use Rattle.strat_trim.proofs.RenamedForms.{LitWithin}
use Rattle.strat_trim.proofs.RenamedCases.{CubeWithin}
use Rattle.strat_trim.proofs.RenamedSteps.{StepWithin}
use Rattle.strat_trim.proofs.PrunedPaths.{paths_pruned, pruned_follows, fewer_nodes}
use Rattle.strat_trim.proofs.PrunedNodes.{length-on_path}
use Rattle.strat_trim.proofs.TrimmedSystem.{IsChosen, IsOn}
use Rattle.strat_trim.proofs.TrimmedProofs.{steps_within, trimmed_refutes, literal_rises, literal_below, trimmed_writable}
use Rattle.strat_trim.proofs.Needed.{length-stays, needed_some}

-- ---- flags of marks that say what is named

mutual
  has_same : (t : Skeleton) (P Q : ℕ → Bool) (k : ℕ) → ((i : ℕ) → k ≤ i → i < k + length (paths t) → P i ≡ Q i) → has_path t P k ≡ has_path t Q k
  has_same end P Q k h = h k (omega arith) (omega arith)
  has_same (theirs t) P Q k h = let n = theirs_paths t in has_same t P Q k (λ i l u. h i l (omega arith))
  has_same (mine bs) P Q k h = some_has_same bs P Q k h

  some_has_same : (bs : Branches) (P Q : ℕ → Bool) (k : ℕ) → ((i : ℕ) → k ≤ i → i < k + length (branch_paths bs) → P i ≡ Q i) → some_has_path bs P k ≡ some_has_path bs Q k
  some_has_same no_more P Q k h = refl
  some_has_same (branch m t bs) P Q k h =
      let n = more_paths m t bs in
      ap₂ (λ (x y : Bool). x || y) (has_same t P Q k (λ i l u. h i l (omega arith))) (some_has_same bs P Q (k + length (paths t)) (λ i l u. h i (omega arith) (omega arith)))

first_same : (t : Skeleton) (P Q N M : ℕ → Bool) (k v : ℕ) → ((i : ℕ) → k ≤ i → i < k + length (paths t) → P i ≡ Q i) → ((u : ℕ) → v ≤ u → u < v + (1 + nodes t) → N u ≡ M u) → stays t P N k (suc v) ≡ stays t Q M k (suc v) → with_first (N v && not (has_path t P k)) (stays t P N k (suc v)) ≡ with_first (M v && not (has_path t Q k)) (stays t Q M k (suc v))
first_same t P Q N M k v h g e =
    ap₂ (λ (x y : Bool). with_first (x && not y) (stays t P N k (suc v))) (g v (omega arith) (omega arith)) (has_same t P Q k h)
    ∙ ap (with_first (M v && not (has_path t Q k))) e

mutual
  stays_same : (t : Skeleton) (P Q N M : ℕ → Bool) (k v : ℕ) → ((i : ℕ) → k ≤ i → i < k + length (paths t) → P i ≡ Q i) → ((u : ℕ) → v ≤ u → u < v + nodes t → N u ≡ M u) → stays t P N k v ≡ stays t Q M k v
  stays_same end P Q N M k v h g = ap (λ (b : Bool). b ∷ []) (h k (omega arith) (omega arith))
  stays_same (theirs t) P Q N M k v h g =
      let n = theirs_paths t in
      first_same t P Q N M k v (λ i l u. h i l (omega arith)) (λ u l w. g u l (omega arith)) (stays_same t P Q N M k (suc v) (λ i l u. h i l (omega arith)) (λ u l w. g u (omega arith) (omega arith)))
  stays_same (mine bs) P Q N M k v h g = each_stays_same bs P Q N M k v h g

  each_stays_same : (bs : Branches) (P Q N M : ℕ → Bool) (k v : ℕ) → ((i : ℕ) → k ≤ i → i < k + length (branch_paths bs) → P i ≡ Q i) → ((u : ℕ) → v ≤ u → u < v + branch_nodes bs → N u ≡ M u) → each_stays bs P N k v ≡ each_stays bs Q M k v
  each_stays_same no_more P Q N M k v h g = refl
  each_stays_same (branch m t bs) P Q N M k v h g =
      let n = more_paths m t bs in
      ap₂ (λ (xs ys : List Bool). xs ++ ys)
      (first_same t P Q N M k v (λ i l u. h i l (omega arith)) (λ u l w. g u l (omega arith)) (stays_same t P Q N M k (suc v) (λ i l u. h i l (omega arith)) (λ u l w. g u (omega arith) (omega arith))))
      (each_stays_same bs P Q N M (k + length (paths t)) (suc v + nodes t) (λ i l u. h i (omega arith) (omega arith)) (λ u l w. g u (omega arith) (omega arith)))

pub flags_needed : (S : Skeleton) (steps : List Step) (ps ns : List Bool) (a b : ℕ) → a ≡ length (paths S) → b ≡ nodes S → HasMarks a (names_path steps) ps → HasMarks b (names_node steps) ns → or_first (stays S (marked ps) (marked ns) 0 0) ≡ needed S steps
flags_needed S steps ps ns a b e f p n =
    ap or_first (stays_same S (marked ps) (names_path steps) (marked ns) (names_node steps) 0 0 (λ i l u. p.1 i (omega arith)) (λ i l u. n.1 i (omega arith)))

-- ---- counts

mutual
  pub few_paths : (t : Skeleton) → length (paths t) ≤ 1 + nodes t
  few_paths end = omega arith
  few_paths (theirs t) = let a = few_paths t in let b = theirs_paths t in omega arith
  few_paths (mine bs) = let a = few_branch_paths bs in omega arith

  few_branch_paths : (bs : Branches) → length (branch_paths bs) ≤ branch_nodes bs
  few_branch_paths no_more = omega arith
  few_branch_paths (branch m t bs) = let a = few_paths t in let b = few_branch_paths bs in let c = more_paths m t bs in omega arith

length-or_first : (bs : List Bool) → length (or_first bs) ≡ length bs
length-or_first [] = refl
length-or_first (b ∷ bs) = refl

pub length-needed : (S : Skeleton) (steps : List Step) → length (needed S steps) ≡ length (paths S)
length-needed S steps =
    length-or_first (stays S (names_path steps) (names_node steps) 0 0) ∙ length-stays S (names_path steps) (names_node steps) 0 0

-- ---- what the lines name has a new number

names_of_literal : (S : Skeleton) (flags : List Bool) (l : Lit) → has_path S (marked flags) 0 ≡ true → nodes S ≤ node_limit → LitWithin (IsOn S flags) l → HasNames (node_numbers S flags) l
names_of_literal S flags l e n w = (literal_rises S flags l e n w, literal_below S flags l w)

names_of_literals : (S : Skeleton) (flags : List Bool) (ls : List Lit) → has_path S (marked flags) 0 ≡ true → nodes S ≤ node_limit → CubeWithin (IsOn S flags) ls → AllByRecursion (HasNames (node_numbers S flags)) ls
names_of_literals S flags [] e n w = tt
names_of_literals S flags (l ∷ ls) e n w = (names_of_literal S flags l e n w.0, names_of_literals S flags ls e n w.1)

names_of_step : (S : Skeleton) (flags : List Bool) (l : Step) → has_path S (marked flags) 0 ≡ true → nodes S ≤ node_limit → StepWithin (IsChosen flags) (IsOn S flags) l → StepHasNames (node_numbers S flags) l
names_of_step S flags (Path j) e n w = tt
names_of_step S flags (Def u j) e n w = tt
names_of_step S flags (Part f j) e n w = tt
names_of_step S flags (Cases f j) e n w = tt
names_of_step S flags (Sum p f q h g) e n w = tt
names_of_step S flags (Split l) e n w = names_of_literal S flags l e n w
names_of_step S flags (Cube fs) e n w = tt
names_of_step S flags (Least u j) e n w = tt
names_of_step S flags (Learn ls) e n w = names_of_literals S flags ls e n w
names_of_step S flags (False f) e n w = tt

names_of_steps : (S : Skeleton) (flags : List Bool) (ls : List Step) → has_path S (marked flags) 0 ≡ true → nodes S ≤ node_limit → AllByRecursion (StepWithin (IsChosen flags) (IsOn S flags)) ls → AllByRecursion (StepHasNames (node_numbers S flags)) ls
names_of_steps S flags [] e n w = tt
names_of_steps S flags (l ∷ ls) e n w = (names_of_step S flags l e n w.0, names_of_steps S flags ls e n w.1)

pub won_has_path : (s : Sort) (g : WonGame) → IsWon s g → has_path (skeleton_of g.tree) (marked (needed (skeleton_of g.tree) g.proof)) 0 ≡ true
won_has_path s g w = let k = w.skeleton in needed_some (skeleton_of g.tree) s g.problem.prefix g.proof k.follows

pub won_has_names : (s : Sort) (g : WonGame) → IsWon s g → AllByRecursion (StepHasNames (node_numbers (skeleton_of g.tree) (needed (skeleton_of g.tree) g.proof))) g.proof
won_has_names s g w =
    let k = w.skeleton in
    names_of_steps (skeleton_of g.tree) (needed (skeleton_of g.tree) g.proof) g.proof (won_has_path s g w) k.few
    (steps_within s (problem_of g.problem) (skeleton_of g.tree) g.proof k.follows w.refutes)

-- ---- the trimmed game

pub trimmed_follows : (s : Sort) (g : WonGame) (prefix : List Quant) (t : Tree) → IsWon s g → IsProblem s g.problem → prefix ≡ g.problem.prefix → skeleton_of t ≡ trimmed_tree (skeleton_of g.tree) g.proof → FollowsPrefix s (record { prefix = prefix; tree = t })
trimmed_follows s g prefix t w p q e =
    let k = w.skeleton in
    let f = pruned_follows (skeleton_of g.tree) (marked (needed (skeleton_of g.tree) g.proof)) 0 s g.problem.prefix 0 (won_has_path s g w) k.follows in
    let n = fewer_nodes (skeleton_of g.tree) (marked (needed (skeleton_of g.tree) g.proof)) 0 in
    let m = ap nodes e in
    let few = k.few in
    record {
      short = subst (λ (qs : List Quant). length qs ≤ 1024) (sym q) p.0;
      follows = subst (λ (qs : List Quant). Follows (skeleton_of t) s qs 0) (sym q) (subst (λ (S : Skeleton). Follows S s g.problem.prefix 0) (sym e) f);
      countable = omega arith;
    }

pub trimmed_few : (s : Sort) (g : WonGame) (t : Tree) → IsWon s g → skeleton_of t ≡ trimmed_tree (skeleton_of g.tree) g.proof → nodes (skeleton_of t) ≤ node_limit
trimmed_few s g t w e =
    let k = w.skeleton in
    let n = fewer_nodes (skeleton_of g.tree) (marked (needed (skeleton_of g.tree) g.proof)) 0 in
    let m = ap nodes e in
    let few = k.few in
    omega arith

pub trimmed_is_refuted : (s : Sort) (g : WonGame) (P : WrittenProblem) (t : Tree) (ls : List Step) → IsWon s g → IsProblem s g.problem → P ≡ g.problem → skeleton_of t ≡ trimmed_tree (skeleton_of g.tree) g.proof → ls ≡ trimmed_steps (skeleton_of g.tree) g.proof → Refutes s (problem_of P) (skeleton_of t) ls
trimmed_is_refuted s g P t ls w p q e f =
    let k = w.skeleton in
    let r = trimmed_refutes s (problem_of g.problem) (skeleton_of g.tree) g.proof p.1 k.follows w.refutes in
    subst (λ (Q : WrittenProblem). Refutes s (problem_of Q) (skeleton_of t) ls) (sym q)
    (subst (λ (S : Skeleton). Refutes s (problem_of g.problem) S ls) (sym e)
    (subst (λ (xs : List Step). Refutes s (problem_of g.problem) (trimmed_tree (skeleton_of g.tree) g.proof) xs) (sym f) r))

pub trimmed_is_writable : (s : Sort) (g : WonGame) (ls : List Step) → IsWon s g → ls ≡ trimmed_steps (skeleton_of g.tree) g.proof → IsWritable ls
trimmed_is_writable s g ls w f =
    let k = w.skeleton in
    subst (λ (xs : List Step). IsWritable xs) (sym f)
    (trimmed_writable s (problem_of g.problem) (skeleton_of g.tree) g.proof k.follows k.few w.refutes w.writable)

pub trimmed_paths : (s : Sort) (g : WonGame) (t : Tree) → IsWon s g → skeleton_of t ≡ trimmed_tree (skeleton_of g.tree) g.proof → paths (skeleton_of t) ≡ only (marked (needed (skeleton_of g.tree) g.proof)) 0 (paths (skeleton_of g.tree))
trimmed_paths s g t w e =
    ap paths e ∙ paths_pruned (skeleton_of g.tree) (marked (needed (skeleton_of g.tree) g.proof)) 0 (won_has_path s g w)

among_more : {A : Type 0} (xs ys : List A) (x : A) → AllByRecursion (IsAmong ys) xs → AllByRecursion (IsAmong (x ∷ ys)) xs
among_more [] ys x a = tt
among_more (z ∷ xs) ys x a = ((suc a.0.0, ((let l = a.0.1.0 in omega arith), a.0.1.1)), among_more xs ys x a.1)

only_inside : {A : Type 0} (c : ℕ → Bool) (k : ℕ) (xs : List A) → AllByRecursion (IsAmong xs) (only c k xs)
only_inside c k [] = tt
only_inside c k (x ∷ xs) = by (c k) (among_more (only c (suc k) xs) xs x (only_inside c (suc k) xs))
  where
    by : (b : Bool) → AllByRecursion (IsAmong (x ∷ xs)) (only c (suc k) xs) → AllByRecursion (IsAmong (x ∷ xs)) (cond b (x ∷ only c (suc k) xs) (only c (suc k) xs))
    by true a = ((0, ((omega arith), refl)), a)
    by false a = a

pub trimmed_inside : (s : Sort) (g : WonGame) (t : Tree) → IsWon s g → skeleton_of t ≡ trimmed_tree (skeleton_of g.tree) g.proof → AllByRecursion (IsAmong (paths (skeleton_of g.tree))) (paths (skeleton_of t))
trimmed_inside s g t w e =
    subst (λ (ps : List (List (Option Move))). AllByRecursion (IsAmong (paths (skeleton_of g.tree))) ps) (sym (trimmed_paths s g t w e))
    (only_inside (marked (needed (skeleton_of g.tree) g.proof)) 0 (paths (skeleton_of g.tree)))

pub trimmed_needed : (s : Sort) (g : WonGame) → IsWon s g → AreNeeded (skeleton_of g.tree) g.proof (needed (skeleton_of g.tree) g.proof)
trimmed_needed s g w = let k = w.skeleton in needed_exact (skeleton_of g.tree) s g.problem.prefix g.proof k.follows

-- ---- a won game in parts

abbrev pub game : WrittenProblem → WrittenSkeleton → List Step → WonGame
game P S ls = record { problem = P; tree = S.tree; proof = ls }

pub same_game : (g : WonGame) (P : WrittenProblem) (S : WrittenSkeleton) (ls : List Step) → P ≡ g.problem → S ≡ record { prefix = g.problem.prefix; tree = g.tree } → ls ≡ g.proof → game P S ls ≡ g
same_game g P S ls e f h =
    ap₂ (λ (Q : WrittenProblem) (T : WrittenSkeleton). game Q T ls) e f ∙ ap (λ (xs : List Step). game g.problem (record { prefix = g.problem.prefix; tree = g.tree }) xs) h

pub parts_won : (s : Sort) (g : WonGame) (P : WrittenProblem) (S : WrittenSkeleton) (ls : List Step) → IsWon s g → P ≡ g.problem → S ≡ record { prefix = g.problem.prefix; tree = g.tree } → ls ≡ g.proof → IsWon s (game P S ls)
parts_won s g P S ls w e f h = subst (λ (x : WonGame). IsWon s x) (sym (same_game g P S ls e f h)) w

-- ---- what is chosen, and the marks of the nodes

-- the flags are those of the needed paths
pub chosen_is : (s : Sort) (g : WonGame) (t : Tree) (ps ns chosen : List Bool) (a b : ℕ) → t ≡ g.tree → a ≡ length (paths (skeleton_of g.tree)) → b ≡ nodes (skeleton_of g.tree) → HasMarks a (names_path g.proof) ps → HasMarks b (names_node g.proof) ns → chosen ≡ or_first (stays (skeleton_of t) (marked ps) (marked ns) 0 0) → chosen ≡ needed (skeleton_of g.tree) g.proof
chosen_is s g t ps ns chosen a b e f h p n c =
    c ∙ ap (λ (x : Tree). or_first (stays (skeleton_of x) (marked ps) (marked ns) 0 0)) e
    ∙ flags_needed (skeleton_of g.tree) g.proof ps ns a b f h p n

pub room_for_paths : (g : WonGame) (t : Tree) (chosen : List Bool) → t ≡ g.tree → chosen ≡ needed (skeleton_of g.tree) g.proof → 0 + length (paths (skeleton_of t)) ≤ length chosen
room_for_paths g t chosen e c =
    let a = ap length c in
    let b = length-needed (skeleton_of g.tree) g.proof in
    let d = ap (λ (x : Tree). length (paths (skeleton_of x))) e in
    omega arith

pub few_flags : (s : Sort) (g : WonGame) (chosen : List Bool) → IsWon s g → chosen ≡ needed (skeleton_of g.tree) g.proof → length chosen < 2 ^ 32
few_flags s g chosen w c =
    let k = w.skeleton in
    let a = ap length c in
    let b = length-needed (skeleton_of g.tree) g.proof in
    let d = few_paths (skeleton_of g.tree) in
    let f = k.few in
    omega arith

-- the marks are those of the nodes on chosen paths
pub marks_are : (g : WonGame) (t : Tree) (chosen old marks : List Bool) → t ≡ g.tree → chosen ≡ needed (skeleton_of g.tree) g.proof → old ≡ [] → marks ≡ old ++ on_path (skeleton_of t) (marked chosen) 0 → marks ≡ on_path (skeleton_of g.tree) (marked (needed (skeleton_of g.tree) g.proof)) 0
marks_are g t chosen old marks e c o m =
    m ∙ ap (λ (xs : List Bool). xs ++ on_path (skeleton_of t) (marked chosen) 0) o
    ∙ ap₂ (λ (x : Tree) (bs : List Bool). on_path (skeleton_of x) (marked bs) 0) e c

pub few_marks : (s : Sort) (g : WonGame) (marks : List Bool) → IsWon s g → marks ≡ on_path (skeleton_of g.tree) (marked (needed (skeleton_of g.tree) g.proof)) 0 → length marks < 2 ^ 32
few_marks s g marks w m =
    let k = w.skeleton in
    let a = ap length m in
    let b = length-on_path (skeleton_of g.tree) (marked (needed (skeleton_of g.tree) g.proof)) 0 in
    let f = k.few in
    omega arith

pub names_at_hand : (s : Sort) (g : WonGame) (marks : List Bool) (new : List ℕ) → IsWon s g → marks ≡ on_path (skeleton_of g.tree) (marked (needed (skeleton_of g.tree) g.proof)) 0 → new ≡ numbers 0 marks → AllByRecursion (StepHasNames new) g.proof
names_at_hand s g marks new w m n =
    subst (λ (ns : List ℕ). AllByRecursion (StepHasNames ns) g.proof) (sym (n ∙ ap (numbers 0) m)) (won_has_names s g w)

pub left_is : (s : Sort) (g : WonGame) (t left : Tree) (chosen : List Bool) (o : Option Tree) → t ≡ g.tree → chosen ≡ needed (skeleton_of g.tree) g.proof → IsPart o (skeleton_of t) (marked chosen) 0 → o ≡ Some left → skeleton_of left ≡ trimmed_tree (skeleton_of g.tree) g.proof
left_is s g t left chosen o e c p q =
    (subst (λ (x : Option Tree). IsPart x (skeleton_of t) (marked chosen) 0) q p).1
    ∙ ap₂ (λ (x : Tree) (bs : List Bool). prune (skeleton_of x) (marked bs) 0) e c

pub never_none : (s : Sort) (g : WonGame) (t : Tree) (chosen : List Bool) (o : Option Tree) → IsWon s g → t ≡ g.tree → chosen ≡ needed (skeleton_of g.tree) g.proof → IsPart o (skeleton_of t) (marked chosen) 0 → o ≡ None → ⊥
never_none s g t chosen o w e c p q =
    let a : has_path (skeleton_of t) (marked chosen) 0 ≡ false = subst (λ (x : Option Tree). IsPart x (skeleton_of t) (marked chosen) 0) q p in
    let b = ap₂ (λ (x : Tree) (bs : List Bool). has_path (skeleton_of x) (marked bs) 0) e c in
    let z : true ≡ false = sym (b ∙ won_has_path s g w) ∙ a in
    absurd (cc)

pub lines_are : (g : WonGame) (chosen marks : List Bool) (ps ns : List ℕ) (given ls : List Step) → chosen ≡ needed (skeleton_of g.tree) g.proof → marks ≡ on_path (skeleton_of g.tree) (marked (needed (skeleton_of g.tree) g.proof)) 0 → ps ≡ numbers 0 chosen → ns ≡ numbers 0 marks → given ≡ g.proof → ls ≡ rename_steps ps ns given → ls ≡ trimmed_steps (skeleton_of g.tree) g.proof
lines_are g chosen marks ps ns given ls c m p n e l =
    l ∙ ap₂ (λ (xs ys : List ℕ). rename_steps xs ys given) (p ∙ ap (numbers 0) c) (n ∙ ap (numbers 0) m)
    ∙ ap (rename_steps (numbers 0 (needed (skeleton_of g.tree) g.proof)) (node_numbers (skeleton_of g.tree) (needed (skeleton_of g.tree) g.proof))) e
