-- A won game can be written, and what is written is accepted.
use Rattle.std.specs.Prelude.{ℕ, zero, suc, ◌+◌, ◌≤◌, ◌≡◌, ◌≢◌, Bool, true, false, List, [], ◌∷◌, ◌++◌, length, map}
use Rattle.std.specs.List.{AllByRecursion}
use Rattle.std.proofs.Common.{arith, ap, ◌∙◌, sym, subst, refl}
use Rattle.lin_term.specs.declared.Sort.{Sort}
use Rattle.lin_term.specs.Form.{cap}
use Rattle.lin_term.specs.Move.{Move}
use Rattle.dom_core.specs.declared.Quant.{Quant}
use Rattle.dom_core.specs.declared.Side.{Side}
use Rattle.dom_core.specs.Game.{Problem}
use Rattle.dom_core.specs.Problem.{problem_of}
use Rattle.dom_core.specs.Sides.{problem_for}
use Rattle.dom_core.specs.declared.Quant.TheVariants.{Exists, Forall}
use Rattle.game_tree.specs.declared.Tree.{Tree, out-Tree, roll-Tree, roll-out-Tree}
use Rattle.game_tree.specs.declared.Tree.TheVariants as trees
use Rattle.game_tree.specs.declared.Tree.TheOpen.{Tree-F}
use Rattle.game_tree.specs.declared.Branch.{Branch}
use Rattle.game_tree.specs.Skeleton.{Skeleton, end, theirs, mine, Branches, no_more, branch, nodes, branch_nodes, IsNew, IsSomeBranch, EachFollows}
use Rattle.game_tree.specs.Skeleton as skeleton
use Rattle.game_tree.specs.View.{skeleton_of, branches_of}
use Rattle.game_tree.proofs.Views.{seen_end, seen_theirs, seen_mine, seen_branches}
use Rattle.cube_rules.specs.declared.Step.{Step}
use Rattle.cube_rules.specs.declared.Step.TheVariants.{Path, Def, Part, Cases, Sum, Split, Cube, Least, Learn, False}
use Rattle.cube_rules.specs.Limits.{IsCount}
use Rattle.cube_rules.specs.Lines.{parts}
use Rattle.proof_rules.specs.Won.{WonGame, IsWon}
use Rattle.proof_rules.specs.Writable.{AreSteps, ArePreorders}
use Rattle.strat_text.specs.declared.Section.TheVariants.{Claimed}
use Rattle.strat_text.specs.Sections.{HasLine}
use Rattle.strat_text.specs.Spelling.{AreProofs, IsProof, IsMoveLine, Differ, FollowsTurns}
use Rattle.strat_check.specs.Section.{is_mine, turns_of}
use Rattle.strat_check.specs.Accepted.{EachKept, EachBranchKept, IsBorneOut}
use Rattle.strat_section.specs.Claim.{claim_of}

-- ---- the turns

pub turns_each : (qs : List Quant) → map is_mine qs ≡ turns_of qs
turns_each [] = refl
turns_each (q ∷ qs) = ap (λ (ts : List Bool). is_mine q ∷ ts) (turns_each qs)

pub turns_length : (qs : List Quant) → length (turns_of qs) ≡ length qs
turns_length [] = refl
turns_length (q ∷ qs) = ap suc (turns_length qs)

-- ---- the lines

-- lines within their limits that are subproofs in preorder
pub are_proofs : (n : ℕ) (xs : List Step) → AreSteps xs → ArePreorders n xs → AreProofs n xs
are_proofs zero [] w p = tt
are_proofs zero (x ∷ xs) w p = absurd p
are_proofs (suc n) [] w p = absurd p
are_proofs (suc n) (x ∷ xs) w p = (w.0, are_proofs (n + parts x) xs w.1 p)

-- version 2 has every line
has_line : (x : Step) → HasLine 2 x
has_line (Path k) = refl
has_line (Def v i) = refl
has_line (Part f i) = refl
has_line (Cases f n) = refl
has_line (Sum p f q h g) = refl
has_line (Split l) = refl
has_line (Cube fs) = refl
has_line (Least v n) = refl
has_line (Learn ls) = refl
has_line (False f) = refl

pub have_lines : (xs : List Step) → AllByRecursion (HasLine 2) xs
have_lines [] = tt
have_lines (x ∷ xs) = (has_line x, have_lines xs)

-- ---- the tree

mutual
  -- each move of a tree that follows a prefix is kept
  pub each_kept : (S : Skeleton) (s : Sort) (qs : List Quant) (k : ℕ) → skeleton.Follows S s qs k → EachKept S s
  each_kept end s qs k f = tt
  each_kept (theirs t) s [] k f = absurd f
  each_kept (theirs t) s (Exists ∷ qs) k f = absurd f
  each_kept (theirs t) s (Forall ∷ qs) k f = each_kept t s qs (suc k) f
  each_kept (mine bs) s [] k f = absurd f
  each_kept (mine bs) s (Forall ∷ qs) k f = absurd f
  each_kept (mine bs) s (Exists ∷ qs) k f = branches_kept bs s qs k f.1

  branches_kept : (bs : Branches) (s : Sort) (qs : List Quant) (k : ℕ) → EachFollows bs s qs k → EachBranchKept bs s
  branches_kept no_more s qs k f = tt
  branches_kept (branch m t bs) s qs k f = (f.0.kept, each_kept t s qs (suc k) f.2, branches_kept bs s qs k f.3)

all_map : (P Q : Move → Type 0) → ((m : Move) → P m → Q m) → (ms : List Move) → AllByRecursion P ms → AllByRecursion Q ms
all_map P Q w [] h = tt
all_map P Q w (m ∷ ms) h = (w m h.0, all_map P Q w ms h.1)

all_push : (P : Move → Type 0) (ms : List Move) (m : Move) → AllByRecursion P ms → P m → AllByRecursion P (ms ++ m ∷ [])
all_push P [] m h p = (p, tt)
all_push P (n ∷ ms) m h p = (h.0, all_push P ms m h.1 p)

-- moves that are new to all behind them differ
differ : (bs : List Branch) (s : Sort) (qs : List Quant) (k : ℕ) (before : List Move) → AllByRecursion (λ (m : Move). IsNew m (branches_of bs)) before → EachFollows (branches_of bs) s qs k → Differ before bs
differ [] s qs k before h f = tt
differ (b ∷ bs) s qs k before h f =
    let v = seen_branches b bs in
    let f' = subst (λ (x : Branches). EachFollows x s qs k) v f in
    let each : (m : Move) → IsNew m (branches_of (b ∷ bs)) → IsNew m (branch b.term (skeleton_of b.rest) (branches_of bs)) = (λ m n. subst (λ (x : Branches). IsNew m x) v n) in (
      all_map (λ (m : Move). IsNew m (branches_of (b ∷ bs))) (λ (m : Move). m ≢ b.term) (λ m n. (each m n).0) before h,
      differ bs s qs k (before ++ b.term ∷ []) (all_push (λ (m : Move). IsNew m (branches_of bs)) before b.term (all_map (λ (m : Move). IsNew m (branches_of (b ∷ bs))) (λ (m : Move). IsNew m (branches_of bs)) (λ m n. (each m n).1) before h) f'.1) f'.3,
    )

some_lines : (bs : List Branch) → IsSomeBranch (branches_of bs) → branch_nodes (branches_of bs) ≤ cap → IsCount 1 (length bs)
some_lines [] h l = absurd h
some_lines (b ∷ bs) h l = let c = as_many (b ∷ bs) in (omega arith, omega (arith, c, l))
  where
    as_many : (cs : List Branch) → length cs ≤ branch_nodes (branches_of cs)
    as_many [] = omega arith
    as_many (c ∷ cs) = let i = as_many cs in let v = ap branch_nodes (seen_branches c cs) in omega (arith, i, v)

-- the branches of a node, where this is known of the trees below it
each_line : (ts : List Bool) (qs : List Quant) (s : Sort) (k : ℕ) → ((t : Tree) → skeleton.Follows (skeleton_of t) s qs (suc k) → nodes (skeleton_of t) ≤ cap → FollowsTurns ts (suc k) t) →
    (bs : List Branch) → EachFollows (branches_of bs) s qs k → branch_nodes (branches_of bs) ≤ cap → AllByRecursion (λ (b : Branch). IsMoveLine k b.term × FollowsTurns ts (k + 1) b.rest) bs
each_line ts qs s k below [] f l = tt
each_line ts qs s k below (b ∷ bs) f l =
    let v = seen_branches b bs in
    let f' = subst (λ (x : Branches). EachFollows x s qs k) v f in
    let l' = subst (λ (x : Branches). branch_nodes x ≤ cap) v l in
    let few : nodes (skeleton_of b.rest) ≤ cap = omega (arith, l') in
    let rest : branch_nodes (branches_of bs) ≤ cap = omega (arith, l') in (
      ((f'.0.written, f'.0.earlier), subst (λ (n : ℕ). FollowsTurns ts n b.rest) (let o : suc k ≡ k + 1 = omega arith in o) (below b.rest f'.2 few)),
      each_line ts qs s k below bs f'.3 rest,
    )

tree_cases : (P : Type 0) (t : Tree) → (t ≡ trees.End → P) → ((r : Tree) → t ≡ trees.Theirs r → P) → ((bs : List Branch) → t ≡ trees.Mine bs → P) → P
tree_cases P t f g h = by (out-Tree t) (sym (roll-out-Tree t))
  where
    by : (k : Tree-F Tree Branch) → t ≡ roll-Tree k → P
    by Tree-F.End e = f (e ∙ trees.rolls-End)
    by (Tree-F.Theirs r) e = g r (e ∙ trees.rolls-Theirs r)
    by (Tree-F.Mine bs) e = h bs (e ∙ trees.rolls-Mine bs)

-- a tree that follows the prefix follows its turns
pub follows_turns : (qs : List Quant) (s : Sort) (k : ℕ) (t : Tree) → skeleton.Follows (skeleton_of t) s qs k → nodes (skeleton_of t) ≤ cap → FollowsTurns (turns_of qs) k t
follows_turns [] s k t f l =
    tree_cases (t ≡ trees.End) t (λ e. e)
    (λ r e. absurd (subst (λ (x : Skeleton). skeleton.Follows x s [] k) (ap skeleton_of e ∙ seen_theirs r) f))
    (λ bs e. absurd (subst (λ (x : Skeleton). skeleton.Follows x s [] k) (ap skeleton_of e ∙ seen_mine bs) f))
follows_turns (Forall ∷ qs) s k t f l =
    tree_cases (FollowsTurns (false ∷ turns_of qs) k t) t
    (λ e. absurd (subst (λ (x : Skeleton). skeleton.Follows x s (Forall ∷ qs) k) (ap skeleton_of e ∙ seen_end) f))
    (λ r e.
    let v = ap skeleton_of e ∙ seen_theirs r in
    let l' = subst (λ (x : Skeleton). nodes x ≤ cap) v l in
    let few : nodes (skeleton_of r) ≤ cap = omega (arith, l') in
    let below = follows_turns qs s (suc k) r (subst (λ (x : Skeleton). skeleton.Follows x s (Forall ∷ qs) k) v f) few in
    (r, e, subst (λ (n : ℕ). FollowsTurns (turns_of qs) n r) (let o : suc k ≡ k + 1 = omega arith in o) below))
    (λ bs e. absurd (subst (λ (x : Skeleton). skeleton.Follows x s (Forall ∷ qs) k) (ap skeleton_of e ∙ seen_mine bs) f))
follows_turns (Exists ∷ qs) s k t f l =
    tree_cases (FollowsTurns (true ∷ turns_of qs) k t) t
    (λ e. absurd (subst (λ (x : Skeleton). skeleton.Follows x s (Exists ∷ qs) k) (ap skeleton_of e ∙ seen_end) f))
    (λ r e. absurd (subst (λ (x : Skeleton). skeleton.Follows x s (Exists ∷ qs) k) (ap skeleton_of e ∙ seen_theirs r) f))
    (λ bs e.
    let v = ap skeleton_of e ∙ seen_mine bs in
    let f' = subst (λ (x : Skeleton). skeleton.Follows x s (Exists ∷ qs) k) v f in
    let l' : branch_nodes (branches_of bs) ≤ cap = subst (λ (x : Skeleton). nodes x ≤ cap) v l in
    (bs, e, some_lines bs f'.0 l', differ bs s qs k [] tt f'.1, each_line (turns_of qs) qs s k (λ u g m. follows_turns qs s (suc k) u g m) bs f'.1 l'))

-- ---- the section

-- what is copied of a won game is a section that can be written
pub is_written : (s : Sort) (g : WonGame) (ts : List Bool) (t : Tree) (p : List Step) → ts ≡ turns_of g.problem.prefix → t ≡ g.tree → p ≡ g.proof → IsWon s g → length g.problem.prefix ≤ 1024
    → (length ts ≤ 1024) × FollowsTurns ts 0 t × IsProof p
is_written s g ts t p e f h w l =
    let few : nodes (skeleton_of g.tree) ≤ cap = omega (arith, w.skeleton.few) in
    let short : length (turns_of g.problem.prefix) ≤ 1024 = subst (λ (n : ℕ). n ≤ 1024) (sym (turns_length g.problem.prefix)) l in
    let along = follows_turns g.problem.prefix s 0 g.tree w.skeleton.follows few in (
      subst (λ (us : List Bool). length us ≤ 1024) (sym e) short,
      subst (λ (us : List Bool). FollowsTurns us 0 t) (sym e) (subst (λ (u : Tree). FollowsTurns (turns_of g.problem.prefix) 0 u) (sym f) along),
      subst IsProof (sym h) (are_proofs 1 g.proof w.writable.steps w.writable.tree, w.writable.count),
    )

pub is_borne_out : (s : Sort) (side : Side) (g : WonGame) (ts : List Bool) (t : Tree) (p : List Step) → ts ≡ turns_of g.problem.prefix → t ≡ g.tree → p ≡ g.proof → IsWon s g
    → (P : Problem) → problem_for s side P ≡ problem_of g.problem → (side ≡ side) × IsBorneOut s (problem_for s side P) ts (skeleton_of t) p
is_borne_out s side g ts t p e f h w P q = (
  refl,
  subst (λ (Q : Problem). IsBorneOut s Q ts (skeleton_of t) p) (sym q)
      (subst (λ (us : List Bool). IsBorneOut s (problem_of g.problem) us (skeleton_of t) p) (sym e)
      (subst (λ (u : Tree). IsBorneOut s (problem_of g.problem) (turns_of g.problem.prefix) (skeleton_of u) p) (sym f)
      (subst (λ (r : List Step). IsBorneOut s (problem_of g.problem) (turns_of g.problem.prefix) (skeleton_of g.tree) r) (sym h)
      (record { turns_fit = refl; few = w.skeleton.few; kept = each_kept (skeleton_of g.tree) s g.problem.prefix 0 w.skeleton.follows; refutes = w.refutes })))),
)

pub is_claim : (side : Side) (g : WonGame) (ts : List Bool) (t : Tree) (p : List Step) → ts ≡ turns_of g.problem.prefix → t ≡ g.tree → p ≡ g.proof → Claimed side ts t p 0 ≡ claim_of side g
is_claim side g ts t p e f h = cc
