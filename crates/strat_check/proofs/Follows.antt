-- A tree that follows turns which fit the prefix, with moves that are kept, is a skeleton of the problem.
use Rattle.std.specs.Prelude.{ℕ, suc, ◌+◌, ◌≡◌, ◌≢◌, Bool, true, false, List, [], ◌∷◌, ◌++◌, length}
use Rattle.std.specs.List.{AllByRecursion}
use Rattle.std.proofs.Common.{arith, ap, ◌∙◌, sym, subst, append_assoc}
use Rattle.lin_term.specs.declared.Sort.{Sort}
use Rattle.lin_term.specs.Move.{Move}
use Rattle.dom_core.specs.declared.Quant.{Quant}
use Rattle.dom_core.specs.declared.Quant.TheVariants.{Exists, Forall}
use Rattle.game_tree.specs.declared.Tree.{Tree}
use Rattle.game_tree.specs.declared.Branch.{Branch}
use Rattle.game_tree.specs.Skeleton.{Skeleton, Branches, IsNew, IsSomeBranch}
use Rattle.game_tree.specs.Skeleton as skeleton
use Rattle.game_tree.specs.View.{skeleton_of, branches_of}
use Rattle.game_tree.proofs.Views.{seen_end, seen_theirs, seen_mine, seen_branches}
use Rattle.cube_rules.specs.Limits.{IsCount}
use Rattle.strat_text.specs.Spelling.{IsMoveLine, Differ}
use Rattle.strat_text.specs.Spelling as spelling
use Rattle.strat_check.specs.Section.{turns_of}
use Rattle.strat_check.specs.Accepted.{EachKept, EachBranchKept}

-- a member of a list has what all have
all_at : (P : Move → Type 0) (xs ys : List Move) (m : Move) → AllByRecursion P (xs ++ m ∷ ys) → P m
all_at P [] ys m h = h.0
all_at P (x ∷ xs) ys m h = all_at P xs ys m h.1

-- a move before them is none of them
is_new : (bs : List Branch) (xs ys : List Move) (m : Move) → Differ (xs ++ m ∷ ys) bs → IsNew m (branches_of bs)
is_new [] xs ys m h = tt
is_new (b ∷ bs) xs ys m h =
    subst (λ (x : Branches). IsNew m x) (sym (seen_branches b bs)) (
      all_at (λ (n : Move). n ≢ b.term) xs ys m h.0,
      is_new bs xs (ys ++ b.term ∷ []) m (subst (λ (l : List Move). Differ l bs) (append_assoc xs (m ∷ ys) (b.term ∷ [])) h.1),
    )

some_branch : (bs : List Branch) → IsCount 1 (length bs) → IsSomeBranch (branches_of bs)
some_branch [] h = absurd (omega (arith, h.0))
some_branch (b ∷ bs) h = subst IsSomeBranch (sym (seen_branches b bs)) tt

abbrev EachBelow : List Bool → ℕ → List Branch → Type 0
EachBelow ts k bs = AllByRecursion (λ (b : Branch). IsMoveLine k b.term × spelling.FollowsTurns ts (k + 1) b.rest) bs

-- the branches of a node, where this is known of the trees below it
each_follows : (ts : List Bool) (qs : List Quant) (s : Sort) (k : ℕ) → ((t : Tree) → spelling.FollowsTurns ts (suc k) t → EachKept (skeleton_of t) s → skeleton.Follows (skeleton_of t) s qs (suc k)) →
    (bs : List Branch) (before : List Move) → Differ before bs → EachBelow ts k bs → EachBranchKept (branches_of bs) s → skeleton.EachFollows (branches_of bs) s qs k
each_follows ts qs s k below [] before d f h = tt
each_follows ts qs s k below (b ∷ bs) before d f h =
    let h' = subst (λ (x : Branches). EachBranchKept x s) (seen_branches b bs) h in
    let f' = subst (λ (n : ℕ). spelling.FollowsTurns ts n b.rest) (let o : k + 1 ≡ suc k = omega arith in o) f.0.1 in
    subst (λ (x : Branches). skeleton.EachFollows x s qs k) (sym (seen_branches b bs)) (
      record { written = f.0.0.0; earlier = f.0.0.1; kept = h'.0 },
      is_new bs before [] b.term d.1,
      below b.rest f' h'.1,
      each_follows ts qs s k below bs (before ++ b.term ∷ []) d.1 f.1 h'.2,
    )

pub follows : (ts : List Bool) (qs : List Quant) (s : Sort) (k : ℕ) (t : Tree) → ts ≡ turns_of qs → spelling.FollowsTurns ts k t → EachKept (skeleton_of t) s → skeleton.Follows (skeleton_of t) s qs k
follows [] [] s k t e f h = subst (λ (x : Skeleton). skeleton.Follows x s [] k) (sym (ap skeleton_of f ∙ seen_end)) tt
follows [] (q ∷ qs) s k t e f h = absurd (cc)
follows (false ∷ ts) [] s k t e f h = absurd (cc)
follows (false ∷ ts) (Exists ∷ qs) s k t e f h = absurd (cc)
follows (false ∷ ts) (Forall ∷ qs) s k t e f h =
    let v = ap skeleton_of f.1 ∙ seen_theirs f.0 in
    let h' = subst (λ (x : Skeleton). EachKept x s) v h in
    let e' : ts ≡ turns_of qs = cc in
    let f' = subst (λ (n : ℕ). spelling.FollowsTurns ts n f.0) (let o : k + 1 ≡ suc k = omega arith in o) f.2 in
    subst (λ (x : Skeleton). skeleton.Follows x s (Forall ∷ qs) k) (sym v) (follows ts qs s (suc k) f.0 e' f' h')
follows (true ∷ ts) [] s k t e f h = absurd (cc)
follows (true ∷ ts) (Forall ∷ qs) s k t e f h = absurd (cc)
follows (true ∷ ts) (Exists ∷ qs) s k t e f h =
    let v = ap skeleton_of f.1 ∙ seen_mine f.0 in
    let h' = subst (λ (x : Skeleton). EachKept x s) v h in
    let e' : ts ≡ turns_of qs = cc in
    subst (λ (x : Skeleton). skeleton.Follows x s (Exists ∷ qs) k) (sym v)
    (some_branch f.0 f.2, each_follows ts qs s k (λ u g j. follows ts qs s (suc k) u e' g j) f.0 [] f.3 f.4 h')
