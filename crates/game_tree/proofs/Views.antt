-- What a tree is seen as, by its cases.
use Rattle.std.specs.Prelude.{ℕ, zero, suc, ◌+◌, ◌<◌, ◌≤◌, ◌≡◌, List, [], ◌∷◌, drop, get_or, length}
use Rattle.std.proofs.Common.{arith, ap, ◌∙◌, sym}
use Rattle.std.proofs.lemmas.List.{at_drop_more, at_drop_all}
use Rattle.lin_term.specs.Move.{Move}
use Rattle.game_tree.specs.declared.tree.Tree.{Tree, fold-roll-Tree}
use Rattle.game_tree.specs.declared.tree.Tree.TheVariants as trees
use Rattle.game_tree.specs.declared.tree.Tree.TheOpen.{Tree-F}
use Rattle.game_tree.specs.declared.tree.Branch.{Branch, fold_out-Branch}
use Rattle.game_tree.specs.Skeleton.{Skeleton, end, theirs, mine, no_more, branch, branch_nodes}
use Rattle.game_tree.specs.View.{skeleton_of, branches_of, branch_of, tree_step, branch_step}

pub seen_end : skeleton_of trees.End ≡ end
seen_end = ap skeleton_of (sym trees.rolls-End) ∙ fold-roll-Tree Skeleton (Move × Skeleton) tree_step branch_step Tree-F.End

pub seen_theirs : (t : Tree) → skeleton_of (trees.Theirs t) ≡ theirs (skeleton_of t)
seen_theirs t = ap skeleton_of (sym (trees.rolls-Theirs t)) ∙ fold-roll-Tree Skeleton (Move × Skeleton) tree_step branch_step (Tree-F.Theirs t)

pub seen_mine : (bs : List Branch) → skeleton_of (trees.Mine bs) ≡ mine (branches_of bs)
seen_mine bs = ap skeleton_of (sym (trees.rolls-Mine bs)) ∙ fold-roll-Tree Skeleton (Move × Skeleton) tree_step branch_step (Tree-F.Mine bs)

pub branch_is : (b : Branch) → branch_of b ≡ (b.term, skeleton_of b.rest)
branch_is b = fold_out-Branch Skeleton (Move × Skeleton) tree_step branch_step b

pub seen_branches : (b : Branch) (bs : List Branch) → branches_of (b ∷ bs) ≡ branch b.term (skeleton_of b.rest) (branches_of bs)
seen_branches b bs = ap (λ (x : Move × Skeleton). branch x.0 x.1 (branches_of bs)) (branch_is b)

-- the first of the branches that are left
pub branches_at : (bs : List Branch) (i : ℕ) (b : Branch) → i < length bs → b ≡ get_or bs i b → branches_of (drop i bs) ≡ branch b.term (skeleton_of b.rest) (branches_of (drop (i + 1) bs))
branches_at bs i b l e =
    at_drop_more branches_of bs i b l ∙ ap (λ (x : Branch). branch (branch_of x).0 (branch_of x).1 (branches_of (drop (i + 1) bs))) (sym e)
    ∙ ap (λ (x : Move × Skeleton). branch x.0 x.1 (branches_of (drop (i + 1) bs))) (branch_is b)

pub branches_done : (bs : List Branch) (i : ℕ) → length bs ≤ i → branches_of (drop i bs) ≡ no_more
branches_done bs i h = at_drop_all branches_of bs i h

pub fewer_left : (bs : List Branch) (i : ℕ) → branch_nodes (branches_of (drop i bs)) ≤ branch_nodes (branches_of bs)
fewer_left [] zero = omega arith
fewer_left [] (suc i) = omega arith
fewer_left (b ∷ bs) zero = omega arith
fewer_left (b ∷ bs) (suc i) = let h = fewer_left bs i in omega arith
