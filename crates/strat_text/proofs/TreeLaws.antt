-- What is written of a tree that follows the turns is what is written of its skeleton; each skeleton has a tree.
use Rattle.std.specs.Prelude.{ℕ, ◌+◌, ◌≡◌, Bool, true, false, List, [], ◌∷◌, ◌++◌, map, length, codes}
use Rattle.std.specs.List.{concat, AllByRecursion}
use Rattle.std.proofs.Common.{arith, ap, ◌∙◌, sym, refl, append_assoc}
use Rattle.lin_term.specs.Move.{Move}
use Rattle.game_tree.specs.Skeleton.{Skeleton, end, theirs, mine, Branches, no_more, branch}
use Rattle.game_tree.specs.View.{skeleton_of, branch_of, branches_from, tree_step, branch_step}
use Rattle.game_tree.specs.declared.Tree.{Tree, fold-roll-Tree}
use Rattle.game_tree.specs.declared.Tree.TheVariants as trees
use Rattle.game_tree.specs.declared.Tree.TheVariants.{rolls-End, rolls-Theirs, rolls-Mine}
use Rattle.game_tree.specs.declared.Tree.TheOpen.{Tree-F}
use Rattle.game_tree.specs.declared.Branch.{Branch, fold-roll-Branch, rolls-Branch'}
use Rattle.strat_text.specs.Written as spelled
use Rattle.strat_text.specs.Spelling.{FollowsTurns, IsMoveLine}
use Rattle.strat_text.specs.TreeText.{text_line, move_count, tree_text, branch_text, tree_of, list_of}
use Rattle.strat_text.proofs.Trees.{spelled_end, spelled_theirs, spelled_mine, spelled_branch}
use Rattle.game_tree.proofs.Views.{seen_end, seen_theirs, seen_mine}

seen_branch : (m : Move) (t : Tree) → branch_of (record { term = m; rest = t }) ≡ (m, skeleton_of t)
seen_branch m t = ap branch_of (sym (rolls-Branch' (record { term = m; rest = t }))) ∙ fold-roll-Branch Skeleton (Move × Skeleton) tree_step branch_step (record { term = m; rest = t })

mutual
  -- the tree of a skeleton stands for it
  pub skeleton_is : (S : Skeleton) → skeleton_of (tree_of S) ≡ S
  skeleton_is end = seen_end
  skeleton_is (theirs S) = seen_theirs (tree_of S) ∙ ap theirs (skeleton_is S)
  skeleton_is (mine bs) = seen_mine (list_of bs) ∙ ap mine (branches_are bs)

  branches_are : (bs : Branches) → branches_from (map branch_of (list_of bs)) ≡ bs
  branches_are no_more = refl
  branches_are (branch m S bs) =
      ap (λ (b : Move × Skeleton). branch b.0 b.1 (branches_from (map branch_of (list_of bs)))) (seen_branch m (tree_of S))
      ∙ ap (λ (T : Skeleton). branch m T (branches_from (map branch_of (list_of bs)))) (skeleton_is S)
      ∙ ap (λ (cs : Branches). branch m S cs) (branches_are bs)

line_then : (text rest : List ℕ) → text ++ (10 ∷ rest) ≡ text_line text ++ rest
line_then text rest = sym (append_assoc text (10 ∷ []) rest)

counted : (bs : Branches) → length (map spelled.branch (list_of bs)) ≡ move_count bs
counted no_more = refl
counted (branch m S bs) = let h = counted bs in omega arith

mutual
  -- what is written of a skeleton is what is written of its tree
  pub text_is : (S : Skeleton) → spelled.tree (tree_of S) ≡ tree_text S
  text_is end = spelled_end
  text_is (theirs S) = spelled_theirs (tree_of S) ∙ ap (λ (y : List ℕ). codes "t" ++ (10 ∷ y)) (text_is S)
  text_is (mine bs) =
      spelled_mine (list_of bs)
      ∙ ap (λ (n : ℕ). codes "o" ++ (spelled.natural n ++ (10 ∷ concat (map spelled.branch (list_of bs))))) (counted bs)
      ∙ ap (λ (y : List ℕ). codes "o" ++ (spelled.natural (move_count bs) ++ (10 ∷ y))) (texts_are bs)
      ∙ ap (λ (y : List ℕ). codes "o" ++ y) (line_then (spelled.natural (move_count bs)) (branch_text bs))

  texts_are : (bs : Branches) → concat (map spelled.branch (list_of bs)) ≡ branch_text bs
  texts_are no_more = refl
  texts_are (branch m S bs) =
      ap (λ (y : List ℕ). y ++ concat (map spelled.branch (list_of bs))) (spelled_branch m (tree_of S))
      ∙ append_assoc (spelled.move_words m) (10 ∷ spelled.tree (tree_of S)) (concat (map spelled.branch (list_of bs)))
      ∙ ap (λ (y : List ℕ). spelled.move_words m ++ (10 ∷ (y ++ concat (map spelled.branch (list_of bs))))) (text_is S)
      ∙ ap (λ (y : List ℕ). spelled.move_words m ++ (10 ∷ (tree_text S ++ y))) (texts_are bs)
      ∙ line_then (spelled.move_words m) (tree_text S ++ branch_text bs)

as_many : (bs : List Branch) → length (map spelled.branch bs) ≡ move_count (branches_from (map branch_of bs))
as_many [] = refl
as_many (b ∷ bs) = let h = as_many bs in omega arith

-- of branches with this text
each_text : (Ok : Branch → Type 0) (bs : List Branch) → ((b : Branch) → Ok b → spelled.tree b.rest ≡ tree_text (skeleton_of b.rest)) → AllByRecursion Ok bs → concat (map spelled.branch bs) ≡ branch_text (branches_from (map branch_of bs))
each_text Ok [] k h = refl
each_text Ok (b ∷ bs) k h =
    let behind : List ℕ = concat (map spelled.branch bs) in
    ap (λ (y : List ℕ). y ++ behind) (spelled_branch b.term b.rest)
    ∙ append_assoc (spelled.move_words b.term) (10 ∷ spelled.tree b.rest) behind
    ∙ ap (λ (y : List ℕ). spelled.move_words b.term ++ (10 ∷ (y ++ behind))) (k b h.0)
    ∙ ap (λ (y : List ℕ). spelled.move_words b.term ++ (10 ∷ (tree_text (skeleton_of b.rest) ++ y))) (each_text Ok bs k h.1)
    ∙ line_then (spelled.move_words b.term) (tree_text (skeleton_of b.rest) ++ branch_text (branches_from (map branch_of bs)))
    ∙ sym (ap (λ (x : Move × Skeleton). text_line (spelled.move_words x.0) ++ (tree_text x.1 ++ branch_text (branches_from (map branch_of bs)))) (seen_branch b.term b.rest))

-- the text of a tree that follows the turns is that of its skeleton
pub tree_has_text : (ts : List Bool) (j : ℕ) (t : Tree) → FollowsTurns ts j t → spelled.tree t ≡ tree_text (skeleton_of t)
tree_has_text [] j t f =
    ap spelled.tree f ∙ spelled_end ∙ sym (ap tree_text (ap skeleton_of f ∙ seen_end))
tree_has_text (false ∷ ts) j t f =
    ap spelled.tree f.1 ∙ spelled_theirs f.0 ∙ ap (λ (y : List ℕ). codes "t" ++ (10 ∷ y)) (tree_has_text ts (j + 1) f.0 f.2)
    ∙ sym (ap tree_text (ap skeleton_of f.1 ∙ seen_theirs f.0))
tree_has_text (true ∷ ts) j t f =
    let bs : Branches = branches_from (map branch_of f.0) in
    ap spelled.tree f.1 ∙ spelled_mine f.0
    ∙ ap (λ (n : ℕ). codes "o" ++ (spelled.natural n ++ (10 ∷ concat (map spelled.branch f.0)))) (as_many f.0)
    ∙ ap (λ (y : List ℕ). codes "o" ++ (spelled.natural (move_count bs) ++ (10 ∷ y))) (each_text (λ b. IsMoveLine j b.term × FollowsTurns ts (j + 1) b.rest) f.0 (λ b k. tree_has_text ts (j + 1) b.rest k.1) f.4)
    ∙ ap (λ (y : List ℕ). codes "o" ++ y) (line_then (spelled.natural (move_count bs)) (branch_text bs))
    ∙ sym (ap tree_text (ap skeleton_of f.1 ∙ seen_mine f.0))
