-- The text of a tree, level by level.
use Rattle.std.specs.Prelude.{ℕ, ◌≡◌, List, [], ◌∷◌, ◌++◌, length, codes}
use Rattle.std.specs.List.{flat_map}
use Rattle.std.proofs.Common.{arith, ap, ◌∙◌, sym, refl, append_assoc}
use Rattle.game_tree.specs.View.{skeleton_of, branches_of}
use Rattle.game_tree.specs.declared.Tree.{Tree}
use Rattle.game_tree.specs.declared.Tree.TheVariants as trees
use Rattle.game_tree.specs.declared.Branch.{Branch}
use Rattle.game_tree.proofs.Views.{seen_end, seen_theirs, seen_mine, seen_branches}
use Rattle.strat_words.specs.Spelled.{natural}
use Rattle.strat_text.specs.Written.{move_words}
use Rattle.strat_text.specs.TreeText.{text_line, move_count, tree_text, branch_text}
use Rattle.solve_texts.specs.Pieces.{branch_lines}

pub text_end : tree_text (skeleton_of trees.End) ≡ []
text_end = ap tree_text seen_end

pub text_theirs : (t : Tree) → tree_text (skeleton_of (trees.Theirs t)) ≡ text_line (codes "t") ++ tree_text (skeleton_of t)
text_theirs t = ap tree_text (seen_theirs t)

counted : (bs : List Branch) → move_count (branches_of bs) ≡ length bs
counted [] = refl
counted (b ∷ bs) = let h = counted bs in omega arith

pub text_mine : (bs : List Branch) → tree_text (skeleton_of (trees.Mine bs)) ≡ text_line (codes "o" ++ natural (length bs)) ++ branch_text (branches_of bs)
text_mine bs = ap tree_text (seen_mine bs) ∙ ap (λ (n : ℕ). text_line (codes "o" ++ natural n) ++ branch_text (branches_of bs)) (counted bs)

-- the branches one after the other
pub branch_texts : (bs : List Branch) → branch_text (branches_of bs) ≡ flat_map branch_lines bs
branch_texts [] = refl
branch_texts (b ∷ bs) =
    let line : List ℕ = text_line (move_words b.term) in
    let below : List ℕ = tree_text (skeleton_of b.rest) in
    ap branch_text (seen_branches b bs)
    ∙ ap (λ (y : List ℕ). line ++ (below ++ y)) (branch_texts bs)
    ∙ sym (append_assoc line below (flat_map branch_lines bs))

-- what is put out of a node of moves
pub mine_written : (t : Tree) (bs : List Branch) (n : ℕ) (out a b c d : List ℕ) → t ≡ trees.Mine bs → n ≡ length bs → a ≡ out ++ codes "o" → b ≡ a ++ natural n → c ≡ b ++ 10 ∷ [] → d ≡ c ++ branch_text (branches_of bs) → d ≡ out ++ tree_text (skeleton_of t)
mine_written t bs n out a b c d e l p q r s =
    let below : List ℕ = branch_text (branches_of bs) in
    s
    ∙ ap (λ (y : List ℕ). y ++ below) (r ∙ ap (λ (y : List ℕ). y ++ 10 ∷ []) (q ∙ ap (λ (y : List ℕ). y ++ natural n) p ∙ append_assoc out (codes "o") (natural n)) ∙ append_assoc out (codes "o" ++ natural n) (10 ∷ []))
    ∙ append_assoc out (text_line (codes "o" ++ natural n)) below
    ∙ ap (λ (m : ℕ). out ++ (text_line (codes "o" ++ natural m) ++ below)) l
    ∙ ap (λ (y : List ℕ). out ++ y) (sym (ap (λ (x : Tree). tree_text (skeleton_of x)) e ∙ text_mine bs))
