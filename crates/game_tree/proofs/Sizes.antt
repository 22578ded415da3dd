-- A union has at most as many nodes and paths as its two trees together.
use Rattle.std.specs.Prelude.{ℕ, ◌+◌, ◌≤◌, ◌≡◌, Bool, true, false, if◌then◌else◌, Option, Some, None, List, ◌∷◌, map, length}
use Rattle.std.proofs.Common.{arith, ap, ◌∙◌, sym, subst, refl, length-append}
use Rattle.std.proofs.lemmas.List.{length-map}
use Rattle.lin_term.specs.declared.Sort.{Sort}
use Rattle.lin_term.specs.Move.{Move}
use Rattle.lin_term.specs.Same.{same_move}
use Rattle.dom_core.specs.declared.Quant.{Quant}
use Rattle.game_tree.specs.declared.tree.Tree.{Tree}
use Rattle.game_tree.specs.Skeleton.{Skeleton, end, theirs, mine, Branches, no_more, branch, nodes, branch_nodes, paths, branch_paths, Follows}
use Rattle.game_tree.specs.View.{skeleton_of}
use Rattle.game_tree.specs.Written.{WrittenSkeleton, FollowsPrefix, count_limit}
use Rattle.game_tree.specs.Leaves.{leaves, branch_leaves}
use Rattle.game_tree.specs.Union.{put_branch, with_paths, with_branches, union}
use Rattle.game_tree.proofs.Unions.{union_follows}

-- the leaves are the paths
mutual
  pub leaves_are : (S : Skeleton) → leaves S ≡ length (paths S)
  leaves_are end = refl
  leaves_are (theirs S) = leaves_are S ∙ sym (length-map (paths S) (λ (path : List (Option Move)). None ∷ path))
  leaves_are (mine bs) = branch_leaves_are bs

  branch_leaves_are : (bs : Branches) → branch_leaves bs ≡ length (branch_paths bs)
  branch_leaves_are no_more = refl
  branch_leaves_are (branch m S bs) =
      let a = leaves_are S in
      let b = branch_leaves_are bs in
      let c = length-map (paths S) (λ (path : List (Option Move)). Some m ∷ path) in
      let d = length-append (map (λ (path : List (Option Move)). Some m ∷ path) (paths S)) (branch_paths bs) in
      omega arith

put_leaves : (m : Move) (T : Skeleton) (f : Skeleton → Skeleton) (bs : Branches) → ((S : Skeleton) → leaves (f S) ≤ leaves T + leaves S) → branch_leaves (put_branch m f T bs) ≤ leaves T + branch_leaves bs
put_leaves m T f no_more k = omega arith
put_leaves m T f (branch n S bs) k = by (same_move n m) (put_leaves m T f bs k)
  where
    by : (b : Bool) → branch_leaves (put_branch m f T bs) ≤ leaves T + branch_leaves bs → branch_leaves (if b then branch n (f S) bs else branch n S (put_branch m f T bs)) ≤ leaves T + (leaves S + branch_leaves bs)
    by true h = let a = k S in omega arith
    by false h = omega arith

mutual
  more_leaves : (T S : Skeleton) → leaves (with_paths T S) ≤ leaves T + leaves S
  more_leaves end S = omega arith
  more_leaves (theirs T) (theirs S) = more_leaves T S
  more_leaves (theirs T) end = omega arith
  more_leaves (theirs T) (mine bs) = omega arith
  more_leaves (mine cs) (mine bs) = branches_leaves cs bs
  more_leaves (mine cs) end = omega arith
  more_leaves (mine cs) (theirs S) = omega arith

  branches_leaves : (cs bs : Branches) → branch_leaves (with_branches cs bs) ≤ branch_leaves cs + branch_leaves bs
  branches_leaves no_more bs = omega arith
  branches_leaves (branch m T cs) bs =
      let a = branches_leaves cs (put_branch m (λ S. with_paths T S) T bs) in
      let b = put_leaves m T (λ S. with_paths T S) bs (λ S. more_leaves T S) in
      omega arith

pub union_leaves : (S T : Skeleton) → leaves (union S T) ≤ leaves S + leaves T
union_leaves S T = let h = more_leaves T S in omega arith

put_nodes : (m : Move) (T : Skeleton) (f : Skeleton → Skeleton) (bs : Branches) → ((S : Skeleton) → nodes (f S) ≤ nodes T + nodes S) → branch_nodes (put_branch m f T bs) ≤ (1 + nodes T) + branch_nodes bs
put_nodes m T f no_more k = omega arith
put_nodes m T f (branch n S bs) k = by (same_move n m) (put_nodes m T f bs k)
  where
    by : (b : Bool) → branch_nodes (put_branch m f T bs) ≤ (1 + nodes T) + branch_nodes bs → branch_nodes (if b then branch n (f S) bs else branch n S (put_branch m f T bs)) ≤ (1 + nodes T) + ((1 + nodes S) + branch_nodes bs)
    by true h = let a = k S in omega arith
    by false h = omega arith

mutual
  more_nodes : (T S : Skeleton) → nodes (with_paths T S) ≤ nodes T + nodes S
  more_nodes end S = omega arith
  more_nodes (theirs T) (theirs S) = let h = more_nodes T S in omega arith
  more_nodes (theirs T) end = omega arith
  more_nodes (theirs T) (mine bs) = omega arith
  more_nodes (mine cs) (mine bs) = branches_nodes cs bs
  more_nodes (mine cs) end = omega arith
  more_nodes (mine cs) (theirs S) = omega arith

  branches_nodes : (cs bs : Branches) → branch_nodes (with_branches cs bs) ≤ branch_nodes cs + branch_nodes bs
  branches_nodes no_more bs = omega arith
  branches_nodes (branch m T cs) bs =
      let a = branches_nodes cs (put_branch m (λ S. with_paths T S) T bs) in
      let b = put_nodes m T (λ S. with_paths T S) bs (λ S. more_nodes T S) in
      omega arith

pub union_nodes : (S T : Skeleton) → nodes (union S T) ≤ nodes S + nodes T
union_nodes S T = let h = more_nodes T S in omega arith

-- what is written of a union follows the prefix of both
pub union_written : (s : Sort) (A B : WrittenSkeleton) (ps : List Quant) (t : Tree) → FollowsPrefix s A → FollowsPrefix s B → A.prefix ≡ B.prefix → ps ≡ A.prefix → skeleton_of t ≡ union (skeleton_of A.tree) (skeleton_of B.tree)
    → nodes (skeleton_of A.tree) + nodes (skeleton_of B.tree) ≤ count_limit → FollowsPrefix s (record { prefix = ps; tree = t })
union_written s A B ps t f g e p u n = record {
  short = subst (λ (qs : List Quant). length qs ≤ 1024) (sym p) f.short;
  follows =
      subst (λ (qs : List Quant). Follows (skeleton_of t) s qs 0) (sym p)
      (subst (λ (S : Skeleton). Follows S s A.prefix 0) (sym u)
      (union_follows (skeleton_of A.tree) (skeleton_of B.tree) s A.prefix 0 f.follows (subst (λ (qs : List Quant). Follows (skeleton_of B.tree) s qs 0) (sym e) g.follows)));
  countable = let h = union_nodes (skeleton_of A.tree) (skeleton_of B.tree) in let k = ap nodes u in omega (arith, n);
}
