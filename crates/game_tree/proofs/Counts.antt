-- Counts of nodes and of paths.
use Rattle.std.specs.Prelude.{◌+◌, ◌≤◌, ◌≡◌, Option, Some, None, List, ◌∷◌, map, length}
use Rattle.std.proofs.Common.{arith, length-append}
use Rattle.std.proofs.lemmas.List.{length-map}
use Rattle.lin_term.specs.Move.{Move}
use Rattle.game_tree.specs.Skeleton.{Skeleton, Branches, end, theirs, mine, no_more, branch, nodes, branch_nodes, paths, branch_paths}

pub theirs_paths : (S : Skeleton) → length (paths (theirs S)) ≡ length (paths S)
theirs_paths S = length-map (paths S) (λ (path : List (Option Move)). None ∷ path)

pub more_paths : (m : Move) (S : Skeleton) (bs : Branches) → length (branch_paths (branch m S bs)) ≡ length (paths S) + length (branch_paths bs)
more_paths m S bs =
    let c = length-map (paths S) (λ (path : List (Option Move)). Some m ∷ path) in
    let d = length-append (map (λ (path : List (Option Move)). Some m ∷ path) (paths S)) (branch_paths bs) in
    omega arith

mutual
  pub few_paths : (S : Skeleton) → length (paths S) ≤ nodes S + 1
  few_paths end = omega arith
  few_paths (theirs S) = let h = few_paths S in let e = theirs_paths S in omega arith
  few_paths (mine bs) = let h = few_branch_paths bs in omega arith

  pub few_branch_paths : (bs : Branches) → length (branch_paths bs) ≤ branch_nodes bs
  few_branch_paths no_more = omega arith
  few_branch_paths (branch m S bs) = let a = few_paths S in let b = few_branch_paths bs in let e = more_paths m S bs in omega arith
