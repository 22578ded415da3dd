-- A selected tree has at most as many paths and nodes as the attacked one.
use Rattle.std.specs.Prelude.{ℕ, suc, ◌+◌, ◌≤◌, List, [], ◌∷◌, length}
use Rattle.std.proofs.Common.{arith, sym, subst}
use Rattle.lin_term.specs.declared.Sort.{Sort}
use Rattle.lin_term.specs.Linear.{Point, extend, origin}
use Rattle.dom_core.specs.declared.Quant.{Quant}
use Rattle.dom_core.specs.declared.Quant.TheVariants.{Exists, Forall}
use Rattle.dom_core.specs.Game.{Matrix, Problem, flip_all}
use Rattle.game_tree.specs.Skeleton.{Skeleton, end, theirs, mine, Branches, no_more, branch, nodes, branch_nodes, paths, Follows, EachFollows}
use Rattle.game_tree.specs.Leaves.{leaves, branch_leaves}
use Rattle.game_tree.proofs.Sizes.{leaves_are, union_leaves, union_nodes}
use Rattle.term_select.specs.Guided.{Chosen, value_of, with_move, joined, guided_from, guided_rest, guided}
use Rattle.term_select.specs.Selected.{Selected}

-- ---- paths

mutual
  guided_leaves : (U : Skeleton) (s : Sort) (M : Matrix) (qs : List Quant) (p : Point) (x v : ℕ) (e : Point) → Follows U s (flip_all qs) x → leaves (guided_from U s M p x v e).tree ≤ leaves U
  guided_leaves end s M qs p x v e f = omega arith
  guided_leaves (theirs U) s M [] p x v e f = absurd f
  guided_leaves (theirs U) s M (Forall ∷ qs) p x v e f = absurd f
  guided_leaves (theirs U) s M (Exists ∷ qs) p x v e f = let h = guided_leaves U s M qs p (suc x) (suc v) (extend e (value_of p v)) f in omega arith
  guided_leaves (mine bs) s M [] p x v e f = absurd f
  guided_leaves (mine bs) s M (Exists ∷ qs) p x v e f = absurd f
  guided_leaves (mine no_more) s M (Forall ∷ qs) p x v e f = absurd f.0
  guided_leaves (mine (branch mv U bs)) s M (Forall ∷ qs) p x v e f =
      let here = extend e (value_of p v) in
      let a = guided_leaves U s M qs p (suc x) (suc v) here f.1.2 in
      let b = rest_leaves bs s M qs p x (suc v + nodes U) e (with_move s x mv e (guided_from U s M p (suc x) (suc v) here)) f.1.3 in
      omega arith

  rest_leaves : (bs : Branches) (s : Sort) (M : Matrix) (qs : List Quant) (p : Point) (x v : ℕ) (e : Point) (f : Chosen) → EachFollows bs s (flip_all qs) x → leaves (guided_rest bs s M p x v e f).tree ≤ leaves f.tree + branch_leaves bs
  rest_leaves no_more s M qs p x v e f g = omega arith
  rest_leaves (branch mv U bs) s M qs p x v e f g =
      let here = extend e (value_of p v) in
      let r = guided_from U s M p (suc x) (suc v) here in
      let a = guided_leaves U s M qs p (suc x) (suc v) here g.2 in
      let b = rest_leaves bs s M qs p x (suc v + nodes U) e (joined f (with_move s x mv e r)) g.3 in
      let c = union_leaves f.tree r.tree in
      omega arith

pub selected_leaves : (s : Sort) (P : Problem) (U C : Skeleton) → Follows U s (flip_all P.prefix) 0 → Selected s P U C → length (paths C) ≤ length (paths U)
selected_leaves s P U C f d =
    subst (λ (T : Skeleton). length (paths T) ≤ length (paths U)) (sym d.tree)
    (let T = (guided s P U d.point).tree in
    let a = guided_leaves U s P.matrix P.prefix d.point 0 0 origin f in
    let b = leaves_are T in
    let c = leaves_are U in
    omega (arith, a, b, c))

-- ---- and at most as many nodes

mutual
  guided_nodes : (U : Skeleton) (s : Sort) (M : Matrix) (qs : List Quant) (p : Point) (x v : ℕ) (e : Point) → Follows U s (flip_all qs) x → nodes (guided_from U s M p x v e).tree ≤ nodes U
  guided_nodes end s M qs p x v e f = omega arith
  guided_nodes (theirs U) s M [] p x v e f = absurd f
  guided_nodes (theirs U) s M (Forall ∷ qs) p x v e f = absurd f
  guided_nodes (theirs U) s M (Exists ∷ qs) p x v e f = let h = guided_nodes U s M qs p (suc x) (suc v) (extend e (value_of p v)) f in omega arith
  guided_nodes (mine bs) s M [] p x v e f = absurd f
  guided_nodes (mine bs) s M (Exists ∷ qs) p x v e f = absurd f
  guided_nodes (mine no_more) s M (Forall ∷ qs) p x v e f = absurd f.0
  guided_nodes (mine (branch mv U bs)) s M (Forall ∷ qs) p x v e f =
      let here = extend e (value_of p v) in
      let a = guided_nodes U s M qs p (suc x) (suc v) here f.1.2 in
      let b = rest_nodes bs s M qs p x (suc v + nodes U) e (with_move s x mv e (guided_from U s M p (suc x) (suc v) here)) f.1.3 in
      omega arith

  rest_nodes : (bs : Branches) (s : Sort) (M : Matrix) (qs : List Quant) (p : Point) (x v : ℕ) (e : Point) (f : Chosen) → EachFollows bs s (flip_all qs) x → nodes (guided_rest bs s M p x v e f).tree ≤ nodes f.tree + branch_nodes bs
  rest_nodes no_more s M qs p x v e f g = omega arith
  rest_nodes (branch mv U bs) s M qs p x v e f g =
      let here = extend e (value_of p v) in
      let r = guided_from U s M p (suc x) (suc v) here in
      let a = guided_nodes U s M qs p (suc x) (suc v) here g.2 in
      let b = rest_nodes bs s M qs p x (suc v + nodes U) e (joined f (with_move s x mv e r)) g.3 in
      let c = union_nodes f.tree r.tree in
      omega arith

pub selected_nodes : (s : Sort) (P : Problem) (U C : Skeleton) → Follows U s (flip_all P.prefix) 0 → Selected s P U C → nodes C ≤ nodes U
selected_nodes s P U C f d = subst (λ (T : Skeleton). nodes T ≤ nodes U) (sym d.tree) (guided_nodes U s P.matrix P.prefix d.point 0 0 origin f)
