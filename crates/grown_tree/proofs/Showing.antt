-- What is shown, one move after the other.
use Rattle.std.specs.Prelude.{ℕ, ◌+◌, ◌<◌, ◌≤◌, ◌≡◌, nat_le, Bool, true, false, if◌then◌else◌, List, [], ◌∷◌, ◌++◌, length, get_or, drop}
use Rattle.std.proofs.Common.{arith, ap, ap₂, ◌∙◌, sym, refl, append_assoc}
use Rattle.std.proofs.lemmas.Bool.{lt-leb, le-leb}
use Rattle.std.proofs.lemmas.List.{drop_more, drop_all}
use Rattle.dom_core.specs.declared.Quant.{Quant}
use Rattle.dom_core.specs.declared.Quant.TheVariants.{Exists, Forall}
use Rattle.game_tree.specs.declared.Tree.{Tree}
use Rattle.game_tree.specs.declared.Branch.{Branch}
use Rattle.game_tree.specs.declared.Tree.TheVariants as trees
use Rattle.game_tree.specs.Skeleton.{nodes, branch_nodes}
use Rattle.game_tree.specs.View.{skeleton_of, branches_of}
use Rattle.game_tree.proofs.Views.{seen_end, seen_theirs, seen_mine, seen_branches}
use Rattle.grown_tree.specs.declared.marks.Mark.{Mark}
use Rattle.grown_tree.specs.declared.node.Node.{Node}
use Rattle.grown_tree.specs.declared.node.Node.TheVariants as variants
use Rattle.grown_tree.specs.Shown.{visible, shown, all_shown}
use Rattle.grown_tree.proofs.Nodes.{shown_nil, shown_forall, shown_end, shown_mine, nil_prefix}

-- one move before the others
visible_first : (v : ℕ) (m : Mark) (ms : List Mark) (t : Tree) (ts : List Tree) → visible v (m ∷ ms) (t ∷ ts) ≡ visible v (m ∷ []) (t ∷ []) ++ visible v ms ts
visible_first v m ms t ts = by (nat_le m.since v)
  where
    by : (b : Bool) → (let k : Branch = record { term = m.term; rest = t } in if b then k ∷ visible v ms ts else visible v ms ts) ≡ (let k : Branch = record { term = m.term; rest = t } in if b then k ∷ [] else []) ++ visible v ms ts
    by true = refl
    by false = refl

pub visible_more : (v : ℕ) (ms : List Mark) (ns : List Node) (qs : List Quant) (i : ℕ) (m : Mark) (n : Node) → i < length ms → i < length ns → m ≡ get_or ms i m → n ≡ get_or ns i n
    → visible v (drop i ms) (all_shown v (drop i ns) qs) ≡ visible v (m ∷ []) (shown v n qs ∷ []) ++ visible v (drop (i + 1) ms) (all_shown v (drop (i + 1) ns) qs)
visible_more v ms ns qs i m n l k e f =
    ap₂ (λ (xs : List Mark) (ys : List Node). visible v xs (all_shown v ys qs)) (drop_more ms i m l ∙ ap (λ (x : Mark). x ∷ drop (i + 1) ms) (sym e)) (drop_more ns i n k ∙ ap (λ (x : Node). x ∷ drop (i + 1) ns) (sym f))
    ∙ visible_first v m (drop (i + 1) ms) (shown v n qs) (all_shown v (drop (i + 1) ns) qs)

pub visible_done : (v : ℕ) (ms : List Mark) (ns : List Node) (qs : List Quant) (i : ℕ) → length ms ≤ i → visible v (drop i ms) (all_shown v (drop i ns) qs) ≡ []
visible_done v ms ns qs i l = ap (λ (xs : List Mark). visible v xs (all_shown v (drop i ns) qs)) (drop_all i ms l)

no_tree : (v : ℕ) (xs : List Mark) → visible v xs [] ≡ []
no_tree v [] = refl
no_tree v (x ∷ xs) = refl

pub visible_past : (v : ℕ) (ms : List Mark) (ns : List Node) (qs : List Quant) (i : ℕ) → length ns ≤ i → visible v (drop i ms) (all_shown v (drop i ns) qs) ≡ []
visible_past v ms ns qs i l = ap (λ (xs : List Node). visible v (drop i ms) (all_shown v xs qs)) (drop_all i ns l) ∙ no_tree v (drop i ms)

-- ---- one move

pub hidden_one : (v : ℕ) (m : Mark) (t : Tree) → v < m.since → visible v (m ∷ []) (t ∷ []) ≡ []
hidden_one v m t l = ap (λ (b : Bool). let k : Branch = record { term = m.term; rest = t } in if b then k ∷ [] else []) (lt-leb m.since v l)

pub shown_one : (v : ℕ) (m : Mark) (t : Tree) (b : Branch) → m.since ≤ v → b ≡ record { term = m.term; rest = t } → visible v (m ∷ []) (t ∷ []) ≡ b ∷ []
shown_one v m t b l e = ap (λ (c : Bool). let k : Branch = record { term = m.term; rest = t } in if c then k ∷ [] else []) (le-leb m.since v l) ∙ ap (λ (k : Branch). k ∷ []) (sym e)

-- ---- counts

pub nodes_append : (xs ys : List Branch) → branch_nodes (branches_of (xs ++ ys)) ≡ branch_nodes (branches_of xs) + branch_nodes (branches_of ys)
nodes_append [] ys = omega arith
nodes_append (x ∷ xs) ys = let h = nodes_append xs ys in omega arith

pub one_node : (v : ℕ) (m : Mark) (t : Tree) → m.since ≤ v → branch_nodes (branches_of (visible v (m ∷ []) (t ∷ []))) ≡ 1 + nodes (skeleton_of t)
one_node v m t l =
    let b : Branch = record { term = m.term; rest = t } in
    ap (λ (bs : List Branch). branch_nodes (branches_of bs)) (shown_one v m t b l refl) ∙ ap branch_nodes (seen_branches b [])
    ∙ (let o : (1 + nodes (skeleton_of t)) + 0 ≡ 1 + nodes (skeleton_of t) = omega arith in o)

pub no_node : (v : ℕ) (m : Mark) (t : Tree) → v < m.since → branch_nodes (branches_of (visible v (m ∷ []) (t ∷ []))) ≡ 0
no_node v m t l = ap (λ (bs : List Branch). branch_nodes (branches_of bs)) (hidden_one v m t l)

pub nodes_more : (v : ℕ) (ms : List Mark) (ns : List Node) (qs : List Quant) (i : ℕ) (m : Mark) (n : Node) → i < length ms → i < length ns → m ≡ get_or ms i m → n ≡ get_or ns i n
    → branch_nodes (branches_of (visible v (drop i ms) (all_shown v (drop i ns) qs))) ≡ branch_nodes (branches_of (visible v (m ∷ []) (shown v n qs ∷ []))) + branch_nodes (branches_of (visible v (drop (i + 1) ms) (all_shown v (drop (i + 1) ns) qs)))
nodes_more v ms ns qs i m n l k e f =
    ap (λ (bs : List Branch). branch_nodes (branches_of bs)) (visible_more v ms ns qs i m n l k e f)
    ∙ nodes_append (visible v (m ∷ []) (shown v n qs ∷ [])) (visible v (drop (i + 1) ms) (all_shown v (drop (i + 1) ns) qs))

pub nodes_nil : (v : ℕ) (n : Node) (qs : List Quant) → length qs < 1 → nodes (skeleton_of (shown v n qs)) ≡ 0
nodes_nil v n qs l = ap (λ (ps : List Quant). nodes (skeleton_of (shown v n ps))) (nil_prefix qs l) ∙ ap nodes (ap skeleton_of (shown_nil v n) ∙ seen_end)

pub nodes_forall : (v : ℕ) (n : Node) (qs rs : List Quant) → qs ≡ Forall ∷ rs → nodes (skeleton_of (shown v n qs)) ≡ 1 + nodes (skeleton_of (shown v n rs))
nodes_forall v n qs rs e = ap (λ (ps : List Quant). nodes (skeleton_of (shown v n ps))) e ∙ ap nodes (ap skeleton_of (shown_forall v n rs) ∙ seen_theirs (shown v n rs))

pub nodes_end : (v : ℕ) (n : Node) (qs rs : List Quant) → qs ≡ Exists ∷ rs → n ≡ variants.End → nodes (skeleton_of (shown v n qs)) ≡ 0
nodes_end v n qs rs e f = ap₂ (λ (ps : List Quant) (x : Node). nodes (skeleton_of (shown v x ps))) e f ∙ ap nodes (ap skeleton_of (shown_end v rs) ∙ seen_mine [])

pub nodes_mine : (v : ℕ) (n : Node) (qs rs : List Quant) (ms xs : List Mark) (ns ys : List Node) → qs ≡ Exists ∷ rs → n ≡ variants.Mine ms ns → xs ≡ ms → ys ≡ ns → nodes (skeleton_of (shown v n qs)) ≡ branch_nodes (branches_of (visible v xs (all_shown v ys rs)))
nodes_mine v n qs rs ms xs ns ys e f p q =
    ap₂ (λ (ps : List Quant) (x : Node). nodes (skeleton_of (shown v x ps))) e f ∙ ap nodes (ap skeleton_of (shown_mine v ms ns rs) ∙ seen_mine (visible v ms (all_shown v ns rs)))
    ∙ ap₂ (λ (zs : List Mark) (us : List Node). branch_nodes (branches_of (visible v zs (all_shown v us rs)))) (sym p) (sym q)

-- ---- copies

pub copied_mine : (v : ℕ) (n : Node) (qs rs : List Quant) (ms xs : List Mark) (ns ys : List Node) (all : List Branch) → qs ≡ Exists ∷ rs → n ≡ variants.Mine ms ns → xs ≡ ms → ys ≡ ns → all ≡ visible v xs (all_shown v ys rs) → trees.Mine all ≡ shown v n qs
copied_mine v n qs rs ms xs ns ys all e f p q h =
    ap trees.Mine (h ∙ ap₂ (λ (zs : List Mark) (us : List Node). visible v zs (all_shown v us rs)) p q) ∙ sym (shown_mine v ms ns rs)
    ∙ sym (ap₂ (λ (ps : List Quant) (x : Node). shown v x ps) e f)

pub copied_more : (v : ℕ) (ms : List Mark) (ns : List Node) (qs : List Quant) (i : ℕ) (m : Mark) (n : Node) (all new whole : List Branch) → i < length ms → i < length ns → m ≡ get_or ms i m → n ≡ get_or ns i n
    → new ≡ all ++ visible v (m ∷ []) (shown v n qs ∷ []) → all ++ visible v (drop i ms) (all_shown v (drop i ns) qs) ≡ whole → new ++ visible v (drop (i + 1) ms) (all_shown v (drop (i + 1) ns) qs) ≡ whole
copied_more v ms ns qs i m n all new whole l k e f u h =
    ap (λ (bs : List Branch). bs ++ visible v (drop (i + 1) ms) (all_shown v (drop (i + 1) ns) qs)) u
    ∙ append_assoc all (visible v (m ∷ []) (shown v n qs ∷ [])) (visible v (drop (i + 1) ms) (all_shown v (drop (i + 1) ns) qs))
    ∙ ap (λ (bs : List Branch). all ++ bs) (sym (visible_more v ms ns qs i m n l k e f)) ∙ h
