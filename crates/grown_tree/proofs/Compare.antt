-- What is shown against branches, one move after the other.
use Rattle.std.specs.Prelude.{ℕ, zero, suc, ◌+◌, ◌<◌, ◌≤◌, ◌≡◌, ◌==◌, ◌↔◌, IsTrue, Bool, true, false, List, [], ◌∷◌, ◌++◌, length, get_or, drop}
use Rattle.std.proofs.Common.{arith, ap, ap₂, ◌∙◌, sym, subst, refl}
use Rattle.std.proofs.lemmas.Bool.{eqb-true}
use Rattle.lin_term.specs.Move.{Move}
use Rattle.dom_core.specs.declared.Quant.{Quant}
use Rattle.dom_core.specs.declared.Quant.TheVariants.{Exists, Forall}
use Rattle.game_tree.specs.declared.Tree.{Tree, out-Tree, roll-Tree, roll-out-Tree}
use Rattle.game_tree.specs.declared.Tree.TheOpen.{Tree-F}
use Rattle.game_tree.specs.declared.Tree.TheVariants as trees
use Rattle.game_tree.specs.declared.Branch.{Branch}
use Rattle.game_tree.specs.Skeleton.{Skeleton, end, theirs, mine, Branches, no_more, branch}
use Rattle.game_tree.specs.View.{skeleton_of, branches_of}
use Rattle.game_tree.proofs.Views.{seen_end, seen_theirs, seen_mine, seen_branches, branches_at, branches_done}
use Rattle.grown_tree.specs.declared.marks.Mark.{Mark}
use Rattle.grown_tree.specs.declared.node.Node.{Node}
use Rattle.grown_tree.specs.declared.node.Node.TheVariants as variants
use Rattle.grown_tree.specs.Compared.{IsShown}
use Rattle.grown_tree.specs.Shown.{visible, shown, all_shown}
use Rattle.grown_tree.proofs.Nodes.{shown_mine, shown_end, shown_nil, shown_forall}
use Rattle.grown_tree.proofs.Haves.{shown_moves}
use Rattle.grown_tree.proofs.Showing.{hidden_one, shown_one, visible_more}

fails : {P : Type 0} → ¬ P → IsTrue false ↔ P
fails h = (λ e. absurd (cc), λ p. absurd (h p))

-- ---- one move

pub hidden_shown : (v : ℕ) (m : Mark) (t : Tree) (xs bs : List Branch) → v < m.since → IsShown v m t xs bs ↔ (branches_of xs ≡ branches_of bs)
hidden_shown v m t xs bs l =
    let e = ap (λ (ys : List Branch). branches_of (ys ++ xs)) (hidden_one v m t l) in
    (λ h. sym e ∙ h, λ h. e ∙ h)

one_branch : (v : ℕ) (m : Mark) (t : Tree) (xs : List Branch) → m.since ≤ v → branches_of (visible v (m ∷ []) (t ∷ []) ++ xs) ≡ branch m.term (skeleton_of t) (branches_of xs)
one_branch v m t xs l =
    let b : Branch = record { term = m.term; rest = t } in
    ap (λ (ys : List Branch). branches_of (ys ++ xs)) (shown_one v m t b l refl) ∙ seen_branches b xs

no_branches : (m : Move) (S : Skeleton) (bs : Branches) → branch m S bs ≡ no_more → ⊥
no_branches m S bs e = cc

same_move_of : (m n : Move) (S T : Skeleton) (bs cs : Branches) → branch m S bs ≡ branch n T cs → m ≡ n
same_move_of m n S T bs cs e = cc

same_rest_of : (m n : Move) (S T : Skeleton) (bs cs : Branches) → branch m S bs ≡ branch n T cs → S ≡ T
same_rest_of m n S T bs cs e = cc

same_others_of : (m n : Move) (S T : Skeleton) (bs cs : Branches) → branch m S bs ≡ branch n T cs → bs ≡ cs
same_others_of m n S T bs cs e = cc

pub past_shown : (v : ℕ) (m : Mark) (t : Tree) (xs bs : List Branch) (i : ℕ) → m.since ≤ v → length bs ≤ i → ¬ IsShown v m t xs (drop i bs)
past_shown v m t xs bs i l k h = no_branches m.term (skeleton_of t) (branches_of xs) (sym (one_branch v m t xs l) ∙ h ∙ branches_done bs i k)

pub other_shown : (v : ℕ) (m : Mark) (t : Tree) (xs bs : List Branch) (i : ℕ) (b : Branch) → m.since ≤ v → i < length bs → b ≡ get_or bs i b → ¬ (m.term ≡ b.term) → ¬ IsShown v m t xs (drop i bs)
other_shown v m t xs bs i b l k e n h =
    n (same_move_of m.term b.term (skeleton_of t) (skeleton_of b.rest) (branches_of xs) (branches_of (drop (i + 1) bs)) (sym (one_branch v m t xs l) ∙ h ∙ branches_at bs i b k e))

pub other_rest_shown : (v : ℕ) (m : Mark) (t : Tree) (xs bs : List Branch) (i : ℕ) (b : Branch) → m.since ≤ v → i < length bs → b ≡ get_or bs i b → ¬ (skeleton_of t ≡ skeleton_of b.rest) → ¬ IsShown v m t xs (drop i bs)
other_rest_shown v m t xs bs i b l k e n h =
    n (same_rest_of m.term b.term (skeleton_of t) (skeleton_of b.rest) (branches_of xs) (branches_of (drop (i + 1) bs)) (sym (one_branch v m t xs l) ∙ h ∙ branches_at bs i b k e))

pub same_shown : (v : ℕ) (m : Mark) (t : Tree) (xs bs : List Branch) (i : ℕ) (b : Branch) → m.since ≤ v → i < length bs → b ≡ get_or bs i b → m.term ≡ b.term → skeleton_of t ≡ skeleton_of b.rest → IsShown v m t xs (drop i bs) ↔ (branches_of xs ≡ branches_of (drop (i + 1) bs))
same_shown v m t xs bs i b l k e p q =
    let f = branches_at bs i b k e in (
      λ h. same_others_of m.term b.term (skeleton_of t) (skeleton_of b.rest) (branches_of xs) (branches_of (drop (i + 1) bs)) (sym (one_branch v m t xs l) ∙ h ∙ f),
      λ h. one_branch v m t xs l ∙ ap₂ (λ (n : Move) (S : Skeleton). branch n S (branches_of xs)) p q ∙ ap (λ (ys : Branches). branch b.term (skeleton_of b.rest) ys) h ∙ sym f,
    )

-- ---- all moves of a node

abbrev pub IsLeft : ℕ → List Mark → List Node → List Quant → List Branch → ℕ → ℕ → Type 0
IsLeft v ms ns qs bs i j = (branches_of (visible v (drop i ms) (all_shown v (drop i ns) qs)) ≡ branches_of (drop j bs)) ↔ (branches_of (visible v ms (all_shown v ns qs)) ≡ branches_of bs)

pub none_compared : (v : ℕ) (ms : List Mark) (ns : List Node) (qs : List Quant) (bs : List Branch) → IsLeft v ms ns qs bs 0 0
none_compared v ms ns qs bs = (λ h. h, λ h. h)

pub one_compared : (v : ℕ) (ms : List Mark) (ns : List Node) (qs : List Quant) (bs : List Branch) (i j k : ℕ) (m : Mark) (n : Node) → i < length ms → i < length ns → m ≡ get_or ms i m → n ≡ get_or ns i n
    → ((xs : List Branch) → IsShown v m (shown v n qs) xs (drop j bs) ↔ (branches_of xs ≡ branches_of (drop k bs))) → IsLeft v ms ns qs bs i j → IsLeft v ms ns qs bs (i + 1) k
one_compared v ms ns qs bs i j k m n l r e f h g =
    let xs = visible v (drop (i + 1) ms) (all_shown v (drop (i + 1) ns) qs) in
    let u = ap branches_of (visible_more v ms ns qs i m n l r e f) in
    (λ p. g.0 (u ∙ (h xs).1 p), λ p. (h xs).0 (sym u ∙ g.1 p))

pub one_differs : (v : ℕ) (ms : List Mark) (ns : List Node) (qs : List Quant) (bs : List Branch) (i j : ℕ) (m : Mark) (n : Node) → i < length ms → i < length ns → m ≡ get_or ms i m → n ≡ get_or ns i n
    → ((xs : List Branch) → ¬ IsShown v m (shown v n qs) xs (drop j bs)) → IsLeft v ms ns qs bs i j → IsTrue false ↔ (branches_of (visible v ms (all_shown v ns qs)) ≡ branches_of bs)
one_differs v ms ns qs bs i j m n l r e f h g =
    fails (λ p. h (visible v (drop (i + 1) ms) (all_shown v (drop (i + 1) ns) qs)) (sym (ap branches_of (visible_more v ms ns qs i m n l r e f)) ∙ g.1 p))

left_over : (bs : List Branch) → no_more ≡ branches_of bs → bs ≡ []
left_over [] e = refl
left_over (b ∷ bs) e = absurd (no_branches b.term (skeleton_of b.rest) (branches_of bs) (sym (e ∙ seen_branches b bs)))

length_nil : (bs : List Branch) (j : ℕ) → drop j bs ≡ [] → j ≤ length bs → j ≡ length bs
length_nil [] zero e l = refl
length_nil [] (suc j) e l = absurd (omega (arith, l))
length_nil (b ∷ bs) zero e l = absurd (cons_nil e)
  where
    cons_nil : b ∷ bs ≡ [] → ⊥
    cons_nil q = cc
length_nil (b ∷ bs) (suc j) e l = ap (λ (n : ℕ). suc n) (length_nil bs j e (omega (arith, l)))

-- nothing more is shown
pub all_compared : (v : ℕ) (ms : List Mark) (ns : List Node) (qs : List Quant) (bs : List Branch) (i j : ℕ) (r : Bool) → visible v (drop i ms) (all_shown v (drop i ns) qs) ≡ [] → j ≤ length bs → (IsTrue r ↔ (j ≡ length bs)) → IsLeft v ms ns qs bs i j → IsTrue r ↔ (branches_of (visible v ms (all_shown v ns qs)) ≡ branches_of bs)
all_compared v ms ns qs bs i j r e l h g =
    let u = ap branches_of e in (
      λ p. g.0 (u ∙ sym (branches_done bs j (let q = h.0 p in omega (arith, q)))),
      λ p. h.1 (length_nil bs j (left_over (drop j bs) (sym u ∙ g.1 p)) l),
    )

-- ---- trees by their cases

end_theirs : (S : Skeleton) → ¬ (end ≡ theirs S)
end_theirs S e = cc

end_mine : (bs : Branches) → ¬ (end ≡ mine bs)
end_mine bs e = cc

theirs_mine : (S : Skeleton) (bs : Branches) → ¬ (theirs S ≡ mine bs)
theirs_mine S bs e = cc

tree_by : (P : Skeleton → Type 0) (t : Tree) → (t ≡ trees.End → P end) → ((r : Tree) → t ≡ trees.Theirs r → P (theirs (skeleton_of r))) → ((bs : List Branch) → t ≡ trees.Mine bs → P (mine (branches_of bs))) → P (skeleton_of t)
tree_by P t f g h = by (out-Tree t) (sym (roll-out-Tree t))
  where
    by : (k : Tree-F Tree Branch) → t ≡ roll-Tree k → P (skeleton_of t)
    by Tree-F.End e = let q = e ∙ trees.rolls-End in subst P (sym (ap skeleton_of q ∙ seen_end)) (f q)
    by (Tree-F.Theirs r) e = let q = e ∙ trees.rolls-Theirs r in subst P (sym (ap skeleton_of q ∙ seen_theirs r)) (g r q)
    by (Tree-F.Mine bs) e = let q = e ∙ trees.rolls-Mine bs in subst P (sym (ap skeleton_of q ∙ seen_mine bs)) (h bs q)

pub same_end : (v : ℕ) (n : Node) (t : Tree) → t ≡ trees.End → IsTrue true ↔ (skeleton_of (shown v n []) ≡ skeleton_of t)
same_end v n t e = (λ q. ap skeleton_of (shown_nil v n ∙ sym e), λ q. refl)

pub not_end : (v : ℕ) (n : Node) (t : Tree) → ¬ (t ≡ trees.End) → IsTrue false ↔ (skeleton_of (shown v n []) ≡ skeleton_of t)
not_end v n t d =
    let u = ap skeleton_of (shown_nil v n) ∙ seen_end in
    fails (λ h. tree_by (λ S. end ≡ S → ⊥) t (λ q. absurd (d q)) (λ r q. end_theirs (skeleton_of r)) (λ bs q. end_mine (branches_of bs)) (sym u ∙ h))

theirs_inner : (S T : Skeleton) → theirs S ≡ theirs T → S ≡ T
theirs_inner S T e = cc

pub same_theirs : (v : ℕ) (n : Node) (t b x : Tree) (qs : List Quant) (r : Bool) → t ≡ trees.Theirs b → x ≡ b → (IsTrue r ↔ (skeleton_of (shown v n qs) ≡ skeleton_of x)) → IsTrue r ↔ (skeleton_of (shown v n (Forall ∷ qs)) ≡ skeleton_of t)
same_theirs v n t b x qs r e o h =
    let u = ap skeleton_of (shown_forall v n qs) ∙ seen_theirs (shown v n qs) in
    let w = ap skeleton_of e ∙ seen_theirs b in
    (λ p. u ∙ ap theirs (h.0 p ∙ ap skeleton_of o) ∙ sym w, λ p. h.1 (theirs_inner (skeleton_of (shown v n qs)) (skeleton_of b) (sym u ∙ p ∙ w) ∙ sym (ap skeleton_of o)))

pub not_theirs : (v : ℕ) (n : Node) (t : Tree) (qs : List Quant) → ((b : Tree) → t ≡ trees.Theirs b → ⊥) → IsTrue false ↔ (skeleton_of (shown v n (Forall ∷ qs)) ≡ skeleton_of t)
not_theirs v n t qs d =
    let S = skeleton_of (shown v n qs) in
    let u = ap skeleton_of (shown_forall v n qs) ∙ seen_theirs (shown v n qs) in
    fails (λ h. tree_by (λ X. theirs S ≡ X → ⊥) t (λ q k. end_theirs S (sym k)) (λ r q. absurd (d r q)) (λ bs q. theirs_mine S (branches_of bs)) (sym u ∙ h))

pub same_mine : (v : ℕ) (n : Node) (t : Tree) (bs cs : List Branch) (qs : List Quant) (r : Bool) → t ≡ trees.Mine bs → cs ≡ bs → (IsTrue r ↔ (skeleton_of (shown v n (Exists ∷ qs)) ≡ mine (branches_of cs))) → IsTrue r ↔ (skeleton_of (shown v n (Exists ∷ qs)) ≡ skeleton_of t)
same_mine v n t bs cs qs r e o h =
    let w = ap skeleton_of e ∙ seen_mine bs ∙ ap (λ (xs : List Branch). mine (branches_of xs)) (sym o) in
    (λ p. h.0 p ∙ sym w, λ p. h.1 (p ∙ w))

pub not_mine : (v : ℕ) (n : Node) (t : Tree) (qs : List Quant) → ((bs : List Branch) → t ≡ trees.Mine bs → ⊥) → IsTrue false ↔ (skeleton_of (shown v n (Exists ∷ qs)) ≡ skeleton_of t)
not_mine v n t qs d =
    let g = shown_moves v n qs in
    let u = ap skeleton_of g.1 ∙ seen_mine g.0 in
    fails (λ h. tree_by (λ X. mine (branches_of g.0) ≡ X → ⊥) t (λ q k. end_mine (branches_of g.0) (sym k)) (λ r q k. theirs_mine (skeleton_of r) (branches_of g.0) (sym k)) (λ bs q. absurd (d bs q)) (sym u ∙ h))

mine_inner : (bs cs : Branches) → mine bs ≡ mine cs → bs ≡ cs
mine_inner bs cs e = cc

-- no branches
pub empty_test : (bs : List Branch) (r : Bool) → r ≡ (length bs == 0) → IsTrue r ↔ (bs ≡ [])
empty_test [] r e = (λ h. refl, λ q. e)
empty_test (b ∷ bs) r e = (λ h. absurd (let q = eqb-true (length (b ∷ bs)) 0 (sym e ∙ h) in omega (arith, q)), λ q. absurd (cons_nil q))
  where
    cons_nil : b ∷ bs ≡ [] → ⊥
    cons_nil q = cc

pub end_branches : (v : ℕ) (n : Node) (bs : List Branch) (qs : List Quant) (r : Bool) → n ≡ variants.End → (IsTrue r ↔ (bs ≡ [])) → IsTrue r ↔ (skeleton_of (shown v n (Exists ∷ qs)) ≡ mine (branches_of bs))
end_branches v n bs qs r e h =
    let u = ap (λ (x : Node). skeleton_of (shown v x (Exists ∷ qs))) e ∙ ap skeleton_of (shown_end v qs) ∙ seen_mine [] in
    (λ p. u ∙ ap (λ (xs : List Branch). mine (branches_of xs)) (sym (h.0 p)), λ p. h.1 (left_over bs (mine_inner no_more (branches_of bs) (sym u ∙ p))))

pub mine_branches : (v : ℕ) (n : Node) (ms xs : List Mark) (ns ys : List Node) (bs : List Branch) (qs : List Quant) (r : Bool) → n ≡ variants.Mine ms ns → xs ≡ ms → ys ≡ ns → (IsTrue r ↔ (branches_of (visible v xs (all_shown v ys qs)) ≡ branches_of bs)) → IsTrue r ↔ (skeleton_of (shown v n (Exists ∷ qs)) ≡ mine (branches_of bs))
mine_branches v n ms xs ns ys bs qs r e p q h =
    let u = ap (λ (x : Node). skeleton_of (shown v x (Exists ∷ qs))) e ∙ ap skeleton_of (shown_mine v ms ns qs) ∙ seen_mine (visible v ms (all_shown v ns qs))
    ∙ ap₂ (λ (zs : List Mark) (us : List Node). mine (branches_of (visible v zs (all_shown v us qs)))) (sym p) (sym q) in
    (λ k. u ∙ ap mine (h.0 k), λ k. h.1 (mine_inner (branches_of (visible v xs (all_shown v ys qs))) (branches_of bs) (sym u ∙ k)))
