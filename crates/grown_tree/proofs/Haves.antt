-- The branches of the newest version, by their places.
use Rattle.std.specs.Prelude.{ℕ, zero, suc, ◌<◌, ◌≡◌, ◌↔◌, nat_le, IsTrue, Bool, true, false, if◌then◌else◌, Some, None, List, [], ◌∷◌, length, get_or}
use Rattle.std.specs.List.{list_all}
use Rattle.std.proofs.Common.{arith, ap, ◌∙◌, sym, subst, refl}
use Rattle.std.proofs.lemmas.Bool.{and_parts}
use Rattle.std.proofs.lemmas.List.{get_or_default}
use Rattle.lin_term.specs.Move.{Move}
use Rattle.dom_core.specs.declared.Quant.{Quant}
use Rattle.dom_core.specs.declared.Quant.TheVariants.{Exists, Forall}
use Rattle.game_tree.specs.declared.Tree.{Tree}
use Rattle.game_tree.specs.declared.Branch.{Branch}
use Rattle.game_tree.specs.declared.Tree.TheVariants as trees
use Rattle.game_tree.specs.Skeleton.{Skeleton, theirs, mine}
use Rattle.game_tree.specs.View.{skeleton_of, branches_of}
use Rattle.game_tree.specs.Full.{IsDistinctTree, AreDistinctTrees, IsFullTree, AllIn}
use Rattle.game_tree.specs.Gather.{place, moves_of}
use Rattle.game_tree.specs.Union.{In}
use Rattle.game_tree.proofs.Views.{seen_theirs, seen_mine}
use Rattle.game_tree.proofs.PathsIn.{IsBranch, placed, no_place}
use Rattle.grown_tree.specs.declared.marks.Mark.{Mark}
use Rattle.grown_tree.specs.declared.node.Node.{Node, Node-F, out-Node, roll-Node, roll-out-Node}
use Rattle.grown_tree.specs.declared.node.Node.TheOpen as open_node
use Rattle.grown_tree.specs.declared.node.Node.TheVariants as variants
use Rattle.grown_tree.specs.Shown.{visible, shown, all_shown, is_sound, are_sound, terms_of}
use Rattle.grown_tree.proofs.Nodes.{sound_parts, sound_mine, shown_mine, shown_end, shown_forall}

visible_moves : (v : ℕ) (ms : List Mark) (ns : List Node) (qs : List Quant) → list_all (λ m. nat_le m.since v) ms ≡ true → length ms ≡ length ns → moves_of (visible v ms (all_shown v ns qs)) ≡ terms_of ms
visible_moves v [] ns qs h e = refl
visible_moves v (m ∷ ms) [] qs h e = absurd (omega (arith, e))
visible_moves v (m ∷ ms) (n ∷ ns) qs h e =
    let a = and_parts (nat_le m.since v) (list_all (λ k. nat_le k.since v) ms) h in
    let b : Branch = record { term = m.term; rest = shown v n qs } in
    ap (λ (c : Bool). moves_of (if c then b ∷ visible v ms (all_shown v ns qs) else visible v ms (all_shown v ns qs))) a.0
    ∙ ap (λ (xs : List Move). m.term ∷ xs) (visible_moves v ms ns qs a.1 (omega (arith, e)))

visible_rest : (v : ℕ) (ms : List Mark) (ns : List Node) (qs : List Quant) (i : ℕ) (d : Branch) (n : Node) → list_all (λ m. nat_le m.since v) ms ≡ true → length ms ≡ length ns → i < length ms → n ≡ get_or ns i n
    → (get_or (visible v ms (all_shown v ns qs)) i d).rest ≡ shown v n qs
visible_rest v [] ns qs i d n h e l k = absurd (omega (arith, l))
visible_rest v (m ∷ ms) [] qs i d n h e l k = absurd (omega (arith, e))
visible_rest v (m ∷ ms) (x ∷ ns) qs i d n h e l k =
    let a = and_parts (nat_le m.since v) (list_all (λ y. nat_le y.since v) ms) h in
    let b : Branch = record { term = m.term; rest = shown v x qs } in
    ap (λ (c : Bool). (get_or (if c then b ∷ visible v ms (all_shown v ns qs) else visible v ms (all_shown v ns qs)) i d).rest) a.0
    ∙ by i l k (λ j l₁ k₁. visible_rest v ms ns qs j d n a.1 (omega (arith, e)) l₁ k₁)
  where
    by : (j : ℕ) → j < length (m ∷ ms) → n ≡ get_or (x ∷ ns) j n → ((z : ℕ) → z < length ms → n ≡ get_or ns z n → (get_or (visible v ms (all_shown v ns qs)) z d).rest ≡ shown v n qs)
        → (let b : Branch = record { term = m.term; rest = shown v x qs } in (get_or (b ∷ visible v ms (all_shown v ns qs)) j d).rest) ≡ shown v n qs
    by zero l₁ k₁ rec = ap (λ (y : Node). shown v y qs) (sym k₁)
    by (suc j) l₁ k₁ rec = rec j (omega (arith, l₁)) k₁

length_visible : (v : ℕ) (ms : List Mark) (ns : List Node) (qs : List Quant) → list_all (λ m. nat_le m.since v) ms ≡ true → length ms ≡ length ns → length (visible v ms (all_shown v ns qs)) ≡ length ms
length_visible v [] ns qs h e = refl
length_visible v (m ∷ ms) [] qs h e = absurd (omega (arith, e))
length_visible v (m ∷ ms) (n ∷ ns) qs h e =
    let a = and_parts (nat_le m.since v) (list_all (λ k. nat_le k.since v) ms) h in
    let b : Branch = record { term = m.term; rest = shown v n qs } in
    ap (λ (c : Bool). length (if c then b ∷ visible v ms (all_shown v ns qs) else visible v ms (all_shown v ns qs))) a.0
    ∙ ap (λ (k : ℕ). suc k) (length_visible v ms ns qs a.1 (omega (arith, e)))

-- the move at a place is a branch
pub marked_branch : (v : ℕ) (ms : List Mark) (ns : List Node) (qs : List Quant) (i : ℕ) (m : Move) (n : Node) → IsTrue (are_sound v ms ns) → i < length ms → Some i ≡ place m (terms_of ms) → n ≡ get_or ns i n
    → IsBranch m (skeleton_of (shown v n qs)) (branches_of (visible v ms (all_shown v ns qs)))
marked_branch v ms ns qs i m n h l p k =
    let s = sound_parts v ms ns h in
    let bs = visible v ms (all_shown v ns qs) in
    let d : Branch = record { term = m; rest = shown v n qs } in
    let b = get_or bs i d in
    let q = p ∙ sym (ap (λ (xs : List Move). place m xs) (visible_moves v ms ns qs s.bounded s.same)) in
    let e = get_or_default bs i d b (let z = length_visible v ms ns qs s.bounded s.same in omega (arith, l, z)) in
    subst (λ (t : Tree). IsBranch m (skeleton_of t) (branches_of bs)) (visible_rest v ms ns qs i d n s.bounded s.same l k) (placed m bs i b q e)

pub marked_none : (v : ℕ) (ms : List Mark) (ns : List Node) (qs : List Quant) (m : Move) → IsTrue (are_sound v ms ns) → None ≡ place m (terms_of ms) → place m (moves_of (visible v ms (all_shown v ns qs))) ≡ None
marked_none v ms ns qs m h p =
    let s = sound_parts v ms ns h in
    ap (λ (xs : List Move). place m xs) (visible_moves v ms ns qs s.bounded s.same) ∙ sym p

-- where no move is, no path is
pub nothing_there : (v : ℕ) (cs : List Branch) (n : Node) (qs : List Quant) → n ≡ variants.End → IsFullTree (mine (branches_of cs)) → IsTrue false ↔ In (mine (branches_of cs)) (skeleton_of (shown v n (Exists ∷ qs)))
nothing_there v [] n qs e f = absurd f.0
nothing_there v (c ∷ cs) n qs e f =
    subst (λ (S : Skeleton). IsTrue false ↔ In (mine (branches_of (c ∷ cs))) S) (sym (ap (λ (x : Node). skeleton_of (shown v x (Exists ∷ qs))) e ∙ ap skeleton_of (shown_end v qs) ∙ seen_mine []))
    (no_place (c ∷ cs) [] 0 c (omega arith) refl f.1 refl)

-- at an own variable moves are shown
pub shown_moves : (v : ℕ) (n : Node) (qs : List Quant) → (bs : List Branch) × (shown v n (Exists ∷ qs) ≡ trees.Mine bs)
shown_moves v n qs = by (out-Node n) (sym (roll-out-Node n))
  where
    by : (k : Node-F Node) → n ≡ roll-Node k → (bs : List Branch) × (shown v n (Exists ∷ qs) ≡ trees.Mine bs)
    by open_node.End e = ([], ap (λ (x : Node). shown v x (Exists ∷ qs)) (e ∙ variants.rolls-End) ∙ shown_end v qs)
    by (open_node.Mine ms ns) e = (visible v ms (all_shown v ns qs), ap (λ (x : Node). shown v x (Exists ∷ qs)) (e ∙ variants.rolls-Mine ms ns) ∙ shown_mine v ms ns qs)

-- ---- what is asked of the trees below

pub distinct_below : (v : ℕ) (n : Node) (qs rs : List Quant) → qs ≡ Forall ∷ rs → IsDistinctTree (skeleton_of (shown v n qs)) → IsDistinctTree (skeleton_of (shown v n rs))
distinct_below v n qs rs e h = subst (λ (S : Skeleton). IsDistinctTree S) (ap (λ (ps : List Quant). skeleton_of (shown v n ps)) e ∙ ap skeleton_of (shown_forall v n rs) ∙ seen_theirs (shown v n rs)) h

pub full_below : (t b x : Tree) → t ≡ trees.Theirs b → x ≡ b → IsFullTree (skeleton_of t) → IsFullTree (skeleton_of x)
full_below t b x e o h = subst (λ (S : Skeleton). IsFullTree S) (ap skeleton_of e ∙ seen_theirs b ∙ ap (λ (y : Tree). theirs (skeleton_of y)) (sym o)) h

-- the node, seen through the slice of what stands below
seen_marks : (v : ℕ) (n : Node) (ms : List Mark) (ns ys : List Node) (qs : List Quant) → n ≡ variants.Mine ms ns → ys ≡ ns → skeleton_of (shown v n (Exists ∷ qs)) ≡ mine (branches_of (visible v ms (all_shown v ys qs)))
seen_marks v n ms ns ys qs e p =
    ap (λ (x : Node). skeleton_of (shown v x (Exists ∷ qs))) e ∙ ap skeleton_of (shown_mine v ms ns qs) ∙ seen_mine (visible v ms (all_shown v ns qs))
    ∙ ap (λ (zs : List Node). mine (branches_of (visible v ms (all_shown v zs qs)))) (sym p)

pub sound_marked : (v : ℕ) (n : Node) (ms : List Mark) (ns ys : List Node) → n ≡ variants.Mine ms ns → ys ≡ ns → IsTrue (is_sound v n) → IsTrue (are_sound v ms ys)
sound_marked v n ms ns ys e p h = ap (λ (xs : List Node). are_sound v ms xs) p ∙ sym (sound_mine v ms ns) ∙ ap (is_sound v) (sym e) ∙ h

pub distinct_marked : (v : ℕ) (n : Node) (ms : List Mark) (ns ys : List Node) (qs : List Quant) → n ≡ variants.Mine ms ns → ys ≡ ns → IsDistinctTree (skeleton_of (shown v n (Exists ∷ qs))) → AreDistinctTrees (branches_of (visible v ms (all_shown v ys qs)))
distinct_marked v n ms ns ys qs e p h = subst (λ (S : Skeleton). IsDistinctTree S) (seen_marks v n ms ns ys qs e p) h

pub own_part : (v : ℕ) (n : Node) (qs rs : List Quant) (t : Tree) (bs cs : List Branch) (r : Bool) → qs ≡ Exists ∷ rs → t ≡ trees.Mine bs → cs ≡ bs → (IsTrue r ↔ In (mine (branches_of cs)) (skeleton_of (shown v n (Exists ∷ rs))))
    → IsTrue r ↔ In (skeleton_of t) (skeleton_of (shown v n qs))
own_part v n qs rs t bs cs r e f o h =
    subst (λ (ps : List Quant). IsTrue r ↔ In (skeleton_of t) (skeleton_of (shown v n ps))) (sym e)
    (subst (λ (S : Skeleton). IsTrue r ↔ In S (skeleton_of (shown v n (Exists ∷ rs)))) (sym (ap skeleton_of f ∙ seen_mine bs ∙ ap (λ (xs : List Branch). mine (branches_of xs)) (sym o))) h)

pub marked_all : (v : ℕ) (n : Node) (ms : List Mark) (ns ys : List Node) (cs : List Branch) (qs : List Quant) (r : Bool) → n ≡ variants.Mine ms ns → ys ≡ ns → (IsTrue r ↔ AllIn (branches_of cs) (branches_of (visible v ms (all_shown v ys qs))))
    → IsTrue r ↔ In (mine (branches_of cs)) (skeleton_of (shown v n (Exists ∷ qs)))
marked_all v n ms ns ys cs qs r e p h = subst (λ (S : Skeleton). IsTrue r ↔ In (mine (branches_of cs)) S) (sym (seen_marks v n ms ns ys qs e p)) h
