-- What was added last stands last, and can be cut off.
use Rattle.std.specs.Prelude.{ℕ, zero, suc, ◌+◌, ◌<◌, ◌≤◌, ◌≡◌, nat_le, Bool, true, false, ◌&&◌, cond, IsTrue, if◌then◌else◌, List, [], ◌∷◌, ◌++◌, map, length, get_or, set, take, drop}
use Rattle.std.specs.List.{list_all, prefix_len}
use Rattle.std.proofs.Common.{arith, ap, ap₂, ◌∙◌, sym, subst, refl}
use Rattle.std.proofs.lemmas.Bool.{and_parts, leb-true, leb-false, le-leb, lt-leb}
use Rattle.std.proofs.lemmas.List.{take-map, take_more, take_more_set, drop_more, drop-set-lt, drop-drop}
use Rattle.dom_core.specs.declared.Quant.{Quant}
use Rattle.game_tree.specs.declared.Tree.{Tree}
use Rattle.game_tree.specs.declared.Branch.{Branch}
use Rattle.game_tree.specs.declared.Tree.TheVariants as trees
use Rattle.grown_tree.specs.declared.marks.Mark.{Mark}
use Rattle.grown_tree.specs.declared.node.Node.{Node, Node-F, fold-Node, fold-roll-Node}
use Rattle.grown_tree.specs.declared.node.Node.TheOpen as open_node
use Rattle.grown_tree.specs.declared.node.Node.TheVariants as variants
use Rattle.grown_tree.specs.Shown.{visible, shown, all_shown, is_rising, is_sound}
use Rattle.grown_tree.proofs.Nodes.{sound_parts, parts_sound, all_at, all_push, all_weaker, sound_mine, shown_mine, same_along}

abbrev early_count : ℕ → List Mark → ℕ
early_count last ms = prefix_len (λ m. nat_le m.since last) ms

-- ---- weights

abbrev sum_of : List ℕ → ℕ
sum_of [] = 0
sum_of (x ∷ xs) = x + sum_of xs

abbrev weight_step : Node-F ℕ → ℕ
weight_step open_node.End = 0
weight_step (open_node.Mine ms ws) = 1 + sum_of ws

abbrev pub node_weight : Node → ℕ
node_weight = fold-Node ℕ weight_step

abbrev pub all_weight : List Node → ℕ
all_weight ns = sum_of (map node_weight ns)

pub mine_weight : (ms : List Mark) (ns : List Node) → node_weight (variants.Mine ms ns) ≡ 1 + all_weight ns
mine_weight ms ns = ap node_weight (sym (variants.rolls-Mine ms ns)) ∙ fold-roll-Node ℕ weight_step (open_node.Mine ms ns)

pub take_weight : (k : ℕ) (ns : List Node) → all_weight (take k ns) ≤ all_weight ns
take_weight zero ns = omega arith
take_weight (suc k) [] = omega arith
take_weight (suc k) (n ∷ ns) = let h = take_weight k ns in omega arith

pub weight_at : (ns : List Node) (i : ℕ) (n : Node) → i < length ns → n ≡ get_or ns i n → node_weight n ≤ all_weight ns
weight_at [] i n l e = absurd (omega (arith, l))
weight_at (x ∷ ns) zero n l e = let h = ap node_weight e in omega arith
weight_at (x ∷ ns) (suc i) n l e = let h = weight_at ns i n (omega (arith, l)) e in omega arith

heads_same : (x y : Node) (xs ys : List Node) → x ∷ xs ≡ y ∷ ys → x ≡ y
heads_same x y xs ys q = cc

-- the node that stands at the place is still the first one
pub first_at : (now before : List Node) (i : ℕ) (n : Node) → length now ≡ length before → drop i now ≡ drop i before → i < length now → n ≡ get_or now i n → n ≡ get_or before i n
first_at now before i n k d l e =
    e ∙ heads_same (get_or now i n) (get_or before i n) (drop (i + 1) now) (drop (i + 1) before) (sym (drop_more now i n l) ∙ d ∙ drop_more before i n (omega (arith, k, l)))

-- ---- the moves that are left

front : (x y : Bool) → x ≡ true → y ≡ true → (x && y) ≡ true
front x y e f = ap (λ (b : Bool). b && y) e ∙ f

next_take : (k : ℕ) (m : Mark) (ms : List Mark) → take (1 + k) (m ∷ ms) ≡ m ∷ take k ms
next_take k m ms = ap (λ (j : ℕ). take j (m ∷ ms)) (let o : 1 + k ≡ suc k = omega arith in o)

early_bounded : (last : ℕ) (ms : List Mark) → list_all (λ m. nat_le m.since last) (take (early_count last ms) ms) ≡ true
early_bounded last [] = refl
early_bounded last (m ∷ ms) = by (nat_le m.since last) refl (early_bounded last ms)
  where
    by : (b : Bool) → nat_le m.since last ≡ b → list_all (λ k. nat_le k.since last) (take (early_count last ms) ms) ≡ true → list_all (λ k. nat_le k.since last) (take (cond b (1 + early_count last ms) 0) (m ∷ ms)) ≡ true
    by true e h =
        ap (λ (xs : List Mark). list_all (λ k. nat_le k.since last) xs) (next_take (early_count last ms) m ms)
        ∙ front (nat_le m.since last) (list_all (λ k. nat_le k.since last) (take (early_count last ms) ms)) e h
    by false e h = refl

take_all_so : {A : Type 0} → (p : A → Bool) (xs : List A) (k : ℕ) → list_all p xs ≡ true → list_all p (take k xs) ≡ true
take_all_so {A} p xs zero h = refl
take_all_so {A} p [] (suc k) h = refl
take_all_so {A} p (x ∷ xs) (suc k) h = let a = and_parts (p x) (list_all p xs) h in front (p x) (list_all p (take k xs)) a.0 (take_all_so p xs k a.1)

take_rising : (ms : List Mark) (k : ℕ) → is_rising ms ≡ true → is_rising (take k ms) ≡ true
take_rising ms zero h = refl
take_rising [] (suc k) h = refl
take_rising (m ∷ ms) (suc k) h =
    let a = and_parts (list_all (λ y. nat_le m.since y.since) ms) (is_rising ms) h in
    front (list_all (λ y. nat_le m.since y.since) (take k ms)) (is_rising (take k ms)) (take_all_so (λ y. nat_le m.since y.since) ms k a.0) (take_rising ms k a.1)

-- ---- what is still shown

-- behind a late move all are late
all_hidden : (v : ℕ) (ms : List Mark) (ts : List Tree) → list_all (λ m. nat_le (suc v) m.since) ms ≡ true → visible v ms ts ≡ []
all_hidden v [] ts h = refl
all_hidden v (m ∷ ms) [] h = refl
all_hidden v (m ∷ ms) (t ∷ ts) h =
    let a = and_parts (nat_le (suc v) m.since) (list_all (λ k. nat_le (suc v) k.since) ms) h in
    let b : Branch = record { term = m.term; rest = t } in
    ap (λ (c : Bool). if c then b ∷ visible v ms ts else visible v ms ts) (lt-leb m.since v (let l = leb-true (suc v) m.since a.0 in omega (arith, l)))
    ∙ all_hidden v ms ts a.1

next_trees : (k : ℕ) (t : Tree) (ts : List Tree) → take (1 + k) (t ∷ ts) ≡ t ∷ take k ts
next_trees k t ts = ap (λ (j : ℕ). take j (t ∷ ts)) (let o : 1 + k ≡ suc k = omega arith in o)

no_trees : (k : ℕ) → take {A = Tree} k [] ≡ []
no_trees zero = refl
no_trees (suc k) = refl

cut_first : (v k : ℕ) (m : Mark) (ms : List Mark) (ts : List Tree) → ((xs : List Tree) → visible v (take k ms) (take k xs) ≡ visible v ms xs) → visible v (take (1 + k) (m ∷ ms)) (take (1 + k) ts) ≡ visible v (m ∷ ms) ts
cut_first v k m ms [] rec = ap₂ (λ (xs : List Mark) (us : List Tree). visible v xs us) (next_take k m ms) (no_trees (1 + k))
cut_first v k m ms (t ∷ ts) rec =
    ap₂ (λ (xs : List Mark) (us : List Tree). visible v xs us) (next_take k m ms) (next_trees k t ts)
    ∙ ap (λ (bs : List Branch). let b : Branch = record { term = m.term; rest = t } in if nat_le m.since v then b ∷ bs else bs) (rec ts)

pub visible_cut : (v last : ℕ) (ms : List Mark) (ts : List Tree) → v ≤ last → is_rising ms ≡ true → visible v (take (early_count last ms) ms) (take (early_count last ms) ts) ≡ visible v ms ts
visible_cut v last [] ts l h = refl
visible_cut v last (m ∷ ms) ts l h = by (λ xs. visible_cut v last ms xs l (and_parts (list_all (λ y. nat_le m.since y.since) ms) (is_rising ms) h).1) (nat_le m.since last) refl
  where
    later : nat_le m.since last ≡ false → list_all (λ k. nat_le (suc v) k.since) (m ∷ ms) ≡ true
    later e =
        let p = leb-false m.since last e in
        let a = and_parts (list_all (λ y. nat_le m.since y.since) ms) (is_rising ms) h in
        front (nat_le (suc v) m.since) (list_all (λ k. nat_le (suc v) k.since) ms) (le-leb (suc v) m.since (omega (arith, p, l)))
        (all_weaker (λ y. nat_le m.since y.since) (λ k. nat_le (suc v) k.since) (λ x q. let r = leb-true m.since x.since q in le-leb (suc v) x.since (omega (arith, p, l, r))) ms a.0)

    by : ((xs : List Tree) → visible v (take (early_count last ms) ms) (take (early_count last ms) xs) ≡ visible v ms xs) → (b : Bool) → nat_le m.since last ≡ b
        → visible v (take (cond b (1 + early_count last ms) 0) (m ∷ ms)) (take (cond b (1 + early_count last ms) 0) ts) ≡ visible v (m ∷ ms) ts
    by rec true e = cut_first v (early_count last ms) m ms ts rec
    by rec false e = sym (all_hidden v (m ∷ ms) ts (later e))

-- ---- nodes

length_take_both : {A B : Type 0} → (xs : List A) (ys : List B) (k : ℕ) → length xs ≡ length ys → length (take k xs) ≡ length (take k ys)
length_take_both {A} {B} xs ys zero e = refl
length_take_both {A} {B} [] [] (suc k) e = refl
length_take_both {A} {B} [] (y ∷ ys) (suc k) e = absurd (omega (arith, e))
length_take_both {A} {B} (x ∷ xs) [] (suc k) e = absurd (omega (arith, e))
length_take_both {A} {B} (x ∷ xs) (y ∷ ys) (suc k) e = ap (λ (n : ℕ). suc n) (length_take_both xs ys k (omega (arith, e)))

pub cut_sound : (n last : ℕ) (ms : List Mark) (ns taken cut : List Node) → IsTrue (is_sound n (variants.Mine ms ns)) → taken ≡ take (early_count last ms) ns → length cut ≡ length taken → (list_all (is_sound n) taken ≡ true → list_all (is_sound last) cut ≡ true)
    → IsTrue (is_sound last (variants.Mine (take (early_count last ms) ms) cut))
cut_sound n last ms ns taken cut h t k f =
    let s = sound_parts n ms ns (sym (sound_mine n ms ns) ∙ h) in
    let c = early_count last ms in
    sound_mine last (take c ms) cut
    ∙ parts_sound last (take c ms) cut (record {
      bounded = early_bounded last ms;
      rising = take_rising ms c s.rising;
      same = length_take_both ms ns c s.same ∙ ap length (sym t) ∙ sym k;
      below = f (ap (list_all (is_sound n)) t ∙ take_all_so (is_sound n) ns c s.below);
    })

pub cut_same : (n last v : ℕ) (ms : List Mark) (ns taken cut : List Node) (qs : List Quant) → IsTrue (is_sound n (variants.Mine ms ns)) → taken ≡ take (early_count last ms) ns → v ≤ last
    → ((rs : List Quant) → list_all (is_sound n) taken ≡ true → all_shown v cut rs ≡ all_shown v taken rs)
    → shown v (variants.Mine (take (early_count last ms) ms) cut) qs ≡ shown v (variants.Mine ms ns) qs
cut_same n last v ms ns taken cut qs h t l f =
    let s = sound_parts n ms ns (sym (sound_mine n ms ns) ∙ h) in
    let c = early_count last ms in
    same_along v v (variants.Mine (take c ms) cut) (variants.Mine ms ns)
    (λ rs.
    shown_mine v (take c ms) cut rs
    ∙ ap (λ (ts : List Tree). trees.Mine (visible v (take c ms) ts))
    (f rs (ap (list_all (is_sound n)) t ∙ take_all_so (is_sound n) ns c s.below) ∙ ap (λ (xs : List Node). all_shown v xs rs) t ∙ sym (take-map (λ x. shown v x rs) c ns))
    ∙ ap trees.Mine (visible_cut v last ms (all_shown v ns rs) l s.rising)
    ∙ sym (shown_mine v ms ns rs)) qs

-- ---- the nodes below, one by one

pub one_cut_sound : (n last : ℕ) (now before new : List Node) (i : ℕ) (old cut : Node) → i < length now → length now ≡ length before → new ≡ set now i cut → old ≡ get_or before i old → ((k : ℕ) → IsTrue (is_sound k old) → IsTrue (is_sound last cut))
    → list_all (is_sound n) before ≡ true → list_all (is_sound last) (take i now) ≡ true → list_all (is_sound last) (take (i + 1) new) ≡ true
one_cut_sound n last now before new i old cut l k e o f h g =
    ap (λ (xs : List Node). list_all (is_sound last) (take (i + 1) xs)) e ∙ ap (list_all (is_sound last)) (take_more_set now i cut l)
    ∙ all_push (is_sound last) (take i now) cut g (f n (ap (is_sound n) o ∙ all_at (is_sound n) before i old (omega (arith, k, l)) h))

shown_push : (v : ℕ) (qs : List Quant) (xs : List Node) (y : Node) → all_shown v (xs ++ y ∷ []) qs ≡ all_shown v xs qs ++ shown v y qs ∷ []
shown_push v qs [] y = refl
shown_push v qs (x ∷ xs) y = ap (λ (ts : List Tree). shown v x qs ∷ ts) (shown_push v qs xs y)

pub one_cut_same : (n v : ℕ) (now before new : List Node) (i : ℕ) (old cut : Node) (qs : List Quant) → i < length now → length now ≡ length before → new ≡ set now i cut → old ≡ get_or before i old → shown v cut qs ≡ shown v old qs
    → all_shown v (take i now) qs ≡ all_shown v (take i before) qs → all_shown v (take (i + 1) new) qs ≡ all_shown v (take (i + 1) before) qs
one_cut_same n v now before new i old cut qs l k e o s g =
    ap (λ (xs : List Node). all_shown v (take (i + 1) xs) qs) e ∙ ap (λ (xs : List Node). all_shown v xs qs) (take_more_set now i cut l)
    ∙ shown_push v qs (take i now) cut ∙ ap₂ (λ (ts : List Tree) (t : Tree). ts ++ t ∷ []) g (s ∙ ap (λ (x : Node). shown v x qs) o)
    ∙ sym (shown_push v qs (take i before) (get_or before i old)) ∙ sym (ap (λ (xs : List Node). all_shown v xs qs) (take_more before i old (omega (arith, k, l))))

pub rest_kept : (now before new : List Node) (i : ℕ) (cut : Node) → i < length now → new ≡ set now i cut → drop i now ≡ drop i before → drop (i + 1) new ≡ drop (i + 1) before
rest_kept now before new i cut l e d =
    ap (drop (i + 1)) e ∙ drop-set-lt (i + 1) now i cut (omega arith)
    ∙ sym (drop-drop 1 i now) ∙ ap (drop 1) d ∙ drop-drop 1 i before

-- ---- the same for what the code has in hand

pub cut_sound_so : (n last count : ℕ) (node : Node) (ms kept : List Mark) (ns taken cut : List Node) → node ≡ variants.Mine ms ns → count ≡ early_count last ms → kept ≡ take count ms → taken ≡ take count ns → length cut ≡ length taken
    → ((k : ℕ) → list_all (is_sound k) taken ≡ true → list_all (is_sound last) cut ≡ true) → IsTrue (is_sound n node) → IsTrue (is_sound last (variants.Mine kept cut))
cut_sound_so n last count node ms kept ns taken cut e c k t l f h =
    subst (λ (xs : List Mark). IsTrue (is_sound last (variants.Mine xs cut))) (sym (k ∙ ap (λ (j : ℕ). take j ms) c))
    (cut_sound n last ms ns taken cut (subst (λ (x : Node). IsTrue (is_sound n x)) e h) (t ∙ ap (λ (j : ℕ). take j ns) c) l (f n))

pub cut_same_so : (n last v count : ℕ) (node : Node) (ms kept : List Mark) (ns taken cut : List Node) (qs : List Quant) → node ≡ variants.Mine ms ns → count ≡ early_count last ms → kept ≡ take count ms → taken ≡ take count ns → v ≤ last
    → ((rs : List Quant) → list_all (is_sound n) taken ≡ true → all_shown v cut rs ≡ all_shown v taken rs) → IsTrue (is_sound n node) → shown v (variants.Mine kept cut) qs ≡ shown v node qs
cut_same_so n last v count node ms kept ns taken cut qs e c k t l f h =
    ap (λ (xs : List Mark). shown v (variants.Mine xs cut) qs) (k ∙ ap (λ (j : ℕ). take j ms) c)
    ∙ cut_same n last v ms ns taken cut qs (subst (λ (x : Node). IsTrue (is_sound n x)) e h) (t ∙ ap (λ (j : ℕ). take j ns) c) l f
    ∙ ap (λ (x : Node). shown v x qs) (sym e)
