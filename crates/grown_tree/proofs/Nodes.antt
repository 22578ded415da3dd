-- What a node shows and keeps, by its cases.
use Rattle.std.specs.Prelude.{ℕ, zero, suc, ◌<◌, ◌≡◌, ◌==◌, ◌↔◌, nat_le, Bool, true, false, ◌&&◌, IsTrue, List, [], ◌∷◌, ◌++◌, map, length, get_or, set}
use Rattle.std.specs.List.{list_all}
use Rattle.std.proofs.Common.{arith, ap, ◌∙◌, sym, refl}
use Rattle.std.proofs.lemmas.Bool.{and_parts, eqb-true, eqb-false}
use Rattle.dom_core.specs.declared.Quant.{Quant}
use Rattle.dom_core.specs.declared.Quant.TheVariants.{Exists, Forall}
use Rattle.game_tree.specs.declared.Tree.{Tree}
use Rattle.game_tree.specs.declared.Tree.TheVariants as trees
use Rattle.grown_tree.specs.declared.marks.Mark.{Mark}
use Rattle.grown_tree.specs.declared.node.Node.{Node, Node-F, fold-roll-Node, map-Node, out-Node, roll-Node, roll-out-Node}
use Rattle.grown_tree.specs.declared.node.Node.TheOpen as open_node
use Rattle.grown_tree.specs.declared.node.Node.TheVariants as variants
use Rattle.grown_tree.specs.Shown.{visible, shown_step, shown, all_shown, is_rising, sound_step, is_sound, are_sound}

abbrev Shown : Type 0
Shown = List Quant → Tree

at_each : (v : ℕ) (ns : List Node) (qs : List Quant) → map (λ (f : Shown). f qs) (map (shown v) ns) ≡ all_shown v ns qs
at_each v [] qs = refl
at_each v (n ∷ ns) qs = ap (λ (ts : List Tree). shown v n qs ∷ ts) (at_each v ns qs)

-- ---- what is shown

pub shown_mine : (v : ℕ) (ms : List Mark) (ns : List Node) (qs : List Quant) → shown v (variants.Mine ms ns) (Exists ∷ qs) ≡ trees.Mine (visible v ms (all_shown v ns qs))
shown_mine v ms ns qs =
    ap (λ (f : Shown). f (Exists ∷ qs)) (ap (shown v) (sym (variants.rolls-Mine ms ns)) ∙ fold-roll-Node Shown (shown_step v) (open_node.Mine ms ns))
    ∙ ap (λ (ts : List Tree). trees.Mine (visible v ms ts)) (at_each v ns qs)

pub shown_end : (v : ℕ) (qs : List Quant) → shown v variants.End (Exists ∷ qs) ≡ trees.Mine []
shown_end v qs = ap (λ (f : Shown). f (Exists ∷ qs)) (ap (shown v) (sym variants.rolls-End) ∙ fold-roll-Node Shown (shown_step v) open_node.End)

opened : (v : ℕ) (n : Node) (k : Node-F Node) → n ≡ roll-Node k → shown v n ≡ shown_step v (map-Node Node Shown (shown v) k)
opened v n k e = ap (shown v) e ∙ fold-roll-Node Shown (shown_step v) k

pub shown_nil : (v : ℕ) (n : Node) → shown v n [] ≡ trees.End
shown_nil v n = by (out-Node n) (sym (roll-out-Node n))
  where
    by : (k : Node-F Node) → n ≡ roll-Node k → shown v n [] ≡ trees.End
    by open_node.End e = ap (λ (f : Shown). f []) (opened v n open_node.End e)
    by (open_node.Mine ms ns) e = ap (λ (f : Shown). f []) (opened v n (open_node.Mine ms ns) e)

pub shown_forall : (v : ℕ) (n : Node) (qs : List Quant) → shown v n (Forall ∷ qs) ≡ trees.Theirs (shown v n qs)
shown_forall v n qs = by (out-Node n) (sym (roll-out-Node n))
  where
    by : (k : Node-F Node) → n ≡ roll-Node k → shown v n (Forall ∷ qs) ≡ trees.Theirs (shown v n qs)
    by open_node.End e =
        ap (λ (f : Shown). f (Forall ∷ qs)) (opened v n open_node.End e) ∙ ap trees.Theirs (sym (ap (λ (f : Shown). f qs) (opened v n open_node.End e)))
    by (open_node.Mine ms ns) e =
        ap (λ (f : Shown). f (Forall ∷ qs)) (opened v n (open_node.Mine ms ns) e) ∙ ap trees.Theirs (sym (ap (λ (f : Shown). f qs) (opened v n (open_node.Mine ms ns) e)))

-- what is shown at own variables decides what is shown along every prefix
pub same_along : (v w : ℕ) (a b : Node) → ((qs : List Quant) → shown v a (Exists ∷ qs) ≡ shown w b (Exists ∷ qs)) → (qs : List Quant) → shown v a qs ≡ shown w b qs
same_along v w a b h [] = shown_nil v a ∙ sym (shown_nil w b)
same_along v w a b h (Exists ∷ qs) = h qs
same_along v w a b h (Forall ∷ qs) = shown_forall v a qs ∙ ap trees.Theirs (same_along v w a b h qs) ∙ sym (shown_forall w b qs)

-- ---- what is kept

pub sound_mine : (n : ℕ) (ms : List Mark) (ns : List Node) → is_sound n (variants.Mine ms ns) ≡ are_sound n ms ns
sound_mine n ms ns = ap (is_sound n) (sym (variants.rolls-Mine ms ns)) ∙ fold-roll-Node Bool (sound_step n) (open_node.Mine ms ns)

pub sound_end : (n : ℕ) → is_sound n variants.End ≡ true
sound_end n = ap (is_sound n) (sym variants.rolls-End) ∙ fold-roll-Node Bool (sound_step n) open_node.End

pub record Sound (n : ℕ) (ms : List Mark) (ns : List Node) : Type 0 where
  pub bounded : list_all (λ m. nat_le m.since n) ms ≡ true
  pub rising : is_rising ms ≡ true
  pub same : length ms ≡ length ns
  pub below : list_all (is_sound n) ns ≡ true

each_sound : (n : ℕ) (ns : List Node) → list_all (λ (b : Bool). b) (map (is_sound n) ns) ≡ list_all (is_sound n) ns
each_sound n [] = refl
each_sound n (x ∷ ns) = ap (λ (b : Bool). is_sound n x && b) (each_sound n ns)

length_each : (n : ℕ) (ns : List Node) → length (map (is_sound n) ns) ≡ length ns
length_each n [] = refl
length_each n (x ∷ ns) = ap (λ (k : ℕ). suc k) (length_each n ns)

pub sound_parts : (n : ℕ) (ms : List Mark) (ns : List Node) → IsTrue (are_sound n ms ns) → Sound n ms ns
sound_parts n ms ns h =
    let a = and_parts (list_all (λ m. nat_le m.since n) ms && is_rising ms) ((length ms == length (map (is_sound n) ns)) && list_all (λ (b : Bool). b) (map (is_sound n) ns)) h in
    let b = and_parts (list_all (λ m. nat_le m.since n) ms) (is_rising ms) a.0 in
    let c = and_parts (length ms == length (map (is_sound n) ns)) (list_all (λ (b : Bool). b) (map (is_sound n) ns)) a.1 in
    record { bounded = b.0; rising = b.1; same = eqb-true (length ms) (length (map (is_sound n) ns)) c.0 ∙ length_each n ns; below = sym (each_sound n ns) ∙ c.1 }

both_so : (x y : Bool) → x ≡ true → y ≡ true → (x && y) ≡ true
both_so x y e f = ap (λ (b : Bool). b && y) e ∙ f

same_so : (x y : ℕ) → x ≡ y → (x == y) ≡ true
same_so x y e = by (x == y) refl
  where
    by : (b : Bool) → (x == y) ≡ b → b ≡ true
    by true h = refl
    by false h = absurd (eqb-false x y h e)

pub equal_test : (x y : ℕ) → IsTrue (x == y) ↔ (x ≡ y)
equal_test x y = (λ h. eqb-true x y h, λ e. same_so x y e)

pub parts_sound : (n : ℕ) (ms : List Mark) (ns : List Node) → Sound n ms ns → IsTrue (are_sound n ms ns)
parts_sound n ms ns s =
    both_so (list_all (λ m. nat_le m.since n) ms && is_rising ms) ((length ms == length (map (is_sound n) ns)) && list_all (λ (b : Bool). b) (map (is_sound n) ns))
    (both_so (list_all (λ m. nat_le m.since n) ms) (is_rising ms) s.bounded s.rising)
    (both_so (length ms == length (map (is_sound n) ns)) (list_all (λ (b : Bool). b) (map (is_sound n) ns)) (same_so (length ms) (length (map (is_sound n) ns)) (s.same ∙ sym (length_each n ns))) (each_sound n ns ∙ s.below))

-- ---- lists that pass a test

pub all_at : {A : Type 0} → (p : A → Bool) (xs : List A) (i : ℕ) (d : A) → i < length xs → list_all p xs ≡ true → p (get_or xs i d) ≡ true
all_at {A} p [] i d l h = absurd (omega (arith, l))
all_at {A} p (x ∷ xs) zero d l h = (and_parts (p x) (list_all p xs) h).0
all_at {A} p (x ∷ xs) (suc i) d l h = all_at p xs i d (omega (arith, l)) (and_parts (p x) (list_all p xs) h).1

pub all_set : {A : Type 0} → (p : A → Bool) (xs : List A) (i : ℕ) (y : A) → list_all p xs ≡ true → p y ≡ true → list_all p (set xs i y) ≡ true
all_set {A} p [] i y h k = refl
all_set {A} p (x ∷ xs) zero y h k = both_so (p y) (list_all p xs) k (and_parts (p x) (list_all p xs) h).1
all_set {A} p (x ∷ xs) (suc i) y h k = let a = and_parts (p x) (list_all p xs) h in both_so (p x) (list_all p (set xs i y)) a.0 (all_set p xs i y a.1 k)

pub all_push : {A : Type 0} → (p : A → Bool) (xs : List A) (y : A) → list_all p xs ≡ true → p y ≡ true → list_all p (xs ++ y ∷ []) ≡ true
all_push {A} p [] y h k = both_so (p y) true k refl
all_push {A} p (x ∷ xs) y h k = let a = and_parts (p x) (list_all p xs) h in both_so (p x) (list_all p (xs ++ y ∷ [])) a.0 (all_push p xs y a.1 k)

pub all_weaker : {A : Type 0} → (p q : A → Bool) → ((x : A) → p x ≡ true → q x ≡ true) → (xs : List A) → list_all p xs ≡ true → list_all q xs ≡ true
all_weaker {A} p q w [] h = refl
all_weaker {A} p q w (x ∷ xs) h = let a = and_parts (p x) (list_all p xs) h in both_so (q x) (list_all q xs) (w x a.0) (all_weaker p q w xs a.1)

pub rising_push : (ms : List Mark) (m : Mark) → is_rising ms ≡ true → list_all (λ k. nat_le k.since m.since) ms ≡ true → is_rising (ms ++ m ∷ []) ≡ true
rising_push [] m h k = refl
rising_push (x ∷ ms) m h k =
    let a = and_parts (list_all (λ y. nat_le x.since y.since) ms) (is_rising ms) h in
    let b = and_parts (nat_le x.since m.since) (list_all (λ y. nat_le y.since m.since) ms) k in
    both_so (list_all (λ y. nat_le x.since y.since) (ms ++ m ∷ [])) (is_rising (ms ++ m ∷ [])) (all_push (λ y. nat_le x.since y.since) ms m a.0 b.0) (rising_push ms m a.1 b.1)

-- ---- prefixes

pub nil_prefix : (qs : List Quant) → length qs < 1 → qs ≡ []
nil_prefix [] l = refl
nil_prefix (q ∷ qs) l = absurd (omega (arith, l))
