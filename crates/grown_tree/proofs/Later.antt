-- From the version of its last move on a tree shows the same, and is sound.
use Rattle.std.specs.Prelude.{ℕ, ◌≤◌, ◌≡◌, nat_le, Bool, true, ◌&&◌, IsTrue, if◌then◌else◌, List, [], ◌∷◌, map}
use Rattle.std.specs.List.{list_all}
use Rattle.std.proofs.Common.{arith, ap, ap₂, ◌∙◌, sym, subst, refl}
use Rattle.std.proofs.lemmas.Bool.{and_parts, leb-true, le-leb}
use Rattle.dom_core.specs.declared.Quant.{Quant}
use Rattle.game_tree.specs.declared.Tree.{Tree}
use Rattle.game_tree.specs.declared.Branch.{Branch}
use Rattle.game_tree.specs.declared.Tree.TheVariants as trees
use Rattle.grown_tree.specs.declared.marks.Mark.{Mark}
use Rattle.grown_tree.specs.declared.node.Node.{Node, Node-F, map-Node, roll-Node}
use Rattle.grown_tree.specs.declared.node.Node.TheFolds.{ind-Node}
use Rattle.grown_tree.specs.declared.node.Node.TheOpen as open_node
use Rattle.grown_tree.specs.declared.node.Node.TheVariants as variants
use Rattle.grown_tree.specs.Shown.{visible, shown, all_shown, is_sound}
use Rattle.grown_tree.proofs.Nodes.{sound_parts, parts_sound, sound_mine, sound_end, all_weaker, shown_mine, shown_end, same_along}

abbrev IsSame : Node → Type 0
IsSame n = (k v w : ℕ) (qs : List Quant) → IsTrue (is_sound k n) → k ≤ v → k ≤ w → shown v n qs ≡ shown w n qs

abbrev Proved : Type 0
Proved = (n : Node) × IsSame n

abbrev node_in : Proved → Node
node_in e = e.0

same_test : (k v : ℕ) (m : Mark) → nat_le m.since k ≡ true → k ≤ v → nat_le m.since v ≡ true
same_test k v m h l = let a = leb-true m.since k h in le-leb m.since v (omega (arith, a, l))

same_visible : (k v w : ℕ) (ms : List Mark) (ts : List Tree) → list_all (λ m. nat_le m.since k) ms ≡ true → k ≤ v → k ≤ w → visible v ms ts ≡ visible w ms ts
same_visible k v w [] ts h l r = refl
same_visible k v w (m ∷ ms) [] h l r = refl
same_visible k v w (m ∷ ms) (t ∷ ts) h l r =
    let a = and_parts (nat_le m.since k) (list_all (λ x. nat_le x.since k) ms) h in
    ap₂ (λ (c : Bool) (bs : List Branch). let b : Branch = record { term = m.term; rest = t } in if c then b ∷ bs else bs)
    (same_test k v m a.0 l ∙ sym (same_test k w m a.0 r)) (same_visible k v w ms ts a.1 l r)

same_below : (k v w : ℕ) (es : List Proved) (qs : List Quant) → list_all (is_sound k) (map node_in es) ≡ true → k ≤ v → k ≤ w → all_shown v (map node_in es) qs ≡ all_shown w (map node_in es) qs
same_below k v w [] qs h l r = refl
same_below k v w (e ∷ es) qs h l r =
    let a = and_parts (is_sound k e.0) (list_all (is_sound k) (map node_in es)) h in
    ap₂ (λ (t : Tree) (ts : List Tree). t ∷ ts) (e.1 k v w qs a.0 l r) (same_below k v w es qs a.1 l r)

mine_same : (ms : List Mark) (es : List Proved) → IsSame (variants.Mine ms (map node_in es))
mine_same ms es k v w qs h l r =
    let ns = map node_in es in
    let s = sound_parts k ms ns (sym (sound_mine k ms ns) ∙ h) in
    same_along v w (variants.Mine ms ns) (variants.Mine ms ns)
    (λ rs.
    shown_mine v ms ns rs
    ∙ ap trees.Mine (ap (λ (ts : List Tree). visible v ms ts) (same_below k v w es rs s.below l r) ∙ same_visible k v w ms (all_shown w ns rs) s.bounded l r)
    ∙ sym (shown_mine w ms ns rs)) qs

end_same : IsSame variants.End
end_same k v w qs h l r = same_along v w variants.End variants.End (λ rs. shown_end v rs ∙ sym (shown_end w rs)) qs

by_layer : (y : Node-F Proved) → IsSame (roll-Node (map-Node Proved Node node_in y))
by_layer open_node.End = subst IsSame (sym variants.rolls-End) end_same
by_layer (open_node.Mine ms es) = subst IsSame (sym (variants.rolls-Mine ms (map node_in es))) (mine_same ms es)

pub later_same : (n : Node) → IsSame n
later_same = ind-Node IsSame (λ x y is. subst (λ (z : Node-F Node). IsSame (roll-Node z)) is (by_layer y))

-- ---- what is sound stays so at a later number

abbrev IsMore : Node → Type 0
IsMore n = (k j : ℕ) → k ≤ j → IsTrue (is_sound k n) → IsTrue (is_sound j n)

abbrev Raised : Type 0
Raised = (n : Node) × IsMore n

abbrev raised_in : Raised → Node
raised_in e = e.0

more_below : (k j : ℕ) (es : List Raised) → k ≤ j → list_all (is_sound k) (map raised_in es) ≡ true → list_all (is_sound j) (map raised_in es) ≡ true
more_below k j [] l h = refl
more_below k j (e ∷ es) l h =
    let a = and_parts (is_sound k e.0) (list_all (is_sound k) (map raised_in es)) h in
    ap (λ (b : Bool). b && list_all (is_sound j) (map raised_in es)) (e.1 k j l a.0) ∙ more_below k j es l a.1

mine_more : (ms : List Mark) (es : List Raised) → IsMore (variants.Mine ms (map raised_in es))
mine_more ms es k j l h =
    let ns = map raised_in es in
    let s = sound_parts k ms ns (sym (sound_mine k ms ns) ∙ h) in
    sound_mine j ms ns
    ∙ parts_sound j ms ns (record { bounded = all_weaker (λ m. nat_le m.since k) (λ m. nat_le m.since j) (λ m e. same_test k j m e l) ms s.bounded; rising = s.rising; same = s.same; below = more_below k j es l s.below })

end_more : IsMore variants.End
end_more k j l h = sound_end j

more_layer : (y : Node-F Raised) → IsMore (roll-Node (map-Node Raised Node raised_in y))
more_layer open_node.End = subst IsMore (sym variants.rolls-End) end_more
more_layer (open_node.Mine ms es) = subst IsMore (sym (variants.rolls-Mine ms (map raised_in es))) (mine_more ms es)

pub sound_more : (n : Node) → IsMore n
sound_more = ind-Node IsMore (λ x y is. subst (λ (z : Node-F Node). IsMore (roll-Node z)) is (more_layer y))
