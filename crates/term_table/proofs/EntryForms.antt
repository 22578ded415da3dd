-- The form of each entry gives its size.
use Rattle.std.proofs.Common.{◌≡◌, ℕ, zero, suc, min, List, [], ◌∷◌, ◌++◌, length, map, get_or, refl, sym, ap, subst, ◌∙◌}
use Rattle.term_table.specs.declared.amount.Amount.{Amount}
use Rattle.term_table.specs.declared.amount.Weight.{Weight}
use Rattle.term_table.specs.declared.entry.Entry.{Entry}
use Rattle.term_table.specs.declared.node.Node.{Node}
use Rattle.term_table.specs.declared.node.Node.TheVariants as node
use Rattle.term_table.specs.Placed.{top}
use Rattle.term_table.specs.Meaning.{Meaning, nowhere, at, meaning, meanings}
use Rattle.term_table.specs.Scale.{Scale, limit, Near, amount, weight, ring, sum_in, size, free_one, free_two, free_several, distinct_layer, distinct_weight}
use Rattle.term_table.specs.Form.{Linear, dot, value, row, IsForm, IsValue, AreSizes}
use Rattle.term_table.specs.Entries.{bare_form, nodes_of, forms_of, knowns_of, form_at, part_value, body_form, row_in, AreForms, IsKnown, AreKnown, AreEntries}
use Rattle.term_table.proofs.Knowing.{knowns-push}
use Rattle.term_table.proofs.Rings.{near_plus, near_times}
use Rattle.term_table.proofs.NodeSizes.{size_nothing}
use Rattle.term_table.proofs.Amounts.{amount-layer, plus_zero}
use Rattle.term_table.proofs.Rows.{AllNear, near_sum, near_whole, evens, FormOf, row_is}
use Rattle.term_table.specs.Meaning.{HasParts}
use Rattle.term_table.specs.Order.{IsOrdered}
use Rattle.term_table.proofs.Growth.{meanings-push, ordered-push}

near_dot : (s : Scale) (us : List Weight) (xs ys : List ℕ) → AllNear s xs ys → Near s (dot s us xs) (dot s us ys)
near_dot s [] xs ys all = refl
near_dot s (u ∷ us) [] [] all = refl
near_dot s (u ∷ us) [] (y ∷ ys) all = absurd all
near_dot s (u ∷ us) (x ∷ xs) [] all = absurd all
near_dot s (u ∷ us) (x ∷ xs) (y ∷ ys) all =
    near_plus s ((ring s).times (weight s u) x) (dot s us xs) ((ring s).times (weight s u) y) (dot s us ys) (near_times s (weight s u) x (weight s u) y refl all.0) (near_dot s us xs ys all.1)

maps_near : (s : Scale) (x y : ℕ → ℕ) (is : List ℕ) → ((j : ℕ) → Near s (x j) (y j)) → AllNear s (map x is) (map y is)
maps_near s x y [] near = tt
maps_near s x y (i ∷ is) near = (near i, maps_near s x y is near)

row_near : (s : Scale) (x y : ℕ → ℕ) (gs : List ℕ) (form : Linear) (n : Node) → ((j : ℕ) → Near s (x j) (y j)) → Near s (row s x gs form n) (row s y gs form n)
row_near s x y gs form (node.Leaf l) near = refl
row_near s x y gs form (node.Parameter p) near = refl
row_near s x y gs form (node.Binding i) near = refl
row_near s x y gs form (node.One op a) near = near_whole s (free_one op) 0 (x a ∷ []) (y a ∷ []) (near a, tt)
row_near s x y gs form (node.Two op a b) near = near_whole s (free_two op) 0 (x a ∷ x b ∷ []) (y a ∷ y b ∷ []) (near a, (near b, tt))
row_near s x y gs form (node.Choice c a b) near = near_whole s 1 0 (x c ∷ x a ∷ x b ∷ []) (y c ∷ y a ∷ y b ∷ []) (near c, (near a, (near b, tt)))
row_near s x y gs form (node.Several op is) near = near_whole s (free_several op) 0 (map x is) (map y is) (maps_near s x y is near)
row_near s x y gs form (node.Distinct is) near =
    near_plus s (distinct_layer s (length is)) ((ring s).times (distinct_weight s (length is)) (sum_in (ring s) (map x is))) (distinct_layer s (length is)) ((ring s).times (distinct_weight s (length is)) (sum_in (ring s) (map y is))) refl
    (near_times s (distinct_weight s (length is)) (sum_in (ring s) (map x is)) (distinct_weight s (length is)) (sum_in (ring s) (map y is)) refl (near_sum s (map x is) (map y is) (maps_near s x y is near)))
row_near s x y gs form (node.Binder q us around body) near = near_whole s 1 (length us) (x body ∷ []) (y body ∷ []) (near body, tt)
row_near s x y gs form (node.Use body is) near =
    near_plus s (amount s form.own) (dot s form.uses (map x is)) (amount s form.own) (dot s form.uses (map y is)) refl (near_dot s form.uses (map x is) (map y is) (maps_near s x y is near))

nowhere_form : IsForm nowhere bare_form
nowhere_form s frame n gs have = ap (min (limit s)) (size_nothing s ∙ sym (plus_zero s (amount s bare_form.own) ∙ amount-layer s 1 0))

pub form_is-at : (ms : List Meaning) (fs : List Linear) (i : ℕ) → AreForms ms fs → IsForm (at ms i) (get_or fs i bare_form)
form_is-at [] [] i are = nowhere_form
form_is-at [] (f ∷ fs) i are = absurd are
form_is-at (m ∷ ms) [] i are = absurd are
form_is-at (m ∷ ms) (f ∷ fs) zero are = are.0
form_is-at (m ∷ ms) (f ∷ fs) (suc i) are = form_is-at ms fs i are.1

body_of : (ms : List Meaning) (es : List Entry) (x : Node) → AreForms ms (forms_of es) → FormOf ms (body_form es x) x
body_of ms es (node.Leaf l) are = tt
body_of ms es (node.Parameter p) are = tt
body_of ms es (node.Binding i) are = tt
body_of ms es (node.One op a) are = tt
body_of ms es (node.Two op a b) are = tt
body_of ms es (node.Choice c a b) are = tt
body_of ms es (node.Several op is) are = tt
body_of ms es (node.Distinct is) are = tt
body_of ms es (node.Binder q us around body) are = tt
body_of ms es (node.Use body is) are = form_is-at ms (forms_of es) body are

-- the form of a node that is added
new_form : (ns : List Node) (es : List Entry) (x : Node) (form : Linear) → AreForms (meanings ns) (forms_of es) → IsValue (λ s gs. row_in s es gs x) form → IsForm (meaning (meanings ns) x) form
new_form ns es x form are is s frame n gs have =
    let ms = meanings ns in
    row_is s ms (body_form es x) x frame n gs (evens s ns) (body_of ms es x are) have
    ∙ row_near s (λ i. size s (at ms i frame n)) (part_value s es gs) gs (body_form es x) x (λ j. form_is-at ms (forms_of es) j are s frame n gs have)
    ∙ sym (is s gs)

forms-push : (ms : List Meaning) (fs : List Linear) (m : Meaning) (f : Linear) → AreForms ms fs → IsForm m f → AreForms (ms ++ m ∷ []) (fs ++ f ∷ [])
forms-push [] [] m f are is = (is, tt)
forms-push [] (g ∷ fs) m f are is = absurd are
forms-push (t ∷ ms) [] m f are is = absurd are
forms-push (t ∷ ms) (g ∷ fs) m f are is = (are.0, forms-push ms fs m f are.1 is)

map-push : {A : Type 0} → (f : Entry → A) (es : List Entry) (e : Entry) → map f (es ++ e ∷ []) ≡ map f es ++ f e ∷ []
map-push f [] e = refl
map-push f (x ∷ es) e = ap (λ r. f x ∷ r) (map-push f es e)

pub nodes-push : (es : List Entry) (e : Entry) → nodes_of (es ++ e ∷ []) ≡ nodes_of es ++ e.node ∷ []
nodes-push es e = map-push (λ (x : Entry). x.node) es e

pub length-nodes : (es : List Entry) → length (nodes_of es) ≡ length es
length-nodes [] = refl
length-nodes (e ∷ es) = ap suc (length-nodes es)

pub entries-push : (es : List Entry) (e : Entry) → AreForms (meanings (nodes_of es)) (forms_of es) → IsValue (λ s gs. row_in s es gs e.node) e.form
    → AreForms (meanings (nodes_of (es ++ e ∷ []))) (forms_of (es ++ e ∷ []))
entries-push es e are is =
    let ns = nodes_of es in
    subst (λ (ms : List Meaning). AreForms ms (forms_of (es ++ e ∷ []))) (sym (ap meanings (nodes-push es e) ∙ meanings-push ns e.node))
    (subst (AreForms (meanings ns ++ meaning (meanings ns) e.node ∷ [])) (sym (map-push (λ (x : Entry). x.form) es e))
    (forms-push (meanings ns) (forms_of es) (meaning (meanings ns) e.node) e.form are (new_form ns es e.node e.form are is)))

values-push : (es : List Entry) (e : Entry) → AreKnown (meanings (nodes_of es)) (knowns_of es) → IsKnown (meaning (meanings (nodes_of es)) e.node) e.known
    → AreKnown (meanings (nodes_of (es ++ e ∷ []))) (knowns_of (es ++ e ∷ []))
values-push es e are is =
    let ns = nodes_of es in
    subst (λ (ms : List Meaning). AreKnown ms (knowns_of (es ++ e ∷ []))) (sym (ap meanings (nodes-push es e) ∙ meanings-push ns e.node))
    (subst (AreKnown (meanings ns ++ meaning (meanings ns) e.node ∷ [])) (sym (map-push (λ (x : Entry). x.known) es e))
    (knowns-push (meanings ns) (knowns_of es) (meaning (meanings ns) e.node) e.known are is))

-- the size of a node that is added, with nothing around
pub size_of-node : (es : List Entry) (x : Node) (n : ℕ) (form : Linear) (a : Amount) (s : Scale) → AreForms (meanings (nodes_of es)) (forms_of es) → IsValue (λ z gs. row_in z es gs x) form → AreSizes a (λ z. value z form [])
    → Near s (amount s a) (size s (meaning (meanings (nodes_of es)) x top n))
size_of-node es x n form a s are is sizes =
    sizes s ∙ sym (new_form (nodes_of es) es x form are is s top n [] (λ p m. ap (min (limit s)) (size_nothing s)))

-- the size of an entry with nothing around
pub size_of-entry : (es : List Entry) (i n : ℕ) (a : Amount) (s : Scale) → AreForms (meanings (nodes_of es)) (forms_of es) → AreSizes a (λ z. value z (form_at es i) []) → Near s (amount s a) (size s (at (meanings (nodes_of es)) i top n))
size_of-entry es i n a s are is =
    is s ∙ sym (form_is-at (meanings (nodes_of es)) (forms_of es) i are s top n [] (λ p m. ap (min (limit s)) (size_nothing s)))

-- ---- the table

pub no_entries : (es : List Entry) → es ≡ [] → AreEntries es
unfolding meanings
no_entries es e = subst AreEntries (sym e) (record { ordered = record { from_start = tt }; forms = tt; known = tt })

pub one_more_entry : (es new : List Entry) (e : Entry) → new ≡ es ++ e ∷ [] → AreEntries es → HasParts (length (nodes_of es)) e.node → IsValue (λ s gs. row_in s es gs e.node) e.form
    → IsKnown (meaning (meanings (nodes_of es)) e.node) e.known → AreEntries new
one_more_entry es new e same are has is known =
    subst AreEntries (sym same)
    (record { ordered = subst IsOrdered (sym (nodes-push es e)) (ordered-push (nodes_of es) e.node are.ordered has); forms = entries-push es e are.forms is; known = values-push es e are.known known })
