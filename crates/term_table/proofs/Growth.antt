-- What the entries stand for, as the table grows.
use Rattle.std.proofs.Common.{◌≡◌, ℕ, zero, suc, ◌+◌, ◌<◌, ◌≤◌, List, [], ◌∷◌, ◌++◌, length, map, take, drop, get_or, refl, sym, ap, subst, ◌∙◌, arith, append_assoc, length-append, length-take-le, take-append-drop, drop-cons}
use Rattle.std.proofs.Math.Seq.{get_or-append_seam}
use Rattle.std.proofs.lemmas.List.{get_or_append_left}
use Rattle.lin_truth.specs.Term.{ite}
use Rattle.term_table.specs.declared.node.Node.{Node}
use Rattle.term_table.specs.declared.node.Node.TheVariants as node
use Rattle.term_table.specs.Placed.{Frame, below, used}
use Rattle.term_table.specs.Built.{one_of, two_of, several_of, distinct_of, binder_of}
use Rattle.term_table.specs.Meaning.{Meaning, nowhere, at, meaning, meanings_from, meanings, Extends, IsAt, AreBelow, HasParts}
use Rattle.term_table.specs.Order.{AreOrderedFrom, IsOrdered}

-- ---- adding

meanings_from-push : (ms : List Meaning) (ns : List Node) (x : Node) → meanings_from ms (ns ++ x ∷ []) ≡ meanings_from ms ns ++ meaning (meanings_from ms ns) x ∷ []
meanings_from-push ms [] x = refl
meanings_from-push ms (y ∷ ns) x = meanings_from-push (ms ++ meaning ms y ∷ []) ns x

pub meanings-push : (ns : List Node) (x : Node) → meanings (ns ++ x ∷ []) ≡ meanings ns ++ meaning (meanings ns) x ∷ []
unfolding meanings
meanings-push ns x = meanings_from-push [] ns x

length-meanings_from : (ms : List Meaning) (ns : List Node) → length (meanings_from ms ns) ≡ length ms + length ns
length-meanings_from ms [] = omega arith
length-meanings_from ms (y ∷ ns) = omega (arith, length-meanings_from (ms ++ meaning ms y ∷ []) ns, length-append ms (meaning ms y ∷ []))

pub length-meanings : (ns : List Node) → length (meanings ns) ≡ length ns
unfolding meanings
length-meanings ns = omega (arith, length-meanings_from [] ns)

-- the entry that was added
pub at-push : (ns : List Node) (x : Node) → at (meanings (ns ++ x ∷ [])) (length ns) ≡ meaning (meanings ns) x
at-push ns x =
    ap (λ (ms : List Meaning). at ms (length ns)) (meanings-push ns x)
    ∙ ap (λ (k : ℕ). at (meanings ns ++ meaning (meanings ns) x ∷ []) k) (sym (length-meanings ns))
    ∙ get_or-append_seam (meanings ns) (meaning (meanings ns) x) [] nowhere

pub added : (ns new : List Node) (x : Node) (i : ℕ) → i ≡ length ns → new ≡ ns ++ x ∷ [] → IsAt new i (meaning (meanings ns) x)
added ns new x i place is =
    ((λ k. at (meanings (is k)) (place k)) ∙ at-push ns x, (let e : length new ≡ length ns + 1 = ap length is ∙ length-append ns (x ∷ []) in omega arith))

ordered_from-push : (n : ℕ) (ns : List Node) (x : Node) → AreOrderedFrom n ns → HasParts (n + length ns) x → AreOrderedFrom n (ns ++ x ∷ [])
ordered_from-push n [] x are has = (subst (λ k. HasParts k x) (omega arith) has, tt)
ordered_from-push n (y ∷ ns) x are has = (are.0, ordered_from-push (n + 1) ns x are.1 (subst (λ k. HasParts k x) (omega arith) has))

pub ordered-push : (ns : List Node) (x : Node) → IsOrdered ns → HasParts (length ns) x → IsOrdered (ns ++ x ∷ [])
ordered-push ns x are has = record { from_start = ordered_from-push 0 ns x are.from_start (subst (λ k. HasParts k x) (omega arith) has) }

-- ---- entries keep their meaning

prefix_from : (ms : List Meaning) (ns more : List Node) → (rest : List Meaning) × (meanings_from ms (ns ++ more) ≡ meanings_from ms ns ++ rest)
prefix_from ms [] [] = ([], sym (append_nil ms))
  where
    append_nil : (ms : List Meaning) → ms ++ [] ≡ ms
    append_nil [] = refl
    append_nil (m ∷ ms) = ap (λ r. m ∷ r) (append_nil ms)
prefix_from ms [] (x ∷ more) =
    let step = prefix_from (ms ++ meaning ms x ∷ []) [] more in
    (meaning ms x ∷ step.0, step.1 ∙ append_assoc ms (meaning ms x ∷ []) step.0)
prefix_from ms (y ∷ ns) more = prefix_from (ms ++ meaning ms y ∷ []) ns more

prefix_all : (ns more : List Node) → (rest : List Meaning) × (meanings (ns ++ more) ≡ meanings ns ++ rest)
unfolding meanings
prefix_all ns more = prefix_from [] ns more

pub at-extends : (old new : List Node) (i : ℕ) → Extends old new → i < length old → at (meanings new) i ≡ at (meanings old) i
at-extends old new i grown lt =
    let all = prefix_all old grown.0 in
    (λ k. at (meanings (grown.1 k)) i) ∙ ap (λ (ms : List Meaning). at ms i) all.1
    ∙ get_or_append_left (meanings old) all.0 nowhere i (omega (arith, length-meanings old))

pub Extends-length : (old new : List Node) → Extends old new → length old ≤ length new
Extends-length old new grown = let e : length new ≡ length old + length grown.0 = ap length grown.1 ∙ length-append old grown.0 in omega arith

pub Extends-then : (a b c : List Node) → Extends a b → Extends b c → Extends a c
Extends-then a b c p q = (p.0 ++ q.0, q.1 ∙ ap (λ (r : List Node). r ++ q.0) p.1 ∙ append_assoc a p.0 q.0)

pub Extends-same : (a : List Node) → Extends a a
Extends-same a = ([], sym (end a))
  where
    end : (a : List Node) → a ++ [] ≡ a
    end [] = refl
    end (x ∷ a) = ap (λ r. x ∷ r) (end a)

parts-extends : (old new : List Node) (is : List ℕ) (frame : Frame) (n : ℕ) → Extends old new → AreBelow (length old) is
    → map (λ i. at (meanings new) i frame n) is ≡ map (λ i. at (meanings old) i frame n) is
parts-extends old new [] frame n grown below = refl
parts-extends old new (i ∷ is) frame n grown below =
    λ k. at-extends old new i grown below.0 k frame n ∷ parts-extends old new is frame n grown below.1 k

-- the arguments of a use
args-extends : (old new : List Node) (is : List ℕ) → Extends old new → AreBelow (length old) is → map (at (meanings new)) is ≡ map (at (meanings old)) is
args-extends old new [] grown below = refl
args-extends old new (i ∷ is) grown below = λ k. at-extends old new i grown below.0 k ∷ args-extends old new is grown below.1 k

-- a node stands for the same in a table that grew
pub meaning-extends : (old new : List Node) (x : Node) → Extends old new → HasParts (length old) x → meaning (meanings new) x ≡ meaning (meanings old) x
meaning-extends old new (node.Leaf l) grown has = refl
meaning-extends old new (node.Parameter p) grown has = refl
meaning-extends old new (node.Binding i) grown has = refl
meaning-extends old new (node.One op a) grown has = λ k frame n. one_of op (at-extends old new a grown has k frame n)
meaning-extends old new (node.Two op a b) grown has = λ k frame n. two_of op (at-extends old new a grown has.0 k frame n) (at-extends old new b grown has.1 k frame n)
meaning-extends old new (node.Choice c a b) grown has =
    λ k frame n. ite (at-extends old new c grown has.0 k frame n) (at-extends old new a grown has.1 k frame n) (at-extends old new b grown has.2 k frame n)
meaning-extends old new (node.Several op parts) grown has = λ k frame n. several_of op (parts-extends old new parts frame n grown has k)
meaning-extends old new (node.Distinct parts) grown has = λ k frame n. distinct_of (parts-extends old new parts frame n grown has k)
meaning-extends old new (node.Binder q sorts around body) grown has =
    λ k frame n. binder_of q sorts (below around (length sorts) (at-extends old new body grown has k) frame n)
meaning-extends old new (node.Use body args) grown has =
    λ k frame n. used (at-extends old new body grown has.0 k) (args-extends old new args grown has.1 k) frame n

-- ---- an entry and its node

ordered-at : (ns : List Node) (n i : ℕ) (d : Node) → AreOrderedFrom n ns → i < length ns → HasParts (n + i) (get_or ns i d)
ordered-at [] n i d are lt = absurd (omega arith)
ordered-at (x ∷ ns) n zero d are lt = subst (λ k. HasParts k x) (omega arith) are.0
ordered-at (x ∷ ns) n (suc i) d are lt = subst (λ k. HasParts k (get_or ns i d)) (omega arith) (ordered-at ns (n + 1) i d are.1 (omega arith))

pub parts-at : (ns : List Node) (i : ℕ) (d : Node) → IsOrdered ns → i < length ns → HasParts i (get_or ns i d)
parts-at ns i d are lt = subst (λ k. HasParts k (get_or ns i d)) (omega arith) (ordered-at ns 0 i d are.from_start lt)

pub node-at : (ns : List Node) (i : ℕ) (d : Node) → IsOrdered ns → i < length ns → at (meanings ns) i ≡ meaning (meanings ns) (get_or ns i d)
node-at ns i d ordered lt =
    let x = get_or ns i d in
    let front = take i ns in
    let len : length front ≡ i = length-take-le i ns (omega arith) in
    let parts : ns ≡ front ++ x ∷ drop (suc i) ns = sym (take-append-drop i ns) ∙ ap (λ (r : List Node). front ++ r) (drop-cons ns i d lt) in
    let grown : Extends front ns = (x ∷ drop (suc i) ns, parts) in
    let grown_one : Extends (front ++ x ∷ []) ns = (drop (suc i) ns, parts ∙ sym (append_assoc front (x ∷ []) (drop (suc i) ns))) in
    let has : HasParts (length front) x = subst (λ k. HasParts k x) (sym len) (parts-at ns i d ordered lt) in
    at-extends (front ++ x ∷ []) ns i grown_one (omega (arith, length-append front (x ∷ [])))
    ∙ ap (λ (k : ℕ). at (meanings (front ++ x ∷ [])) k) (sym len) ∙ at-push front x ∙ sym (meaning-extends front ns x grown has)
