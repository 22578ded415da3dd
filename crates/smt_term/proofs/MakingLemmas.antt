-- Nodes of applications, as the table grows.
use Rattle.std.proofs.Common.{◌≡◌, ℕ, zero, suc, ◌+◌, ◌-◌, ◌<◌, ◌≤◌, List, [], ◌∷◌, ◌++◌, length, map, drop, get_or, Result, Ok, Err, refl, sym, ap, subst, ◌∙◌, arith, append_assoc, length-append, drop-cons, add-one}
use Rattle.std.proofs.Math.ListN.{drop_of_length-le}
use Rattle.std.proofs.lemmas.List.{append-nil, map_push as map-push}
use Rattle.ss_names.specs.declared.ScriptFault.{ScriptFault}
use Rattle.ss_names.specs.declared.ScriptFault.TheVariants.{Bad, Memory}
use Rattle.lin_truth.specs.Term.{Term, no, and_of, negated, equal}
use Rattle.lin_truth.specs.View.{terms_of}
use Rattle.lin_truth.specs.declared.VarSort.TheVariants as sort
use Rattle.term_table.specs.declared.Node.{Node}
use Rattle.term_table.specs.declared.Node.TheVariants as node
use Rattle.term_table.specs.declared.Binary.{Binary}
use Rattle.term_table.specs.Placed.{Frame}
use Rattle.term_table.specs.Built.{two_of, distinct_of}
use Rattle.term_table.specs.Meaning.{Meaning, at, meaning, meanings, Extends, AreBelow}
use Rattle.term_table.proofs.Growth.{at-extends, Extends-then}
use Rattle.smt_term.specs.declared.operator.Shape.{Shape}
use Rattle.smt_term.specs.declared.operator.Shape.TheVariants as shapes
use Rattle.smt_term.specs.declared.seen.Seen.{Seen}
use Rattle.smt_term.specs.Apply.{needed, built, trees, chained, all_hold, all_differ, from_left}
use Rattle.smt_term.specs.View.{all_at, AreIn, Makes}

pub Extends-refl : (ns : List Node) → Extends ns ns
Extends-refl ns = ([], sym (append-nil ns))

pub Extends-length : (old new : List Node) → Extends old new → length old ≤ length new
Extends-length old new grown = omega (arith, ap length grown.1, length-append old grown.0)

-- ---- lists of entries

abbrev pub no_seen : Seen
no_seen = record { sort = sort.Bool; node = 0 }

pub same_at : (xs : List Seen) (i : ℕ) (d e : Seen) → i < length xs → get_or xs i d ≡ get_or xs i e
same_at [] i d e lt = absurd (omega arith)
same_at (x ∷ xs) zero d e lt = refl
same_at (x ∷ xs) (suc i) d e lt = same_at xs i d e (omega arith)

pub length-mapped : (f : ℕ → Term) (xs : List ℕ) → length (map f xs) ≡ length xs
length-mapped f [] = refl
length-mapped f (x ∷ xs) = ap suc (length-mapped f xs)

pub trees-seen : (ms : List Meaning) (xs : List Seen) (frame : Frame) (n : ℕ)
    → trees (all_at ms xs) frame n ≡ map (λ i. at ms i frame n) (map (λ (x : Seen). x.node) xs)
trees-seen ms [] frame n = refl
trees-seen ms (x ∷ xs) frame n = ap (λ (ts : List Term). at ms x.node frame n ∷ ts) (trees-seen ms xs frame n)

pub length-trees : (ms : List Meaning) (xs : List Seen) (frame : Frame) (n : ℕ) → length (trees (all_at ms xs) frame n) ≡ length xs
length-trees ms [] frame n = refl
length-trees ms (x ∷ xs) frame n = ap suc (length-trees ms xs frame n)

length-drop : (xs : List Seen) (i : ℕ) → length (drop i xs) ≡ length xs - i
length-drop xs zero = omega arith
length-drop [] (suc i) = omega arith
length-drop (x ∷ xs) (suc i) = omega (arith, length-drop xs i)

pub AreBelow-nodes : (n : ℕ) (xs : List Seen) → AreIn n xs → AreBelow n (map (λ (x : Seen). x.node) xs)
AreBelow-nodes n [] within = tt
AreBelow-nodes n (x ∷ xs) within = (within.0, AreBelow-nodes n xs within.1)

pub AreIn-at : (n : ℕ) (xs : List Seen) (i : ℕ) (d : Seen) → AreIn n xs → i < length xs → (get_or xs i d).node < n
AreIn-at n [] i d within lt = absurd (omega arith)
AreIn-at n (x ∷ xs) zero d within lt = within.0
AreIn-at n (x ∷ xs) (suc i) d within lt = AreIn-at n xs i d within.1 (omega arith)

pub AreIn-drop : (n : ℕ) (xs : List Seen) (i : ℕ) → AreIn n xs → AreIn n (drop i xs)
AreIn-drop n xs zero within = within
AreIn-drop n [] (suc i) within = tt
AreIn-drop n (x ∷ xs) (suc i) within = AreIn-drop n xs i within.1

pub AreBelow-more : (m n : ℕ) (is : List ℕ) → m ≤ n → AreBelow m is → AreBelow n is
AreBelow-more m n [] le below = tt
AreBelow-more m n (i ∷ is) le below = (omega (arith, below.0), AreBelow-more m n is le below.1)

pub AreBelow-push : (n : ℕ) (is : List ℕ) (i : ℕ) → AreBelow n is → i < n → AreBelow n (is ++ i ∷ [])
AreBelow-push n [] i below lt = (lt, tt)
AreBelow-push n (k ∷ is) i below lt = (below.0, AreBelow-push n is i below.1 lt)

pub map-at-extends : (old new : List Node) (is : List ℕ) (frame : Frame) (n : ℕ) → Extends old new → AreBelow (length old) is
    → map (λ i. at (meanings new) i frame n) is ≡ map (λ i. at (meanings old) i frame n) is
map-at-extends old new [] frame n grown below = refl
map-at-extends old new (i ∷ is) frame n grown below =
    λ j. at-extends old new i grown below.0 j frame n ∷ map-at-extends old new is frame n grown below.1 j

-- ---- answers

-- the same meaning, in other words
pub makes_as : (old new : List Node) (r : Result ℕ ScriptFault) (m w : Meaning) → ((frame : Frame) (n : ℕ) → m frame n ≡ w frame n)
    → Makes old r new m → Makes old r new w
makes_as old new r m w same made = subst (λ (x : Meaning). Makes old r new x) (λ i frame n. same frame n i) made

-- made later
pub makes_then : (old mid new : List Node) (r : Result ℕ ScriptFault) (m : Meaning) → Extends old mid → Makes mid r new m → Makes old r new m
makes_then old mid new (Ok i) m grown made = (made.0, made.1, Extends-then old mid new grown made.2)
makes_then old mid new (Err (Bad k line column)) m grown made = made
makes_then old mid new (Err Memory) m grown made = tt

-- a fault is want of memory
pub makes_fault : (old mid new newer : List Node) (e : ScriptFault) (m w : Meaning) → Makes old (Err e) mid m → Makes new (Err e) newer w
makes_fault old mid new newer (Bad k line column) m w made = absurd made
makes_fault old mid new newer Memory m w made = tt

-- ---- shapes

pub all_hold-many : (ts : List Term) → (length ts ≡ 1 → ⊥) → all_hold ts ≡ and_of (terms_of ts)
all_hold-many [] many = refl
all_hold-many (t ∷ []) many = absurd (many refl)
all_hold-many (t ∷ u ∷ ts) many = refl

pub all_differ-many : (ts : List Term) → (length ts ≡ 2 → ⊥) → all_differ ts ≡ distinct_of ts
all_differ-many [] many = refl
all_differ-many (t ∷ []) many = refl
all_differ-many (t ∷ u ∷ []) many = absurd (many refl)
all_differ-many (t ∷ u ∷ v ∷ ts) many = refl

pub all_differ-two : (ms : List Meaning) (xs : List Seen) (frame : Frame) (n : ℕ) → length xs ≡ 2
    → all_differ (trees (all_at ms xs) frame n) ≡ negated (equal (at ms (get_or xs 0 no_seen).node frame n) (at ms (get_or xs 1 no_seen).node frame n))
all_differ-two ms [] frame n two = absurd (omega (arith, two))
all_differ-two ms (x ∷ []) frame n two = absurd (omega (arith, two))
all_differ-two ms (x ∷ y ∷ []) frame n two = refl
all_differ-two ms (x ∷ y ∷ z ∷ xs) frame n two = absurd (omega (arith, two))

pub right_step : (op : Binary) (a : Term) (ts : List Term) → 0 < length ts → built (shapes.Right op) (a ∷ ts) ≡ two_of op a (built (shapes.Right op) ts)
right_step op a [] some = absurd (omega arith)
right_step op a (b ∷ ts) some = refl

-- ---- loops

-- from the left: what was made stands for the first ones, and the others follow
pub record LeftOn (old new : List Node) (op : Binary) (first : ℕ) (rest : List Seen) (i made : ℕ) : Type 0 where
  pub same : (frame : Frame) (n : ℕ) → from_left op (at (meanings new) made frame n) (trees (all_at (meanings old) (drop i rest)) frame n)
      ≡ from_left op (at (meanings old) first frame n) (trees (all_at (meanings old) rest) frame n)
  pub within : made < length new
  pub extends : Extends old new

-- from the right: what was made stands for the last ones
pub record RightOn (old new : List Node) (op : Binary) (args : List Seen) (first made : ℕ) : Type 0 where
  pub same : (frame : Frame) (n : ℕ) → at (meanings new) made frame n ≡ built (shapes.Right op) (trees (all_at (meanings old) (drop first args)) frame n)
  pub within : made < length new
  pub extends : Extends old new
  pub some : first < length args

-- links: those that were made, and those that follow
pub record LinksOn (old new : List Node) (op : Binary) (args : List Seen) (i : ℕ) (parts : List ℕ) : Type 0 where
  pub same : (frame : Frame) (n : ℕ) → map (λ k. at (meanings new) k frame n) parts ++ chained op (trees (all_at (meanings old) (drop (i - 1) args)) frame n)
      ≡ chained op (trees (all_at (meanings old) args) frame n)
  pub below : AreBelow (length new) parts
  pub extends : Extends old new
  pub some : 1 ≤ i

at_cons : (xs : List Seen) (i : ℕ) (x : Seen) → i < length xs → x ≡ get_or xs i x → drop i xs ≡ x ∷ drop (i + 1) xs
at_cons xs i x lt is = rw add-one (drop-cons xs i x lt ∙ ap (λ (z : Seen). z ∷ drop (suc i) xs) (sym is))

pub left_step : (old new newer : List Node) (op : Binary) (first : ℕ) (rest : List Seen) (i made next : ℕ) (x : Seen)
    → LeftOn old new op first rest i made → AreIn (length old) rest → i < length rest → x ≡ get_or rest i x
    → at (meanings newer) next ≡ meaning (meanings new) (node.Two op made x.node) → next < length newer → Extends new newer
    → LeftOn old newer op first rest (i + 1) next
left_step old new newer op first rest i made next x on args lt is made_is within grown =
    let low : x.node < length old = subst (λ (z : Seen). z.node < length old) (sym is) (AreIn-at (length old) rest i x args lt) in
    let cons = at_cons rest i x lt is in
    record {
      same = λ frame n.
          let R = trees (all_at (meanings old) (drop (i + 1) rest)) frame n in
          let A = at (meanings new) made frame n in
          let node_is : at (meanings newer) next frame n ≡ two_of op A (at (meanings old) x.node frame n) =
          ap (λ (m : Meaning). m frame n) made_is ∙ ap (λ (m : Meaning). two_of op A (m frame n)) (at-extends old new x.node on.extends low) in
          ap (λ (t : Term). from_left op t R) node_is ∙ ap (λ (ys : List Seen). from_left op A (trees (all_at (meanings old) ys) frame n)) (sym cons) ∙ on.same frame n;
      within = within;
      extends = Extends-then old new newer on.extends grown;
    }

pub left_all : (old new : List Node) (op : Binary) (first : ℕ) (rest : List Seen) (i made : ℕ) → LeftOn old new op first rest i made → length rest ≤ i
    → Makes old (Ok made) new (λ frame n. from_left op (at (meanings old) first frame n) (trees (all_at (meanings old) rest) frame n))
left_all old new op first rest i made on le =
    let over : drop i rest ≡ [] = drop_of_length-le rest le in
    let same : (frame : Frame) (n : ℕ) → at (meanings new) made frame n ≡ from_left op (at (meanings old) first frame n) (trees (all_at (meanings old) rest) frame n) =
    λ frame n. ap (λ (ys : List Seen). from_left op (at (meanings new) made frame n) (trees (all_at (meanings old) ys) frame n)) (sym over) ∙ on.same frame n in
    ((λ j frame n. same frame n j), on.within, on.extends)

pub right_begins : (ns : List Node) (op : Binary) (args : List Seen) (first : ℕ) (x : Seen) → AreIn (length ns) args → first + 1 ≡ length args → x ≡ get_or args first x
    → RightOn ns ns op args first x.node
right_begins ns op args first x within last is =
    let lt : first < length args = omega (arith, last) in
    let over : drop (first + 1) args ≡ [] = drop_of_length-le args (omega (arith, last)) in
    let one : drop first args ≡ x ∷ [] = at_cons args first x lt is ∙ ap (λ (ys : List Seen). x ∷ ys) over in
    record {
      same = λ frame n. ap (λ (ys : List Seen). built (shapes.Right op) (trees (all_at (meanings ns) ys) frame n)) (sym one);
      within = subst (λ (z : Seen). z.node < length ns) (sym is) (AreIn-at (length ns) args first x within lt);
      extends = Extends-refl ns;
      some = lt;
    }

pub right_goes : (old new newer : List Node) (op : Binary) (args : List Seen) (first before made next : ℕ) (x : Seen)
    → RightOn old new op args first made → AreIn (length old) args → before + 1 ≡ first → x ≡ get_or args before x
    → at (meanings newer) next ≡ meaning (meanings new) (node.Two op x.node made) → next < length newer → Extends new newer
    → RightOn old newer op args before next
right_goes old new newer op args first before made next x on within step is made_is in_new grown =
    let lt : before < length args = omega (arith, on.some, step) in
    let low : x.node < length old = subst (λ (z : Seen). z.node < length old) (sym is) (AreIn-at (length old) args before x within lt) in
    let cons : drop before args ≡ x ∷ drop first args = at_cons args before x lt is ∙ ap (λ k. x ∷ drop k args) step in
    record {
      same = λ frame n.
          let T = trees (all_at (meanings old) (drop first args)) frame n in
          let A = at (meanings old) x.node frame n in
          let some : 0 < length T = omega (arith, length-trees (meanings old) (drop first args) frame n, length-drop args first, on.some) in
          ap (λ (m : Meaning). m frame n) made_is
          ∙ ap (λ (m : Meaning). two_of op (m frame n) (at (meanings new) made frame n)) (at-extends old new x.node on.extends low)
          ∙ ap (two_of op A) (on.same frame n)
          ∙ sym (right_step op A T some)
          ∙ ap (λ (ys : List Seen). built (shapes.Right op) (trees (all_at (meanings old) ys) frame n)) (sym cons);
      within = in_new;
      extends = Extends-then old new newer on.extends grown;
      some = lt;
    }

pub links_begin : (ns : List Node) (op : Binary) (args : List Seen) → LinksOn ns ns op args 1 []
links_begin ns op args = record { same = λ frame n. refl; below = tt; extends = Extends-refl ns; some = omega arith }

pub links_go : (old new newer : List Node) (op : Binary) (args : List Seen) (i : ℕ) (parts : List ℕ) (next : ℕ) (x y : Seen)
    → LinksOn old new op args i parts → AreIn (length old) args → i < length args → x ≡ get_or args (i - 1) x → y ≡ get_or args i y
    → at (meanings newer) next ≡ meaning (meanings new) (node.Two op x.node y.node) → next < length newer → Extends new newer
    → LinksOn old newer op args (i + 1) (parts ++ next ∷ [])
links_go old new newer op args i parts next x y on within lt x_is y_is made_is in_new grown =
    let before : i - 1 < length args = omega (arith, on.some) in
    let x_low : x.node < length old = subst (λ (z : Seen). z.node < length old) (sym x_is) (AreIn-at (length old) args (i - 1) x within before) in
    let y_low : y.node < length old = subst (λ (z : Seen). z.node < length old) (sym y_is) (AreIn-at (length old) args i y within lt) in
    let up : i - 1 + 1 ≡ i = omega (arith, on.some) in
    let down : i + 1 - 1 ≡ i = omega arith in
    let second : drop i args ≡ y ∷ drop (i + 1) args = at_cons args i y lt y_is in
    let first : drop (i - 1) args ≡ x ∷ y ∷ drop (i + 1) args =
    at_cons args (i - 1) x before x_is ∙ ap (λ k. x ∷ drop k args) up ∙ ap (λ (ys : List Seen). x ∷ ys) second in
    record {
      same = λ frame n.
          let ms = meanings old in
          let X = at ms x.node frame n in
          let Y = at ms y.node frame n in
          let R = chained op (trees (all_at ms (y ∷ drop (i + 1) args)) frame n) in
          let node_is : at (meanings newer) next frame n ≡ two_of op X Y =
          ap (λ (m : Meaning). m frame n) made_is
          ∙ ap (λ (m : Meaning). two_of op (m frame n) (at (meanings new) y.node frame n)) (at-extends old new x.node on.extends x_low)
          ∙ ap (λ (m : Meaning). two_of op X (m frame n)) (at-extends old new y.node on.extends y_low) in
          let P = map (λ k. at (meanings new) k frame n) parts in
          let made : map (λ k. at (meanings newer) k frame n) (parts ++ next ∷ []) ≡ P ++ two_of op X Y ∷ [] =
          map-push (λ k. at (meanings newer) k frame n) parts next
          ∙ ap (λ (ts : List Term). ts ++ at (meanings newer) next frame n ∷ []) (map-at-extends new newer parts frame n grown on.below)
          ∙ ap (λ (t : Term). P ++ t ∷ []) node_is in
          let left : chained op (trees (all_at ms (drop (i + 1 - 1) args)) frame n) ≡ R =
          ap (λ k. chained op (trees (all_at ms (drop k args)) frame n)) down ∙ ap (λ (ys : List Seen). chained op (trees (all_at ms ys) frame n)) second in
          ap (λ (ts : List Term). ts ++ chained op (trees (all_at ms (drop (i + 1 - 1) args)) frame n)) made
          ∙ ap (λ (ts : List Term). (P ++ two_of op X Y ∷ []) ++ ts) left
          ∙ append_assoc P (two_of op X Y ∷ []) R
          ∙ ap (λ (ys : List Seen). P ++ chained op (trees (all_at ms ys) frame n)) (sym first)
          ∙ on.same frame n;
      below = AreBelow-push (length newer) parts next (AreBelow-more (length new) (length newer) parts (Extends-length new newer grown) on.below) in_new;
      extends = Extends-then old new newer on.extends grown;
      some = omega arith;
    }

chained-short : (op : Binary) (ts : List Term) → length ts ≤ 1 → chained op ts ≡ []
chained-short op [] le = refl
chained-short op (a ∷ []) le = refl
chained-short op (a ∷ b ∷ ts) le = absurd (omega arith)

pub links_all : (old new : List Node) (op : Binary) (args : List Seen) (i : ℕ) (parts : List ℕ) → LinksOn old new op args i parts → length args ≤ i
    → (frame : Frame) (n : ℕ) → map (λ k. at (meanings new) k frame n) parts ≡ chained op (trees (all_at (meanings old) args) frame n)
links_all old new op args i parts on le frame n =
    let T = trees (all_at (meanings old) (drop (i - 1) args)) frame n in
    let short : chained op T ≡ [] = chained-short op T (omega (arith, length-trees (meanings old) (drop (i - 1) args) frame n, length-drop args (i - 1))) in
    sym (append-nil _) ∙ ap (λ (ts : List Term). map (λ k. at (meanings new) k frame n) parts ++ ts) (sym short) ∙ on.same frame n

-- ---- shapes that need arguments

pub built-few : (s : Shape) (ts : List Term) → length ts < needed s → built s ts ≡ no
built-few (shapes.Truth b) ts few = absurd (omega arith)
built-few (shapes.One op) [] few = refl
built-few (shapes.One op) (a ∷ ts) few = absurd (omega arith)
built-few (shapes.Several op) ts few = absurd (omega arith)
built-few (shapes.Chain op) ts few = absurd (omega arith)
built-few shapes.Pairwise ts few = absurd (omega arith)
built-few (shapes.Left op) [] few = refl
built-few (shapes.Left op) (a ∷ ts) few = absurd (omega arith)
built-few (shapes.Right op) [] few = refl
built-few (shapes.Right op) (a ∷ ts) few = absurd (omega arith)
built-few shapes.Difference [] few = refl
built-few shapes.Difference (a ∷ ts) few = absurd (omega arith)
built-few shapes.Choice [] few = refl
built-few shapes.Choice (a ∷ []) few = refl
built-few shapes.Choice (a ∷ b ∷ []) few = refl
built-few shapes.Choice (a ∷ b ∷ c ∷ ts) few = absurd (omega arith)
