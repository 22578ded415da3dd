-- The size of an entry does not depend on bindings, and follows from its row.
use Rattle.std.proofs.Common.{◌≡◌, ℕ, zero, suc, ◌+◌, min, List, [], ◌∷◌, ◌++◌, length, map, get_or, refl, sym, ap, ◌∙◌}
use Rattle.term_table.specs.declared.node.Node.{Node}
use Rattle.term_table.specs.declared.node.Node.TheVariants as node
use Rattle.term_table.specs.Placed.{Placed, Frame, nothing, inner}
use Rattle.term_table.specs.Built.{distinct_of}
use Rattle.term_table.specs.Meaning.{Meaning, at, meaning, meanings_from, meanings}
use Rattle.term_table.specs.Scale.{Scale, limit, Near, ring, sum_in, layer, whole, size, free_one, free_two, free_several, distinct_layer, distinct_weight}
use Rattle.term_table.specs.Form.{Linear, row, HaveSizes, IsForm}
use Rattle.term_table.proofs.Rings.{near_plus, near_times}
use Rattle.term_table.proofs.NodeSizes.{size_leaf, size_variable, size_nothing, size_one, size_two, size_choice, size_several, size_binder}
use Rattle.term_table.proofs.Pairs.{size_distinct}

-- ---- near sums

abbrev pub AllNear : Scale → List ℕ → List ℕ → Type 0
AllNear s [] [] = Unit {0}
AllNear s [] (y ∷ ys) = ⊥
AllNear s (x ∷ xs) [] = ⊥
AllNear s (x ∷ xs) (y ∷ ys) = Near s x y × AllNear s xs ys

pub near_sum : (s : Scale) (xs ys : List ℕ) → AllNear s xs ys → Near s (sum_in (ring s) xs) (sum_in (ring s) ys)
near_sum s [] [] all = refl
near_sum s [] (y ∷ ys) all = absurd all
near_sum s (x ∷ xs) [] all = absurd all
near_sum s (x ∷ xs) (y ∷ ys) all = near_plus s x (sum_in (ring s) xs) y (sum_in (ring s) ys) all.0 (near_sum s xs ys all.1)

pub near_whole : (s : Scale) (f b : ℕ) (xs ys : List ℕ) → AllNear s xs ys → Near s (whole s f b xs) (whole s f b ys)
near_whole s f b xs ys all =
    near_plus s (layer s f b) ((ring s).times (ring s).down (sum_in (ring s) xs)) (layer s f b) ((ring s).times (ring s).down (sum_in (ring s) ys)) refl
    (near_times s (ring s).down (sum_in (ring s) xs) (ring s).down (sum_in (ring s) ys) refl (near_sum s xs ys all))

-- ---- frames in which parameters have the same sizes

abbrev pub Alike : Scale → List Placed → List Placed → Type 0
Alike s gs hs = (p n m : ℕ) → Near s (size s (get_or gs p nothing n)) (size s (get_or hs p nothing m))

abbrev pub Even : Scale → Meaning → Type 0
Even s t = (f g : Frame) (n m : ℕ) → Alike s f.given g.given → Near s (size s (t f n)) (size s (t g m))

abbrev pub AllEven : Scale → List Meaning → Type 0
AllEven s [] = Unit {0}
AllEven s (t ∷ ts) = Even s t × AllEven s ts

even-at : (s : Scale) (ms : List Meaning) (i : ℕ) → AllEven s ms → Even s (at ms i)
even-at s [] i all = λ f g n m same. refl
even-at s (t ∷ ts) zero all = all.0
even-at s (t ∷ ts) (suc i) all = even-at s ts i all.1

-- the sizes of parts in two frames
parts_even : (s : Scale) (ms : List Meaning) (is : List ℕ) (f g : Frame) (n m : ℕ) → AllEven s ms → Alike s f.given g.given
    → AllNear s (map (size s) (map (λ i. at ms i f n) is)) (map (size s) (map (λ i. at ms i g m) is))
parts_even s ms [] f g n m all same = tt
parts_even s ms (i ∷ is) f g n m all same = (even-at s ms i all f g n m same, parts_even s ms is f g n m all same)

length-parts : (ms : List Meaning) (is : List ℕ) (f : Frame) (n : ℕ) → length (map (λ i. at ms i f n) is) ≡ length is
length-parts ms [] f n = refl
length-parts ms (i ∷ is) f n = ap suc (length-parts ms is f n)

args_alike : (s : Scale) (ms : List Meaning) (is : List ℕ) (f g : Frame) → AllEven s ms → Alike s f.given g.given
    → Alike s (map (λ (a : Meaning). a f) (map (at ms) is)) (map (λ (a : Meaning). a g) (map (at ms) is))
args_alike s ms [] f g all same p n m = refl
args_alike s ms (i ∷ is) f g all same zero n m = even-at s ms i all f g n m same
args_alike s ms (i ∷ is) f g all same (suc p) n m = args_alike s ms is f g all same p n m

abbrev pairs_weight : Scale → ℕ → ℕ → ℕ
pairs_weight s k n = (ring s).plus (distinct_layer s k) ((ring s).times (distinct_weight s k) n)

near_pairs : (s : Scale) (k n m : ℕ) → Near s n m → Near s (pairs_weight s k n) (pairs_weight s k m)
near_pairs s k n m e =
    near_plus s (distinct_layer s k) ((ring s).times (distinct_weight s k) n) (distinct_layer s k) ((ring s).times (distinct_weight s k) m) refl
    (near_times s (distinct_weight s k) n (distinct_weight s k) m refl e)

distinct_law : (s : Scale) (ms : List Meaning) (is : List ℕ) (f : Frame) (n : ℕ)
    → Near s (size s (distinct_of (map (λ i. at ms i f n) is))) (pairs_weight s (length is) (sum_in (ring s) (map (size s) (map (λ i. at ms i f n) is))))
distinct_law s ms is f n =
    let ts = map (λ i. at ms i f n) is in
    size_distinct s ts ∙ ap (λ k. min (limit s) (pairs_weight s k (sum_in (ring s) (map (size s) ts)))) (length-parts ms is f n)

even_meaning : (s : Scale) (ms : List Meaning) (x : Node) → AllEven s ms → Even s (meaning ms x)
even_meaning s ms (node.Leaf l) all f g n m same = refl
even_meaning s ms (node.Parameter p) all f g n m same = same p n m
even_meaning s ms (node.Binding i) all f g n m same =
    ap (min (limit s)) (size_variable s (get_or f.bound i 0) ∙ sym (size_variable s (get_or g.bound i 0)))
even_meaning s ms (node.One op a) all f g n m same =
    let x = at ms a f n in let y = at ms a g m in
    size_one s op x ∙ near_whole s (free_one op) 0 (size s x ∷ []) (size s y ∷ []) (even-at s ms a all f g n m same, tt) ∙ sym (size_one s op y)
even_meaning s ms (node.Two op a b) all f g n m same =
    let x = at ms a f n in let y = at ms a g m in let z = at ms b f n in let w = at ms b g m in
    size_two s op x z ∙ near_whole s (free_two op) 0 (size s x ∷ size s z ∷ []) (size s y ∷ size s w ∷ []) (even-at s ms a all f g n m same, (even-at s ms b all f g n m same, tt)) ∙ sym (size_two s op y w)
even_meaning s ms (node.Choice c a b) all f g n m same =
    size_choice s (at ms c f n) (at ms a f n) (at ms b f n)
    ∙ near_whole s 1 0 (size s (at ms c f n) ∷ size s (at ms a f n) ∷ size s (at ms b f n) ∷ []) (size s (at ms c g m) ∷ size s (at ms a g m) ∷ size s (at ms b g m) ∷ [])
    (even-at s ms c all f g n m same, (even-at s ms a all f g n m same, (even-at s ms b all f g n m same, tt)))
    ∙ sym (size_choice s (at ms c g m) (at ms a g m) (at ms b g m))
even_meaning s ms (node.Several op is) all f g n m same =
    let xs = map (λ i. at ms i f n) is in let ys = map (λ i. at ms i g m) is in
    size_several s op xs ∙ near_whole s (free_several op) 0 (map (size s) xs) (map (size s) ys) (parts_even s ms is f g n m all same) ∙ sym (size_several s op ys)
even_meaning s ms (node.Distinct is) all f g n m same =
    let xs = map (size s) (map (λ i. at ms i f n) is) in let ys = map (size s) (map (λ i. at ms i g m) is) in
    distinct_law s ms is f n ∙ near_pairs s (length is) (sum_in (ring s) xs) (sum_in (ring s) ys) (near_sum s xs ys (parts_even s ms is f g n m all same)) ∙ sym (distinct_law s ms is g m)
even_meaning s ms (node.Binder q us around body) all f g n m same =
    let k = length us in
    let x = at ms body (inner around k f n) (n + k) in let y = at ms body (inner around k g m) (m + k) in
    size_binder s q us x ∙ near_whole s 1 k (size s x ∷ []) (size s y ∷ []) (even-at s ms body all (inner around k f n) (inner around k g m) (n + k) (m + k) same, tt) ∙ sym (size_binder s q us y)
even_meaning s ms (node.Use body is) all f g n m same =
    even-at s ms body all (record { given = map (λ (a : Meaning). a f) (map (at ms) is); bound = [] }) (record { given = map (λ (a : Meaning). a g) (map (at ms) is); bound = [] }) n m (args_alike s ms is f g all same)

even-push : (s : Scale) (ms : List Meaning) (t : Meaning) → AllEven s ms → Even s t → AllEven s (ms ++ t ∷ [])
even-push s [] t all is = (is, tt)
even-push s (m ∷ ms) t all is = (all.0, even-push s ms t all.1 is)

evens_from : (s : Scale) (ns : List Node) (ms : List Meaning) → AllEven s ms → AllEven s (meanings_from ms ns)
evens_from s [] ms all = all
evens_from s (x ∷ ns) ms all = evens_from s ns (ms ++ meaning ms x ∷ []) (even-push s ms (meaning ms x) all (even_meaning s ms x all))

pub evens : (s : Scale) (ns : List Node) → AllEven s (meanings ns)
unfolding meanings
evens s ns = evens_from s ns [] tt

-- ---- the row of a node

parts_map : (s : Scale) (ms : List Meaning) (is : List ℕ) (f : Frame) (n : ℕ) → map (size s) (map (λ i. at ms i f n) is) ≡ map (λ i. size s (at ms i f n)) is
parts_map s ms [] f n = refl
parts_map s ms (i ∷ is) f n = ap (λ (ns : List ℕ). size s (at ms i f n) ∷ ns) (parts_map s ms is f n)

same_given : (s : Scale) (given : List Placed) (gs : List ℕ) → HaveSizes s given gs → Alike s given given
same_given s given gs have p n m = have p n ∙ sym (have p m)

args_have : (s : Scale) (ms : List Meaning) (is : List ℕ) (f : Frame) (n : ℕ) (gs : List ℕ) → AllEven s ms → HaveSizes s f.given gs
    → HaveSizes s (map (λ (a : Meaning). a f) (map (at ms) is)) (map (λ i. size s (at ms i f n)) is)
args_have s ms [] f n gs all have p m = ap (min (limit s)) (size_nothing s)
args_have s ms (i ∷ is) f n gs all have zero m = even-at s ms i all f f m n (same_given s f.given gs have)
args_have s ms (i ∷ is) f n gs all have (suc p) m = args_have s ms is f n gs all have p m

-- the form belongs to the body of the definition that a node uses
abbrev pub FormOf : List Meaning → Linear → Node → Type 0
FormOf ms form (node.Leaf l) = Unit {0}
FormOf ms form (node.Parameter p) = Unit {0}
FormOf ms form (node.Binding i) = Unit {0}
FormOf ms form (node.One op a) = Unit {0}
FormOf ms form (node.Two op a b) = Unit {0}
FormOf ms form (node.Choice c a b) = Unit {0}
FormOf ms form (node.Several op is) = Unit {0}
FormOf ms form (node.Distinct is) = Unit {0}
FormOf ms form (node.Binder q us around body) = Unit {0}
FormOf ms form (node.Use body is) = IsForm (at ms body) form

pub row_is : (s : Scale) (ms : List Meaning) (form : Linear) (x : Node) (f : Frame) (n : ℕ) (gs : List ℕ) → AllEven s ms → FormOf ms form x → HaveSizes s f.given gs
    → Near s (size s (meaning ms x f n)) (row s (λ i. size s (at ms i f n)) gs form x)
row_is s ms form (node.Leaf l) f n gs all of have = ap (min (limit s)) (size_leaf s l)
row_is s ms form (node.Parameter p) f n gs all of have = have p n
row_is s ms form (node.Binding i) f n gs all of have = ap (min (limit s)) (size_variable s (get_or f.bound i 0))
row_is s ms form (node.One op a) f n gs all of have = size_one s op (at ms a f n)
row_is s ms form (node.Two op a b) f n gs all of have = size_two s op (at ms a f n) (at ms b f n)
row_is s ms form (node.Choice c a b) f n gs all of have = size_choice s (at ms c f n) (at ms a f n) (at ms b f n)
row_is s ms form (node.Several op is) f n gs all of have =
    size_several s op (map (λ i. at ms i f n) is) ∙ ap (λ ns. min (limit s) (whole s (free_several op) 0 ns)) (parts_map s ms is f n)
row_is s ms form (node.Distinct is) f n gs all of have =
    distinct_law s ms is f n ∙ ap (λ ns. min (limit s) (pairs_weight s (length is) (sum_in (ring s) ns))) (parts_map s ms is f n)
row_is s ms form (node.Binder q us around body) f n gs all of have =
    let k = length us in
    let x = at ms body (inner around k f n) (n + k) in
    size_binder s q us x ∙ near_whole s 1 k (size s x ∷ []) (size s (at ms body f n) ∷ []) (even-at s ms body all (inner around k f n) f (n + k) n (same_given s f.given gs have), tt)
row_is s ms form (node.Use body is) f n gs all of have =
    of s (record { given = map (λ (a : Meaning). a f) (map (at ms) is); bound = [] }) n (map (λ i. size s (at ms i f n)) is) (args_have s ms is f n gs all have)
