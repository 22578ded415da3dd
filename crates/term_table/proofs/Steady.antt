-- A term that is a constant term in one frame is the same wherever the parameters stand for the same constant terms.
use Rattle.std.proofs.Common.{◌≡◌, ℕ, zero, suc, List, [], ◌∷◌, ◌++◌, length, map, refl, sym, ◌∙◌}
use Rattle.std.specs.Prelude.{⊤}
use Rattle.lin_truth.specs.Value.{Yes}
use Rattle.lin_truth.specs.Constant.{is_constant}
use Rattle.term_table.specs.declared.node.Node.{Node}
use Rattle.term_table.specs.declared.node.Node.TheVariants as node
use Rattle.term_table.specs.Placed.{Frame, top, below, used}
use Rattle.term_table.specs.Meaning.{Meaning, at, meaning, meanings, meanings_from}
use Rattle.term_table.specs.Sound.{SameConstants}
use Rattle.term_table.proofs.Formed.{one_fixed, AllFixed, several_fixed}
use Rattle.term_table.proofs.Scoped.{nothing_constant}
use Rattle.term_table.proofs.SoundLemmas.{two_fixed}
use Rattle.term_table.proofs.SoundMore.{binder_free}

abbrev IsSteady : Meaning → Type 0
IsSteady m = (f g : Frame) (n k : ℕ) → SameConstants f.given g.given → Yes (is_constant (m f n)) → m f n ≡ m g k

abbrev AllSteady : List Meaning → Type 0
AllSteady [] = ⊤
AllSteady (m ∷ ms) = IsSteady m × AllSteady ms

steady-at : (ms : List Meaning) (i : ℕ) → AllSteady ms → IsSteady (at ms i)
steady-at [] i all = λ f g n k same c. absurd c
steady-at (m ∷ ms) zero all = all.0
steady-at (m ∷ ms) (suc i) all = steady-at ms i all.1

-- ---- nodes

fixed-parts : (ms : List Meaning) (is : List ℕ) (f g : Frame) (n k : ℕ) → AllSteady ms → SameConstants f.given g.given → AllFixed (map (λ i. at ms i f n) is) (map (λ i. at ms i g k) is)
fixed-parts ms [] f g n k all same = tt
fixed-parts ms (i ∷ is) f g n k all same = (steady-at ms i all f g n k same, fixed-parts ms is f g n k all same)

given-same : (ms : List Meaning) (args : List ℕ) (f g : Frame) → AllSteady ms → SameConstants f.given g.given
    → SameConstants (map (λ (a : Meaning). a f) (map (at ms) args)) (map (λ (a : Meaning). a g) (map (at ms) args))
given-same ms [] f g all same p n m c = absurd c
given-same ms (i ∷ args) f g all same zero n m c = steady-at ms i all f g n m same c
given-same ms (i ∷ args) f g all same (suc p) n m c = given-same ms args f g all same p n m c

steady-node : (ms : List Meaning) (x : Node) → AllSteady ms → IsSteady (meaning ms x)
steady-node ms (node.Leaf l) all f g n k same c = refl
steady-node ms (node.Parameter p) all f g n k same c = same p n k c
steady-node ms (node.Binding i) all f g n k same c = absurd c
steady-node ms (node.One op a) all f g n k same c = one_fixed op (at ms a f n) (at ms a g k) c (steady-at ms a all f g n k same)
steady-node ms (node.Two op a b) all f g n k same c =
    two_fixed op (at ms a f n) (at ms b f n) (at ms a g k) (at ms b g k) c (steady-at ms a all f g n k same) (steady-at ms b all f g n k same)
steady-node ms (node.Choice d a b) all f g n k same c = absurd c
steady-node ms (node.Several op is) all f g n k same c = several_fixed op (map (λ i. at ms i f n) is) (map (λ i. at ms i g k) is) c (fixed-parts ms is f g n k all same)
steady-node ms (node.Distinct is) all f g n k same c = absurd c
steady-node ms (node.Binder q us around body) all f g n k same c = absurd (binder_free q us (below around (length us) (at ms body) f n) c)
steady-node ms (node.Use body args) all f g n k same c =
    steady-at ms body all (record { given = map (λ (a : Meaning). a f) (map (at ms) args); bound = [] }) (record { given = map (λ (a : Meaning). a g) (map (at ms) args); bound = [] }) n k (given-same ms args f g all same) c

-- ---- tables

steady-push : (ms : List Meaning) (m : Meaning) → AllSteady ms → IsSteady m → AllSteady (ms ++ m ∷ [])
steady-push [] m all is = (is, tt)
steady-push (x ∷ ms) m all is = (all.0, steady-push ms m all.1 is)

steady-from : (ms : List Meaning) (xs : List Node) → AllSteady ms → AllSteady (meanings_from ms xs)
steady-from ms [] all = all
steady-from ms (x ∷ xs) all = steady-from (ms ++ meaning ms x ∷ []) xs (steady-push ms (meaning ms x) all (steady-node ms x all))

steady : (nodes : List Node) → AllSteady (meanings nodes)
unfolding meanings
steady nodes = steady-from [] nodes tt

-- a use of a constant term is that term
pub constant-used : (nodes : List Node) (b : ℕ) (args : List ℕ) → Yes (is_constant (at (meanings nodes) b top 0))
    → at (meanings nodes) b ≡ used (at (meanings nodes) b) (map (at (meanings nodes)) args)
constant-used nodes b args c =
    let is = steady-at (meanings nodes) b (steady nodes) in
    λ k frame n.
    (sym (is top frame 0 n (nothing_constant frame.given) c)
    ∙ is top (record { given = map (λ (a : Meaning). a frame) (map (at (meanings nodes)) args); bound = [] }) 0 n (nothing_constant (map (λ (a : Meaning). a frame) (map (at (meanings nodes)) args))) c) k
