-- Sizes as linear forms over the sizes of what stands for the parameters.
use Rattle.std.specs.Prelude.{ℕ, List, [], ◌∷◌, length, map, slice_index_or}
use Rattle.term_table.specs.declared.amount.Amount.{Amount}
use Rattle.term_table.specs.declared.amount.Weight.{Weight}
use Rattle.term_table.specs.declared.node.Node.{Node}
use Rattle.term_table.specs.declared.node.Node.TheVariants as node
use Rattle.term_table.specs.Placed.{Placed, Frame, nothing}
pub use Rattle.term_table.specs.Linear.{Linear}
use Rattle.term_table.specs.Meaning.{Meaning}
use Rattle.term_table.specs.Scale.{Scale, Near, amount, weight, size, ring, sum_in, layer, whole, bare, free_leaf, free_one, free_two, free_several, distinct_layer, distinct_weight}

-- each parameter's size as often as it counts; one for which nothing is given is bare
abbrev pub dot : Scale → List Weight → List ℕ → ℕ
dot s [] gs = 0
dot s (u ∷ us) [] = (ring s).plus ((ring s).times (weight s u) (bare s)) (dot s us [])
dot s (u ∷ us) (g ∷ gs) = (ring s).plus ((ring s).times (weight s u) g) (dot s us gs)

abbrev pub value : Scale → Linear → List ℕ → ℕ
value s f gs = (ring s).plus (amount s f.own) (dot s f.uses gs)

-- the size of a node, from those of the entries, of the parameters, and the forms of definitions' bodies
abbrev pub row : Scale → (ℕ → ℕ) → List ℕ → Linear → Node → ℕ
row s x gs form (node.Leaf l) = layer s (free_leaf l) 0
row s x gs form (node.Parameter p) = slice_index_or gs p (bare s)
row s x gs form (node.Binding i) = bare s
row s x gs form (node.One op a) = whole s (free_one op) 0 (x a ∷ [])
row s x gs form (node.Two op a b) = whole s (free_two op) 0 (x a ∷ x b ∷ [])
row s x gs form (node.Choice c a b) = whole s 1 0 (x c ∷ x a ∷ x b ∷ [])
row s x gs form (node.Several op parts) = whole s (free_several op) 0 (map x parts)
row s x gs form (node.Distinct parts) = (ring s).plus (distinct_layer s (length parts)) ((ring s).times (distinct_weight s (length parts)) (sum_in (ring s) (map x parts)))
row s x gs form (node.Binder q sorts around body) = whole s 1 (length sorts) (x body ∷ [])
row s x gs form (node.Use body args) = value s form (map x args)

-- ---- what forms say

-- what is given for the parameters has these sizes, wherever it stands
abbrev pub HaveSizes : Scale → List Placed → List ℕ → Type 0
HaveSizes s given gs = (p n : ℕ) → Near s (size s (slice_index_or given p nothing n)) (slice_index_or gs p (bare s))

-- the form gives the size of the entry in each frame
abbrev pub IsForm : Meaning → Linear → Type 0
IsForm m form = (s : Scale) (frame : Frame) (n : ℕ) (gs : List ℕ) → HaveSizes s frame.given gs → Near s (size s (m frame n)) (value s form gs)

-- these are the sizes, as far as scales tell them apart
abbrev pub AreSizes : Amount → (Scale → ℕ) → Type 0
AreSizes a f = (s : Scale) → Near s (amount s a) (f s)

-- the form has this value
abbrev pub IsValue : (Scale → List ℕ → ℕ) → Linear → Type 0
IsValue f form = (s : Scale) (gs : List ℕ) → Near s (value s form gs) (f s gs)

-- the new form has more, counted so
abbrev pub Adds : Weight → (Scale → List ℕ → ℕ) → Linear → Linear → Type 0
Adds w f old new = IsValue (λ s gs. (ring s).plus (value s old gs) ((ring s).times (weight s w) (f s gs))) new
