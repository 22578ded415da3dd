-- What the entries of a table stand for.
use Rattle.std.specs.Prelude.{◌≡◌, ◌<◌, ℕ, List, [], ◌∷◌, ◌++◌, length, map, slice_index_or, ⊤}
use Rattle.lin_truth.specs.Term.{ite}
use Rattle.term_table.specs.declared.node.Node.{Node}
use Rattle.term_table.specs.declared.node.Node.TheVariants as node
use Rattle.term_table.specs.Placed.{Placed, Frame, nothing, parameter, binding, below, used}
use Rattle.term_table.specs.Built.{leaf_of, one_of, two_of, several_of, distinct_of, binder_of}

-- the tree of an entry, from what stands around it
abbrev pub Meaning : Type 0
Meaning = Frame → Placed

abbrev pub nowhere : Meaning
nowhere frame = nothing

abbrev pub at : List Meaning → ℕ → Meaning
at ms i = slice_index_or ms i nowhere

-- a node, where the entries before it stand for these
abbrev pub meaning : List Meaning → Node → Meaning
meaning ms (node.Leaf l) frame n = leaf_of l
meaning ms (node.Parameter p) frame n = parameter p frame n
meaning ms (node.Binding i) frame n = binding i frame n
meaning ms (node.One op a) frame n = one_of op (at ms a frame n)
meaning ms (node.Two op a b) frame n = two_of op (at ms a frame n) (at ms b frame n)
meaning ms (node.Choice c a b) frame n = ite (at ms c frame n) (at ms a frame n) (at ms b frame n)
meaning ms (node.Several op parts) frame n = several_of op (map (λ i. at ms i frame n) parts)
meaning ms (node.Distinct parts) frame n = distinct_of (map (λ i. at ms i frame n) parts)
meaning ms (node.Binder q sorts around body) frame n = binder_of q sorts (below around (length sorts) (at ms body) frame n)
meaning ms (node.Use body args) frame n = used (at ms body) (map (at ms) args) frame n

-- each entry, from those before it
abbrev pub meanings_from : List Meaning → List Node → List Meaning
meanings_from ms [] = ms
meanings_from ms (x ∷ xs) = meanings_from (ms ++ meaning ms x ∷ []) xs

unfoldable pub meanings : List Node → List Meaning
meanings = meanings_from []

-- ---- tables that grow

-- new is old with more at its end
abbrev pub Extends : List Node → List Node → Type 0
Extends old new = (more : List Node) × (new ≡ old ++ more)

-- entry i of the table stands for m
abbrev pub IsAt : List Node → ℕ → Meaning → Type 0
IsAt nodes i m = (at (meanings nodes) i ≡ m) × (i < length nodes)

-- ---- order

abbrev pub AreBelow : ℕ → List ℕ → Type 0
AreBelow n [] = ⊤
AreBelow n (i ∷ is) = (i < n) × AreBelow n is

-- its parts are in a table of n entries
abbrev pub HasParts : ℕ → Node → Type 0
HasParts n (node.Leaf l) = ⊤
HasParts n (node.Parameter p) = ⊤
HasParts n (node.Binding i) = ⊤
HasParts n (node.One op a) = a < n
HasParts n (node.Two op a b) = (a < n) × (b < n)
HasParts n (node.Choice c a b) = (c < n) × (a < n) × (b < n)
HasParts n (node.Several op parts) = AreBelow n parts
HasParts n (node.Distinct parts) = AreBelow n parts
HasParts n (node.Binder q sorts around body) = body < n
HasParts n (node.Use body args) = (body < n) × AreBelow n args
