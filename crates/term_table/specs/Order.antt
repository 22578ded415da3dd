-- Tables in which each entry's parts stand before it.
use Rattle.std.specs.Prelude.{ℕ, ◌+◌, List, [], ◌∷◌, ⊤}
use Rattle.term_table.specs.declared.node.Node.{Node}
use Rattle.term_table.specs.Meaning.{HasParts}

abbrev pub AreOrderedFrom : ℕ → List Node → Type 0
AreOrderedFrom n [] = ⊤
AreOrderedFrom n (x ∷ xs) = HasParts n x × AreOrderedFrom (n + 1) xs

pub record IsOrdered (nodes : List Node) : Type 0 where
  pub from_start : AreOrderedFrom 0 nodes
