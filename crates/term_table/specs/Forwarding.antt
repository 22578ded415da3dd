-- Uses of definitions that only pass their parameters on.
use Rattle.std.specs.Prelude.{◌≡◌, ℕ, List, length, map}
use Rattle.term_table.specs.declared.entry.Entry.{Entry}
use Rattle.term_table.specs.declared.node.Node.{Node}
use Rattle.term_table.specs.Placed.{used}
use Rattle.term_table.specs.Meaning.{Meaning, at, meaning, meanings, AreBelow, HasParts}
use Rattle.term_table.specs.Entries.{nodes_of}

-- the entries stand for these parts, where the arguments stand for the parameters
pub record Stand (es : List Entry) (parts args outs : List ℕ) : Type 0 where
  pub below : AreBelow (length es) outs
  pub same : map (at (meanings (nodes_of es))) outs ≡ map (λ i. used (at (meanings (nodes_of es)) i) (map (at (meanings (nodes_of es))) args)) parts

-- the node stands for m
pub record IsSame (es : List Entry) (m : Meaning) (x : Node) : Type 0 where
  pub parts : HasParts (length es) x
  pub same : meaning (meanings (nodes_of es)) x ≡ m
