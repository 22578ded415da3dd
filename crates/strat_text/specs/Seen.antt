-- A set of texts that has the moves of a node.
use Rattle.std.specs.Prelude.{◌≡◌, ℕ, List}
use Rattle.std.specs.List.{list_any}
use Rattle.std.specs.Str.{bytes_eq}
use Rattle.std.specs.Ordering.{nat_cmp}
use Rattle.std.specs.Cmp.Lexicographic.{slice_cmp}
use Rattle.std.specs.BTreeSet.{BTreeSet, contains}
use denote.Ref.{Bor}
use Rattle.lin_term.specs.Move.{Move}
use Rattle.strat_text.specs.Written.{move_words}

-- a text is in the set exactly where it is that of one of the moves
abbrev pub HasMoves : BTreeSet (Bor (List ℕ)) → List Move → Type 0
HasMoves set moves = (t : Bor (List ℕ)) → contains (λ a b. slice_cmp nat_cmp a.now b.now) set t ≡ list_any (λ m. bytes_eq t.now (move_words m)) moves
