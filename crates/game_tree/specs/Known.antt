-- A map from moves to places.
use Rattle.std.specs.Prelude.{ℕ, ◌≡◌, List}
use Rattle.std.specs.declared.cmp.Ordering.{Ordering}
use Rattle.std.specs.Ordering.{on}
use Rattle.std.specs.BTreeMap.{BTreeMap, get}
use Rattle.lin_term.specs.Move.{Move}
use Rattle.lin_term.specs.Order.{move_cmp}
use Rattle.game_tree.specs.declared.key.MoveKey.{MoveKey}
use Rattle.game_tree.specs.Gather.{place}

abbrev pub key_cmp : MoveKey → MoveKey → Ordering
key_cmp = on (λ k. k.term.now) move_cmp

-- it has the first place of each of the moves, and nothing else
abbrev pub Knows : BTreeMap MoveKey ℕ → List Move → Type 0
Knows map ms = (k : MoveKey) → get key_cmp map k ≡ place k.term.now ms
