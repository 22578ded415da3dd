-- A tree of moves in preorder, along the turns.
use Rattle.std.specs.Prelude.{ℕ, zero, suc, ◌+◌, Bool, true, false, List, [], ◌∷◌, ◌++◌, codes, Ok, Err}
use Rattle.std.specs.List.{list_any}
use Rattle.std.specs.Str.{bytes_eq}
use Rattle.lin_term.specs.Move.{Move}
use Rattle.game_tree.specs.declared.tree.Tree.{Tree}
use Rattle.game_tree.specs.declared.tree.Tree.TheVariants as trees
use Rattle.game_tree.specs.declared.tree.Branch.{Branch}
use Rattle.strat_words.specs.Spot.{Spot, Taken, ◌>>=◌, first, ends, is, no_more, last_place}
use Rattle.strat_words.specs.Many.{made}
use Rattle.strat_words.specs.Taking.{count}
use Rattle.strat_text.specs.Line.{row}
use Rattle.strat_text.specs.Written as written

-- `m D C A V A V ..`, over the variables below the position
unfoldable pub move_words : ℕ → Spot → Taken Move
move_words pos s = do
  w ← is (codes "m") (first s)
  d ← count 1 w
  r ← row pos d.1
  after ← no_more r.1
  Ok (record { numer = r.0; div = d.0 }, after)

abbrev pub is_written_as : Move → Move → Bool
is_written_as m n = bytes_eq (written.move_words m) (written.move_words n)

-- A move that its node has already is a fault at its last word.
abbrev pub fresh : Bool → Move × Spot → Taken Move
fresh true m = Err (last_place m.1)
fresh false m = ends m.1 >>= λ after. Ok (m.0, after)

-- a move line of a node that has the moves `before` already
unfoldable pub move_line : ℕ → List Move → Spot → Taken Move
move_line pos before s = move_words pos s >>= λ m. fresh (list_any (is_written_as m.0) before) m

-- the moves of a node, each with the tree behind it
unfoldable pub branches : (Spot → Taken Tree) → ℕ → ℕ → List Move → Spot → Taken (List Branch)
branches rest pos zero before s = Ok ([], s)
branches rest pos (suc n) before s = do
  m ← move_line pos before s
  t ← rest m.1
  made (λ bs. record { term = m.0; rest = t.0 } ∷ bs) (branches rest pos n (before ++ m.0 ∷ []) t.1)

-- along the turns from position pos on
unfoldable pub tree : List Bool → ℕ → Spot → Taken Tree
tree [] pos s = Ok (trees.End, s)
tree (false ∷ ts) pos s = do
  w ← is (codes "t") (first s)
  after ← ends w
  made trees.Theirs (tree ts (pos + 1) after)
tree (true ∷ ts) pos s = do
  w ← is (codes "o") (first s)
  n ← count 1 w
  after ← ends n.1
  made trees.Mine (branches (tree ts (pos + 1)) pos n.0 [] after)
