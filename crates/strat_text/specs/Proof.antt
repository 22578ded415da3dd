-- A proof: its lines in preorder, which close one tree.
use Rattle.std.specs.Prelude.{ℕ, zero, suc, ◌+◌, List, codes, Ok, Err}
use Rattle.cube_rules.specs.declared.step.Step.{Step}
use Rattle.cube_rules.specs.Lines.{parts}
use Rattle.strat_words.specs.Spot.{Spot, Taken, ◌>>=◌, first, ends, is, next_place}
use Rattle.strat_words.specs.Many.{times, state_behind}
use Rattle.strat_words.specs.Taking.{count}
use Rattle.strat_text.specs.Line.{step}

-- how many subproofs are open behind a line, where `open` were before it
abbrev pub open_behind : ℕ → Step → ℕ
open_behind zero line = 0
open_behind (suc others) line = others + parts line

-- a line stands where a subproof is open
abbrev pub proof_line : ℕ → ℕ → Spot → Taken Step
proof_line version zero s = Err (next_place s)
proof_line version (suc others) s = step version s

-- it is done where none is open
abbrev pub closed : ℕ → Taken (List Step) → Spot → Taken (List Step)
closed zero lines s = lines
closed (suc left) lines s = Err (next_place s)

-- the lines, and that they close
abbrev pub all_closed : Taken (List Step) → Taken (List Step)
all_closed (Ok x) = closed (state_behind open_behind 1 x.0) (Ok x) x.1
all_closed (Err p) = Err p

-- `proof L` and L lines
unfoldable pub proof : ℕ → Spot → Taken (List Step)
proof version s = do
  w ← is (codes "proof") (first s)
  n ← count 1 w
  after ← ends n.1
  all_closed (times (proof_line version) open_behind n.0 1 after)
