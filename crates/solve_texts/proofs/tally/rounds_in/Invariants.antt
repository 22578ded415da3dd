use Rattle.std.proofs.Common.{◌≡◌, ◌≤◌, take}
use Rattle.game_board.specs.Entries.{entries_of}
use Rattle.solve_texts.specs.Tally.{added_in}
use Rattle.solve_texts.proofs.tally.rounds_in.Given as goal

abbrev pub invariant-loop-entry : goal.invariant-loop-entry
invariant-loop-entry g l = record { count : l.rounds ≡ added_in (entries_of (take l.entry-index l.entries)); few : l.rounds ≤ l.entry-index }
