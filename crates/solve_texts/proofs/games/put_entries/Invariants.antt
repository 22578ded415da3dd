use Rattle.std.proofs.Common.{◌≡◌, ◌++◌, take}
use Rattle.std.specs.List.{flat_map}
use Rattle.game_board.specs.Entries.{entry_of}
use Rattle.solve_texts.specs.Journal.{entry_text}
use Rattle.solve_texts.proofs.games.put_entries.Given as goal

abbrev pub invariant-loop-entry : goal.invariant-loop-entry
invariant-loop-entry g l = l.out.items ≡ l.fn.out.items ++ flat_map (λ e. entry_text l.prefix (entry_of e)) (take l.entry-index l.entries)
