use Rattle.std.proofs.Common.{ℕ, List, ◌++◌, ap, ◌∙◌, sym}
use Rattle.std.specs.List.{flat_map}
use Rattle.std.proofs.lemmas.List.{take_all}
use Rattle.game_board.specs.Entries.{entry_of}
use Rattle.solve_texts.specs.Journal.{entry_text}
use Rattle.solve_texts.proofs.Goals.{entries_seen}
use Rattle.solve_texts.proofs.games.put_entries.Goals as goal

pub returns : goal.returns
returns g c =
    c.loop-entry.invariant
    ∙ ap (λ (y : List ℕ). c.args.out.now.items ++ y)
    (ap (flat_map (λ e. entry_text c.args.prefix.now (entry_of e))) (take_all c.loop-entry.entry-index c.args.entries.now c.loop-entry-test.false) ∙ sym (entries_seen c.args.prefix.now c.args.entries.now))
