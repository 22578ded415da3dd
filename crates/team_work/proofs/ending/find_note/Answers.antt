use Rattle.std.proofs.Common.{subst}
use Rattle.std.specs.Prelude.{Option}
use Rattle.game_board.specs.declared.WideNote.{WideNote}
use Rattle.game_board.specs.Entries.{entry_of}
use Rattle.team_work.specs.Noting.{ReadsNote}
use Rattle.team_work.proofs.Noted.{none_more, none_at_all}
use Rattle.team_work.proofs.ending.find_note.Goals as goal

pub loop-entry-preserved : goal.loop-entry-preserved
loop-entry-preserved g c =
    none_more c.args.entries.now c.entry-item.result c.loop-entry.entry-index c.args.side c.args.version c.loop-entry-test.true c.entry-item.is c.loop-entry.invariant
    (subst (λ (o : Option (WideNote g.row.D.Denot)). ReadsNote (entry_of c.entry-item.result) c.args.side c.args.version o) c.in_default.is c.in_ok-note.ensures)

pub returns : goal.returns
returns g c = none_at_all c.args.entries.now c.loop-entry.entry-index c.args.side c.args.version c.loop-entry-test.false c.loop-entry.invariant
