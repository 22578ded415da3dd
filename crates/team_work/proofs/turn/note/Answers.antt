use Rattle.game_board.specs.declared.WideNote.{WideNote}
use Rattle.team_work.proofs.Turning.{noted_turns}
use Rattle.team_work.proofs.turn.note.Goals as goal

pub returns-clause-turns : goal.returns-clause-turns
returns-clause-turns g c =
    let n : WideNote g.row.D.Denot = record { side = c.args.side; version = c.args.version; why = c.args.why } in
    (noted_turns g.D.Domain.SORT c.args.board.now c.note.new.self n c.in_ok-_kept._kept c.requires.going c.requires.shown c.requires.work c.in_ok-_kept.ensures.noted).0
