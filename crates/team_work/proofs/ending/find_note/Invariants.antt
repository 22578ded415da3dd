use Rattle.std.specs.Prelude.{take}
use Rattle.team_work.proofs.Noted.{HasNoNote}
use Rattle.team_work.proofs.ending.find_note.Given as goal

abbrev pub invariant-loop-entry : goal.invariant-loop-entry
invariant-loop-entry g l = HasNoNote (take l.entry-index l.entries) l.side l.version
