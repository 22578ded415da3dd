-- What a cursor is, without where its bytes lie in memory.
use Rattle.strat_words.specs.declared.cursor.Cursor.{Cursor}
use Rattle.strat_words.specs.Spot.{Spot}

abbrev pub spot : Cursor → Spot
spot at = record { rest = at.rest.now; line = at.line; word = at.word }
