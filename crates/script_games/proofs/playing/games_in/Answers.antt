use Rattle.script_games.proofs.Carrying.{unread, gives_games}
use Rattle.script_games.proofs.Sorts.{one_sort}
use Rattle.script_games.proofs.playing.games_in.Goals as goal

pub returns-in-Err : goal.returns-in-Err
returns-in-Err c = unread c.args.script.now c.in-Err.fault c.in-Err.ensures

pub played-requires : goal.played-requires
played-requires c = one_sort c.args.script.now c.in-Ok.script.sort c.in-Ok.script.goals c.in-Ok.ensures.0

pub returns : goal.returns
returns c = gives_games c.args.script.now c.in-Ok.script.sort c.in-Ok.script.goals c.played.result c.in-Ok.ensures.0 c.played.ensures.games c.played.ensures.fault
