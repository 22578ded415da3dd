use Rattle.script_games.specs.Given.{games_of_given}
use Rattle.solve_words.specs.Seen.{names_of}
use Rattle.simsat.proofs.Planned.{script_planned}
use Rattle.simsat.proofs.answering.script_plan.Goals as goal

pub returns-in-Ok-clause-plan : goal.returns-in-Ok-clause-plan
returns-in-Ok-clause-plan g c =
    let e = c.in-Ok.ensures.games in
    script_planned (g.S.Shelf.files c.args.shelf.now) (names_of c.args.names.now) e.0 (games_of_given c.in-Ok.games) c.games_plan.result e.1 e.2 c.games_plan.ensures
