use Rattle.std.proofs.Common.{◌∙◌, to_z, of_z}
use mir.Syntax.{w64}
use Rattle.lin_term.proofs.Terms.{word_of}
use Rattle.game_play.proofs.Turns.{row_past, move_answer}
use Rattle.game_play.proofs.worth.move_value.Goals as goal

pub returns-in-Err : goal.returns-in-Err
returns-in-Err c = row_past c.args.sort c.args.term.now c.args.values.now c.row.result.now c.in-Err.wide.number c.row.ensures c.in-Err.ensures

pub returns : goal.returns
returns c =
    move_answer c.args.sort c.args.term.now c.args.values.now c.row.result.now c.in-Ok.value (to_z w64 (of_z w64 c.div.result)) c.quotient.result c.row.ensures c.in-Ok.ensures
    (word_of c.div.result c.div.ensures.greatest ∙ c.div.ensures.value) c.quotient.ensures
