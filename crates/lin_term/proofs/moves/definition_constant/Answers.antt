use Rattle.std.proofs.Common.{ap, ◌∙◌}
use Rattle.lin_term.specs.Linear.{Form}
use Rattle.lin_term.proofs.KeptMoves.{is_move, upper_at, of_word}
use Rattle.lin_term.proofs.moves.definition_constant.Goals as goal

pub returns-clause-value : goal.returns-clause-value
returns-clause-value c =
    of_word c.upper_constant.result c.upper_constant.ensures.size
    ∙ upper_at c.args.sort c.args.term.now c.upper_constant.result c.constant_part.result c.div.result c.upper_constant.ensures.value c.constant_part.ensures.kept (c.constant_part.ensures.value ∙ ap (λ (f : Form). f.constant) c.row-2.ensures) c.div.ensures.greatest c.div.ensures.value

pub returns-clause-of_move : goal.returns-clause-of_move
returns-clause-of_move c =
    is_move c.args.term.now c.row.result.now c.row-2.result.now c.coefs-coefs.result.now c.constant_part.result c.div.result c.coefs-coefs.ensures.kept c.coefs-coefs.ensures.terms c.row.ensures c.constant_part.ensures.kept c.constant_part.ensures.value c.row-2.ensures c.div.ensures.value c.div.ensures.least c.div.ensures.greatest
