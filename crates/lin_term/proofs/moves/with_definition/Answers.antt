use Rattle.std.proofs.Common.{arith, refl}
use Rattle.std.proofs.lemmas.Int.{ints}
use Rattle.lin_term.proofs.KeptMoves.{make_past, make_fits}
use Rattle.lin_term.proofs.moves.with_definition.Goals as goal

pub returns-then-number-gt-CAP : goal.returns-then-number-gt-CAP
returns-then-number-gt-CAP c =
    let d = c.definition_constant-number.ensures in make_past c.args.sort c.args.term c.definition_constant-number.result d.of_move c.requires d.value d.size (omega (arith, ints, c.if-number-gt-CAP.true))

pub returns : goal.returns
returns c =
    let d = c.definition_constant-number.ensures in (make_fits c.args.sort c.args.term c.definition_constant-number.result d.of_move c.requires d.value d.size (omega (arith, ints, c.if-number-gt-CAP.false)), refl)
