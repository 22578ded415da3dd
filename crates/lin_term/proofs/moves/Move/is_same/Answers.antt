use Rattle.std.proofs.lemmas.Bool.Decides.{Decides-at}
use Rattle.lin_term.specs.Same.{same_move}
use Rattle.lin_term.proofs.Comparing.{move_decides}
use Rattle.lin_term.proofs.moves.Move.is_same.Goals as goal

pub returns-clause-equal : goal.returns-clause-equal
returns-clause-equal c =
    let a = c.args.self.now in
    let b = c.args.other.now in
    Decides-at c.is_same_move.result (same_move a b) c.is_same_move.ensures (move_decides a b)
