use Rattle.std.proofs.lemmas.Bool.Decides.{Decides-at}
use Rattle.lin_term.specs.Same.{same_form}
use Rattle.lin_term.proofs.Comparing.{form_decides}
use Rattle.lin_term.proofs.row.Row.is_same.Goals as goal

pub returns-clause-equal : goal.returns-clause-equal
returns-clause-equal c =
    let a = c.args.self.now in
    let b = c.args.other.now in
    Decides-at c.is_same_row.result (same_form a b) c.is_same_row.ensures (form_decides a b)
