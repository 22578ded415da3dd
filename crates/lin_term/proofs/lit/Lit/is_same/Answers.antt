use Rattle.std.proofs.lemmas.Bool.Decides.{Decides-at}
use Rattle.lin_term.specs.Same.{same_literal}
use Rattle.lin_term.proofs.Comparing.{literal_decides}
use Rattle.lin_term.proofs.lit.Lit.is_same.Goals as goal

pub returns-clause-equal : goal.returns-clause-equal
returns-clause-equal c =
    let a = c.args.self.now in
    let b = c.args.other.now in
    Decides-at c.is_same_literal.result (same_literal a b) c.is_same_literal.ensures (literal_decides a b)
