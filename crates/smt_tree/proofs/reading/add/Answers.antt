use Rattle.std.proofs.Common.{ap, ◌∙◌}
use Rattle.std.proofs.lemmas.Result.{on_ok_weaker}
use Rattle.smt_lex.specs.Place.{place}
use Rattle.smt_tree.specs.Sexp.{Sexps}
use Rattle.smt_tree.specs.Expressions.{Level}
use Rattle.smt_tree.specs.Seen.{all_seen}
use Rattle.smt_tree.proofs.Stack.{all_seen-push}
use Rattle.smt_tree.proofs.reading.add.Goals as goal

pub returns : goal.returns
returns c =
    let o = c.args.inner.now in
    let level = λ (xs : Sexps). let v : Level = record { at = place o.line o.column; items = xs } in v in
    on_ok_weaker c.push.result (λ e. ap level (ap all_seen e ∙ all_seen-push o.items c.args.item)) c.push.ensures.ok
