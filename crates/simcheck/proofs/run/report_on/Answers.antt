use Rattle.std.proofs.Common.{rules, IfOk, map, string_bytes, Global}
use Rattle.simcheck.specs.Words.{names_of}
use Rattle.simcheck.specs.Answer.{Answers, answer_of}
use Rattle.simcheck.proofs.Telling.{usage_after}
use Rattle.simcheck.proofs.run.report_on.Goals as goal

pub returns-in-Some-clause-usage : goal.returns-in-Some-clause-usage
returns-in-Some-clause-usage g c =
    let a : IfOk c.answer_names.result (λ r. Answers (g.S.Shelf.files c.args.shelf.now) (names_of (map (string_bytes {Z = Global}) c.args.words.now)) (answer_of r)) = search rules in
    usage_after _ _ _ a
