use Rattle.std.proofs.Common.{◌∙◌, sym, ap, List, ℕ}
use Rattle.std.specs.Str.{bytes_eq}
use Rattle.std.specs.List.{position_from}
use Rattle.std.proofs.lemmas.Bool.{and_parts}
use Rattle.std.proofs.lemmas.Iterator.Adapters.{position_from-zero}
use Rattle.ss_names.specs.Words.{words_of}
use Rattle.ss_names.specs.Table.{words}
use Rattle.ss_names.proofs.RowLemmas.{row_is}
use Rattle.ss_names.proofs.table.Names.find_bytes.Goals as goal

pub returns-clause-value : goal.returns-clause-value
returns-clause-value g c =
    let test = λ (known : List ℕ). bytes_eq known c.args.word.now in
    c.row_among.ensures ∙ ap (λ text. position_from test 0 (words_of c.args.self.now.lens text)) c.as_bytes.ensures.value ∙ sym (position_from-zero test (words c.args.self.now))

pub returns-clause-exact : goal.returns-clause-exact
returns-clause-exact g c =
    let value = returns-clause-value g c in
    λ row. let both = row_is (words c.args.self.now) c.args.word.now (and_parts _ _ c.args.self.now.table).1 row in
    (λ is. both.0 (sym value ∙ is), λ has. value ∙ both.1 has)
