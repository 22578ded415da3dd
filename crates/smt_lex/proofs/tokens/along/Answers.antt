use Rattle.std.proofs.lemmas.List.{take_rest}
use Rattle.smt_lex.specs.Place.{place}
use Rattle.smt_lex.proofs.TokensLemmas.{along_line}
use Rattle.smt_lex.proofs.tokens.along.Goals as goal

pub returns-clause-tokens : goal.returns-clause-tokens
returns-clause-tokens c = simp take_rest (along_line c.args.len (place c.args.from.line c.args.from.column) c.args.from.bytes.now c.requires.within c.requires.on_line)
