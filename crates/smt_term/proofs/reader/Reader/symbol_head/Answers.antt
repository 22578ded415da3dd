use Rattle.std.proofs.Common.{length, sym}
use Rattle.smt_lex.specs.Lexeme.{lexeme}
use Rattle.smt_term.proofs.ReaderLemmas.{head-operator-none, head-operator-name, found-in}
use Rattle.smt_term.proofs.reader.Reader.symbol_head.Goals as goal

pub returns-in-None-find : goal.returns-in-None-find
returns-in-None-find c =
    rw c.bad.ensures (head-operator-none c.args.self.now (lexeme c.args.token.now) (sym c.in-None.ensures) (sym c.in-None-find.ensures))

pub returns-in-Some-find : goal.returns-in-Some-find
returns-in-Some-find c = (
  head-operator-name c.args.self.now (lexeme c.args.token.now) c.in-Some-find.known (sym c.in-None.ensures) (sym c.in-Some-find.ensures),
  found-in (length c.args.self.now.table) c.args.self.now.names c.args.token.now.text.now c.in-Some-find.known c.requires (sym c.in-Some-find.ensures),
)
