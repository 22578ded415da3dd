use Rattle.smt_lex.proofs.SpellsLemmas.{spelled_by_tokens}
use Rattle.smt_lex.proofs.tokens.tokens_of.Goals as goal

pub returns-clause-spelled : goal.returns-clause-spelled
returns-clause-spelled c = spelled_by_tokens c.args.bytes.now
