use Rattle.std.proofs.Common.{refl, arith}
use Rattle.smt_lex.specs.declared.class.TheConstants.{CLASS}
use Rattle.smt_lex.specs.Run.{is_symbol_byte}
use Rattle.smt_lex.proofs.TableLemmas.{agree_below, from_table}
use Rattle.smt_lex.proofs.class.is_symbol_byte.Goals as goal

pub returns : goal.returns
unfolding agree_below is_symbol_byte
returns c = from_table CLASS 2 is_symbol_byte c.args.b (omega arith) refl
