use Rattle.std.proofs.Common.{refl, arith}
use Rattle.smt_lex.specs.declared.class.TheConstants.{CLASS}
use Rattle.smt_lex.specs.Run.{is_of_run}
use Rattle.smt_lex.proofs.TableLemmas.{agree_below, from_table}
use Rattle.smt_lex.proofs.class.is_of_run.Goals as goal

pub returns : goal.returns
unfolding agree_below
returns c = from_table CLASS 1 is_of_run c.args.b (omega arith) refl
