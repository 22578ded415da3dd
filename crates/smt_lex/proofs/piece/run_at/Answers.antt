use Rattle.std.proofs.Common.{refl}
use Rattle.smt_lex.specs.Run.{is_of_run}
use Rattle.smt_lex.proofs.PrefixLemmas.{prefix_len_moves, on_line}
use Rattle.smt_lex.proofs.piece.run_at.Goals as goal

pub returns-in-Some-clause-within : goal.returns-in-Some-clause-within
returns-in-Some-clause-within c =
    (rw c.run_len-len.ensures.len (prefix_len_moves is_of_run c.args.z.now c.requires.some c.requires.begins), c.run_len-len.ensures.within, rw c.run_len-len.ensures.len (on_line is_of_run c.args.z.now refl))
