use Rattle.std.proofs.Common.{◌==◌, not, refl}
use Rattle.smt_lex.proofs.PrefixLemmas.{prefix_len_moves, on_line}
use Rattle.smt_lex.proofs.piece.piece_at.Goals as goal

pub returns-then-b-eq59-clause-within : goal.returns-then-b-eq59-clause-within
returns-then-b-eq59-clause-within c =
    (rw c.comment_len.ensures.value (prefix_len_moves (λ b. not (b == 10)) c.args.z.now c.requires (rw c.if-b-eq59.true refl)), c.comment_len.ensures.within, rw c.comment_len.ensures.value (on_line (λ b. not (b == 10)) c.args.z.now refl))
