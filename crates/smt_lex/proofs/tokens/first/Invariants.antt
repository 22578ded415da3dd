use Rattle.std.proofs.Common.{◌≡◌, length}
use Rattle.smt_lex.specs.Tokens.{left_at}
use Rattle.smt_lex.proofs.tokens.first.Given as goal

abbrev pub invariant-loop-rest : goal.invariant-loop-rest
invariant-loop-rest l = left_at l.rest.line l.rest.column l.rest.bytes.now ≡ left_at l.fn.from.line l.fn.from.column l.fn.from.bytes.now

abbrev pub decreases-loop-rest : goal.decreases-loop-rest
decreases-loop-rest l = length l.rest.bytes.now
