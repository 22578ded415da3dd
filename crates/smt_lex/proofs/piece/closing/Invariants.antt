use Rattle.std.proofs.Common.{◌≡◌, ◌+◌, ◌<◌, length, false, true}
use Rattle.smt_lex.specs.Piece.{closing}
use Rattle.smt_lex.proofs.piece.closing.Given as goal

abbrev pub invariant-loop-z : goal.invariant-loop-z
invariant-loop-z l = (closing l.len l.is_outside l.z ≡ closing 1 false l.fn.z) × (l.len + length l.z ≡ length l.fn.z + 1) × (0 < l.len) × (l.is_outside ≡ true → 1 < l.len)

abbrev pub decreases-loop-z : goal.decreases-loop-z
decreases-loop-z l = length l.z
