use Rattle.std.proofs.Common.{◌≡◌, ◌+◌, ◌&&◌, length, take}
use Rattle.std.specs.List.{list_all, prefix_len}
use Rattle.smt_lex.specs.Run.{is_of_run, is_symbol_byte}
use Rattle.smt_lex.proofs.piece.run_len.Given as goal

abbrev pub invariant-loop-z : goal.invariant-loop-z
invariant-loop-z l =
    (l.len + prefix_len is_of_run l.z ≡ prefix_len is_of_run l.fn.z)
    × (l.len + length l.z ≡ length l.fn.z)
    × (list_all is_symbol_byte (take (prefix_len is_of_run l.fn.z) l.fn.z) ≡ (l.is_symbol && list_all is_symbol_byte (take (prefix_len is_of_run l.z) l.z)))

abbrev pub decreases-loop-z : goal.decreases-loop-z
decreases-loop-z l = length l.z
