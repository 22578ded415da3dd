use Rattle.std.proofs.Common.{◌≡◌, ◌+◌, length}
use Rattle.std.specs.Str.{bytes_eq}
use Rattle.std.specs.List.{position_from}
use Rattle.ss_names.specs.Words.{words_of, total}
use Rattle.ss_names.proofs.names.row_among.Given as goal

abbrev pub invariant-loop-lens : goal.invariant-loop-lens
invariant-loop-lens l =
    (position_from (λ known. bytes_eq known l.word) l.row (words_of l.lens l.text) ≡ position_from (λ known. bytes_eq known l.word) 0 (words_of l.fn.lens l.fn.text))
    × (total l.lens ≡ length l.text)
    × (l.row + length l.lens ≡ length l.fn.lens)

abbrev pub decreases-loop-lens : goal.decreases-loop-lens
decreases-loop-lens l = length l.lens
