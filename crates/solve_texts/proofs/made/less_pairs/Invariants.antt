use Rattle.std.proofs.Common.{◌≡◌}
use Rattle.std.specs.List.{range_with_len}
use Rattle.dom_core.specs.View.{matrices_of}
use Rattle.solve_texts.specs.Generated.{less_pairs}
use Rattle.solve_texts.proofs.made.less_pairs.Given as goal

abbrev pub invariant-loop-i : goal.invariant-loop-i
invariant-loop-i l = matrices_of l.all ≡ less_pairs l.n (range_with_len 0 l.i)
