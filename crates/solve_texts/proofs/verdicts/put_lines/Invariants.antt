use Rattle.std.proofs.Common.{◌≡◌, ◌++◌, take}
use Rattle.solve_texts.specs.Texts.{lines}
use Rattle.solve_texts.proofs.verdicts.put_lines.Given as goal

abbrev pub invariant-loop-solved : goal.invariant-loop-solved
invariant-loop-solved l = l.out.items ≡ l.fn.out.items ++ lines (take l.solved-index l.outcomes)
