use Rattle.std.proofs.Common.{◌≡◌, ◌++◌, take, map}
use Rattle.solve_texts.specs.Pieces.{side_letter}
use Rattle.solve_texts.proofs.tree.put_letters.Given as goal

abbrev pub invariant-loop-quant : goal.invariant-loop-quant
invariant-loop-quant l = l.out.items ≡ l.fn.out.items ++ map (side_letter l.side) (take l.quant-index l.prefix)
