use Rattle.std.proofs.Common.{◌≡◌, ◌++◌, replicate}
use Rattle.solve_texts.proofs.made.push_all.Given as goal

abbrev pub invariant-loop : goal.invariant-loop
invariant-loop l = l.prefix ≡ l.fn.prefix ++ replicate l.counter l.quant
