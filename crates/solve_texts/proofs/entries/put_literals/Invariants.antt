use Rattle.std.proofs.Common.{◌≡◌, ◌++◌, take, drop}
use Rattle.std.specs.List.{flat_map}
use Rattle.strat_text.specs.Written as spelled
use Rattle.strat_text.specs.TreeText.{text_line}
use Rattle.solve_texts.proofs.entries.put_literals.Given as goal

abbrev pub invariant-loop-lit : goal.invariant-loop-lit
invariant-loop-lit l = l.out.items ≡ l.fn.out.items ++ flat_map (λ x. text_line (drop 1 (spelled.literal x))) (take l.lit-index l.lits)
