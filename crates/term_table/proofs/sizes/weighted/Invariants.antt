use Rattle.std.proofs.Common.{ℕ, List, map, drop}
use Rattle.term_table.specs.Scale.{Scale, Near, amount, weight, ring, sum_in}
use Rattle.term_table.specs.Form.{value}
use Rattle.term_table.specs.Entries.{part_value}
use Rattle.term_table.proofs.sizes.weighted.Given as goal

abbrev pub invariant-loop-part : goal.invariant-loop-part
invariant-loop-part l =
    (s : Scale) (gs : List ℕ) → Near s ((ring s).plus (value s l.form gs) ((ring s).times (weight s l.weight) (sum_in (ring s) (map (part_value s l.entries gs) (drop l.part-index l.parts)))))
    ((ring s).plus (amount s l.fn.own) ((ring s).times (weight s l.weight) (sum_in (ring s) (map (part_value s l.entries gs) l.parts))))
