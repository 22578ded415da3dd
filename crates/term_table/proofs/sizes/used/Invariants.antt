use Rattle.std.proofs.Common.{ℕ, List, map, drop}
use Rattle.term_table.specs.Scale.{Scale, Near, ring}
use Rattle.term_table.specs.Form.{dot, value}
use Rattle.term_table.specs.Entries.{form_at, part_value}
use Rattle.term_table.proofs.sizes.used.Given as goal

abbrev pub invariant-loop-i : goal.invariant-loop-i
invariant-loop-i l =
    (s : Scale) (gs : List ℕ) → Near s ((ring s).plus (value s l.form gs) (dot s (drop l.i l.weight-items) (drop l.i (map (part_value s l.entries gs) l.args))))
    (value s (form_at l.entries l.body) (map (part_value s l.entries gs) l.args))
