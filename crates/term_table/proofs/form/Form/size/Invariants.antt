use Rattle.std.proofs.Common.{[], drop}
use Rattle.term_table.specs.Scale.{Scale, Near, amount, ring}
use Rattle.term_table.specs.Form.{dot, value}
use Rattle.term_table.proofs.form.Form.size.Given as goal

abbrev pub invariant-loop-weight : goal.invariant-loop-weight
invariant-loop-weight l = (s : Scale) → Near s ((ring s).plus (amount s l.sum) (dot s (drop l.weight-index l.weight-items) [])) (value s l.fn.self [])
