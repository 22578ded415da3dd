use Rattle.std.proofs.Common.{take}
use Rattle.std.specs.List.{AllByRecursion}
use Rattle.lin_term.specs.Form.{IsRow}
use Rattle.lin_term.specs.Literal.{form_of}
use Rattle.cube_rules.proofs.step.keep_rows.Given as goal

abbrev pub invariant-loop-lit : goal.invariant-loop-lit
invariant-loop-lit l = AllByRecursion (λ k. IsRow (form_of k)) (take l.lit-index l.lits)
