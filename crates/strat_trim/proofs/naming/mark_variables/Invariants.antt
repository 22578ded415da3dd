use Rattle.std.specs.Prelude.{map}
use Rattle.std.proofs.Common.{drop}
use Rattle.strat_trim.specs.Trimmed.{variables_of}
use Rattle.strat_trim.proofs.MarkLemmas.{Marking}
use Rattle.strat_trim.proofs.naming.mark_variables.Given as goal

abbrev pub invariant-loop-var : goal.invariant-loop-var
invariant-loop-var l = Marking (map (λ t. t.0) (drop l.var-index l.var-items)) (variables_of l.lit) l.fn.marks l.marks
