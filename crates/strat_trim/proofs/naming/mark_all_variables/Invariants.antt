use Rattle.std.specs.List.{flat_map}
use Rattle.std.proofs.Common.{drop}
use Rattle.strat_trim.specs.Trimmed.{variables_of}
use Rattle.strat_trim.proofs.MarkLemmas.{Marking}
use Rattle.strat_trim.proofs.naming.mark_all_variables.Given as goal

abbrev pub invariant-loop-lit : goal.invariant-loop-lit
invariant-loop-lit l = Marking (flat_map variables_of (drop l.lit-index l.lits)) (flat_map variables_of l.lits) l.fn.marks l.marks
