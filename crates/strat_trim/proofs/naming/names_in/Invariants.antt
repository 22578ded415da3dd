use Rattle.std.proofs.Common.{take}
use Rattle.strat_trim.specs.Trimmed.{named_paths, named_nodes}
use Rattle.strat_trim.proofs.MarkLemmas.{HasMarksOf}
use Rattle.strat_trim.proofs.naming.names_in.Given as goal

abbrev pub invariant-loop-step : goal.invariant-loop-step
invariant-loop-step l =
    HasMarksOf l.paths named_paths (take l.step-index l.proof) l.path_marks
    × HasMarksOf l.nodes named_nodes (take l.step-index l.proof) l.node_marks
