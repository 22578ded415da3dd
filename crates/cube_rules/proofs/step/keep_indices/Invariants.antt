use Rattle.std.proofs.Common.{take}
use Rattle.std.specs.List.{AllByRecursion}
use Rattle.cube_rules.specs.Limits.{IsIndex}
use Rattle.cube_rules.proofs.step.keep_indices.Given as goal

abbrev pub invariant-loop-fact : goal.invariant-loop-fact
invariant-loop-fact l = AllByRecursion IsIndex (take l.fact-index l.facts)
