use Rattle.std.proofs.Common.{◌≡◌, ◌++◌, take}
use Rattle.std.specs.List.{flat_map}
use Rattle.strat_text.specs.Written as spelled
use Rattle.strat_text.proofs.writing.put_indices.Given as goal

abbrev pub invariant-loop-fact : goal.invariant-loop-fact
invariant-loop-fact l = l.out.items ≡ l.fn.out.items ++ flat_map spelled.natural (take l.fact-index l.facts)
