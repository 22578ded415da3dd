use Rattle.std.proofs.Common.{◌≡◌, map, take}
use Rattle.dom_core.specs.Problem.{WrittenProblem}
use Rattle.simsat.proofs.prefixes.prefixes_among.Given as goal

abbrev pub invariant-loop-problem : goal.invariant-loop-problem
invariant-loop-problem g l = l.prefixes.items ≡ map (λ (P : WrittenProblem). P.prefix) (take l.problem-index l.problems)
