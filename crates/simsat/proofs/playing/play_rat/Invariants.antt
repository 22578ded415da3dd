use Rattle.std.proofs.Common.{◌≡◌, ◌++◌, map, length}
use Rattle.lin_term.specs.declared.Sort.TheVariants.{Rat}
use Rattle.dom_core.specs.Problem.{problem_of}
use Rattle.simsat.specs.Plan.{ArePlayed}
use Rattle.simsat.proofs.playing.play_rat.Given as goal

abbrev pub invariant-loop-problem : goal.invariant-loop-problem
invariant-loop-problem l =
    ArePlayed l.rounds Rat (map problem_of l.fn.problems.items) l.outcomes.items × (length l.outcomes.items ≡ length l.yielded) × (l.fn.problems.items ≡ l.yielded ++ l.problem-iterator.rest.items)
