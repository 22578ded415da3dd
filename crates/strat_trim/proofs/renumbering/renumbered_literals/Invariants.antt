use Rattle.std.specs.Prelude.{map}
use Rattle.std.proofs.Common.{take, ◌≡◌}
use Rattle.lin_term.specs.Literal.{rename_lit}
use Rattle.strat_trim.proofs.renumbering.renumbered_literals.Given as goal

abbrev pub invariant-loop-lit : goal.invariant-loop-lit
invariant-loop-lit l = l.list ≡ map (rename_lit l.nodes) (take l.lit-index l.lits)
