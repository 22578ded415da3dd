use Rattle.std.proofs.Common.{◌≡◌, ◌+◌, drop}
use Rattle.cube_elim.specs.Values.{sizes}
use Rattle.cube_elim.proofs.case_value.sum_of_sizes.Given as goal

abbrev pub invariant-loop-lit : goal.invariant-loop-lit
invariant-loop-lit l = l.total + sizes l.var (drop l.lit-index l.cube) ≡ sizes l.var l.cube
