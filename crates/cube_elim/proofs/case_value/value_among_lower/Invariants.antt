use Rattle.std.proofs.Common.{◌≡◌, drop, get_or}
use Rattle.cube_elim.specs.Determined.{lower_values}
use Rattle.cube_elim.specs.Values.{no_value}
use Rattle.cube_elim.proofs.case_value.value_among_lower.Given as goal

abbrev pub invariant-loop-lit : goal.invariant-loop-lit
invariant-loop-lit l =
    get_or (lower_values l.var l.n (drop l.lit-index l.cube)) l.rest no_value ≡ get_or (lower_values l.var l.n l.cube) l.index no_value
