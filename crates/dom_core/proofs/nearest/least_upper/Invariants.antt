use Rattle.std.proofs.Common.{◌≡◌, drop}
use Rattle.std.specs.Option.{option_map}
use Rattle.dom_core.specs.Bound.{IsUpperBound, upper_of, least_from}
use Rattle.dom_core.specs.Pick.{uppers, least}
use Rattle.dom_core.proofs.nearest.least_upper.Given as goal

abbrev pub invariant-loop-lit : goal.invariant-loop-lit
invariant-loop-lit l = record {
  is : IsUpperBound l.sort l.var l.point l.best;
  rest : least_from l.sort l.point (option_map (upper_of l.var) l.best) (uppers l.var (drop l.lit-index l.lits)) ≡ least l.sort l.point (uppers l.var l.lits);
}
