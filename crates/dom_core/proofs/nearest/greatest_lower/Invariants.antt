use Rattle.std.proofs.Common.{◌≡◌, drop}
use Rattle.std.specs.Option.{option_map}
use Rattle.dom_core.specs.Bound.{IsLowerBound, lower_of, greatest_from}
use Rattle.dom_core.specs.Pick.{lowers, greatest}
use Rattle.dom_core.proofs.nearest.greatest_lower.Given as goal

abbrev pub invariant-loop-lit : goal.invariant-loop-lit
invariant-loop-lit l = record {
  is : IsLowerBound l.sort l.var l.point l.best;
  rest : greatest_from l.sort l.point (option_map (lower_of l.sort l.var) l.best) (lowers l.sort l.var (drop l.lit-index l.lits)) ≡ greatest l.sort l.point (lowers l.sort l.var l.lits);
}
