use Rattle.std.proofs.Common.{◌≡◌, ◌≤◌, ◌<◌, [], length, get_or, take, drop}
use Rattle.dom_core.specs.Elimination.{lower_cases}
use Rattle.dom_int.proofs.place.place_of.Given as goal

abbrev pub invariant-loop-lit : goal.invariant-loop-lit
invariant-loop-lit l = record {
  at : l.place ≡ l.lit-index;
  small : l.rest ≤ l.index;
  within : l.rest < length (lower_cases l.var l.n (take l.lit-index l.cube) (drop l.lit-index l.cube));
  case : get_or (lower_cases l.var l.n (take l.lit-index l.cube) (drop l.lit-index l.cube)) l.rest [] ≡ get_or (lower_cases l.var l.n [] l.cube) l.index [];
}
