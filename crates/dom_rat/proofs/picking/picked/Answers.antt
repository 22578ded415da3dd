use Rattle.std.proofs.Common.{◌∙◌, ap, sym}
use Rattle.std.specs.Prelude.{Option, Some, None}
use Rattle.std.specs.Option.{option_map}
use Rattle.lin_term.specs.declared.Sort.TheVariants.{Rat}
use Rattle.dom_core.specs.declared.Bound.{Bound}
use Rattle.dom_core.specs.Bound.{lower_of, upper_of}
use Rattle.dom_core.specs.Pick.{lower_bound}
use Rattle.dom_core.proofs.Bounding.{some_upper}
use Rattle.dom_core.proofs.Selecting.{picked_rat}
use Rattle.dom_rat.proofs.picking.picked.Goals as goal

pub above_one-requires-clause-upper : goal.above_one-requires-clause-upper
above_one-requires-clause-upper c = some_upper Rat c.args.var c.args.point.now c.least_upper-up.result c.least_upper-up.ensures.is

pub below_one-requires : goal.below_one-requires
below_one-requires c = some_upper Rat c.args.var c.args.point.now c.least_upper-up.result c.least_upper-up.ensures.is

pub returns-in-Some : goal.returns-in-Some
returns-in-Some c =
    picked_rat c.args.var c.args.lits.now c.args.point.now (Some (lower_bound Rat c.args.var c.in-Some.low.lit.now)) (option_map (upper_of c.args.var) c.least_upper-up.result) c.above_one.result
    (sym (ap (option_map (lower_of Rat c.args.var)) c.in-Some.is) ∙ c.greatest_lower-low.ensures.bound) c.least_upper-up.ensures.bound c.above_one.ensures

pub returns-in-None : goal.returns-in-None
returns-in-None c =
    picked_rat c.args.var c.args.lits.now c.args.point.now None (option_map (upper_of c.args.var) c.least_upper-up.result) c.below_one.result
    (sym (ap (option_map (lower_of Rat c.args.var)) c.in-None.is) ∙ c.greatest_lower-low.ensures.bound) c.least_upper-up.ensures.bound c.below_one.ensures
