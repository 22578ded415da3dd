use Rattle.lin_term.specs.Linear.{Value}
use Rattle.cube_elim.proofs.Climbs.{all_fit, joined, joined_refused, joined_past, part_some, divisor_least}
use Rattle.std.proofs.Common.{subst, sym}
use Rattle.lin_term.specs.Point.{AreWithin}
use Rattle.cube_elim.proofs.climb.point_with.Goals as goal

pub value_part-factor-requires : goal.value_part-factor-requires
value_part-factor-requires c = divisor_least c.args.point.now c.args.value c.common_divisor-divisor.result c.common_divisor-divisor.ensures.point_least c.common_divisor-divisor.ensures.value

pub point_part-over-requires : goal.point_part-over-requires
point_part-over-requires c = divisor_least c.args.point.now c.args.value c.common_divisor-divisor.result c.common_divisor-divisor.ensures.point_least c.common_divisor-divisor.ensures.value

pub point_of-requires-clause-within : goal.point_of-requires-clause-within
point_of-requires-clause-within c = subst AreWithin (sym c.in-Ok.ensures.1) (all_fit _ c.in-Ok.ensures.0)

pub point_of-requires-clause-least : goal.point_of-requires-clause-least
point_of-requires-clause-least c =
    let g = c.common_divisor-divisor.ensures in
    part_some c.args.point.now c.args.value c.common_divisor-divisor.result c.value_part-factor.result c.common_den-common.result g.point_least g.value_least g.value c.value_part-factor.ensures.value c.common_den-common.ensures.value

pub returns-in-Ok : goal.returns-in-Ok
returns-in-Ok c =
    let g = c.common_divisor-divisor.ensures in
    joined c.args.point.now c.args.value c.common_divisor-divisor.result c.value_part-factor.result c.point_part-over.result c.common_den-common.result c.in-Ok.nums c.point_of.result g.point_least g.value_least g.value c.value_part-factor.ensures.value c.point_part-over.ensures.value c.common_den-common.ensures.value c.if-common.false c.in-Ok.ensures c.point_of.ensures

pub returns-in-Err : goal.returns-in-Err
returns-in-Err c =
    let g = c.common_divisor-divisor.ensures in
    joined_refused c.args.point.now c.args.value c.common_divisor-divisor.result c.value_part-factor.result c.point_part-over.result c.common_den-common.result c.in-Err.fault g.point_least g.value_least g.value c.value_part-factor.ensures.value c.point_part-over.ensures.value c.common_den-common.ensures.value c.if-common.false c.in-Err.ensures
