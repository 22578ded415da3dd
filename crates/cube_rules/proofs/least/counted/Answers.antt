use Rattle.std.proofs.Common.{Bool, ap, sym}
use Rattle.std.specs.Prelude.{Some}
use Rattle.cube_rules.specs.Facts.{guard}
use Rattle.cube_rules.proofs.Counting.{least_past_first}
use Rattle.cube_rules.proofs.least.counted.Goals as goal

pub returns-in-Err : goal.returns-in-Err
returns-in-Err c =
    ap (λ (b : Bool). guard b (Some record { cube = c.args.cube; variable = c.args.var })) (sym (least_past_first c.args.cube c.args.var c.args.count c.in-Err.field-0.number c.in-Err.ensures))
