use Rattle.std.proofs.Common.{refl}
use Rattle.lin_term.specs.declared.Sort.TheVariants.{Rat}
use Rattle.dom_core.proofs.Selecting.{put_refused}
use Rattle.dom_rat.proofs.putting.put.Goals as goal

pub returns-in-Err : goal.returns-in-Err
returns-in-Err c =
    put_refused Rat c.args.var c.args.term.now c.args.point.now c.args.lits.now c.new-out.result c.add_all_substituted.new.out 0 c.in-Err.fault refl c.in-Err.ensures
