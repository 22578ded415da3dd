use Rattle.std.proofs.Common.{get_or}
use Rattle.std.proofs.lemmas.List.{get_or_default}
use Rattle.lin_term.specs.declared.Sort.TheVariants.{Rat}
use Rattle.lin_term.specs.Literal.{IsOf}
use Rattle.cube_elim.proofs.Storing.{each_at}
use Rattle.cube_elim.proofs.parts.parted.Goals as goal

pub add_part-requires : goal.add_part-requires
add_part-requires c =
    let ids = c.args.ids.now in
    let k = c.loop-id.id-index in
    let i = get_or ids k 0 in
    each_at (IsOf Rat) c.args.lits.now ids k i c.index-lits-id.result c.loop-id-test.true (get_or_default ids k 0 i c.loop-id-test.true) c.requires.within c.index-lits-id.is c.requires.rational
