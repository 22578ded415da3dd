use Rattle.std.specs.Prelude.{length}
use Rattle.lose_system.proofs.SolvedLemmas.{negation_below}
use Rattle.lose_system.proofs.solved.is_false.Goals as goal

pub literal_holds-requires : goal.literal_holds-requires
literal_holds-requires c =
    negation_below c.args.sort c.args.names.now (length c.args.point.now.nums) c.args.lit.now c.in_ok-negation.negation c.requires.rising c.requires.primitive c.requires.below c.in_ok-negation.ensures
