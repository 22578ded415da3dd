use Rattle.std.proofs.lemmas.Bool.Decides.{Decides-at}
use Rattle.cube_rules.specs.Limits.{is_within}
use Rattle.cube_rules.proofs.Limiting.{within_exact}
use Rattle.cube_rules.proofs.step.within.Goals as goal

pub returns-clause-exact : goal.returns-clause-exact
returns-clause-exact c =
    Decides-at c.numbers_within-tested.result (is_within c.args.step.now) c.numbers_within-tested.ensures (within_exact c.args.step.now c.keep_limits.ensures)
