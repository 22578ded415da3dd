use Rattle.std.proofs.Common.{ap, ◌∙◌, sym, ◌+◌, ◌-◌}
use Rattle.proof_prune.specs.Writing.{grown}
use Rattle.proof_prune.proofs.Places.{grow_step}
use Rattle.proof_prune.proofs.renumbering.grow.Goals as goal

pub loop-preserved : goal.loop-preserved
loop-preserved c =
    ap (grown (c.args.facts - (c.loop.counter + 1))) c.in-Ok.ensures
    ∙ sym (grow_step c.args.facts c.loop.counter c.loop.names.items c.loop-test.true)
    ∙ c.loop.invariant
