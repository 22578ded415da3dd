use Rattle.std.proofs.Common.{arith, refl}
use Rattle.smt_term.proofs.OpenLemmas.{variables-begin, variables-step, variables-open}
use Rattle.smt_term.proofs.reader.Reader.add_variables.Goals as goal

pub loop-v-init : goal.loop-v-init
loop-v-init c = variables-begin c.args.self.now c.args.variables.now c.requires

pub loop-v-preserved : goal.loop-v-preserved
loop-v-preserved c =
    variables-step c.args.self.now c.loop-v.self _ c.args.variables.now c.loop-v.v-index c.loop-v.place c.in-Ok.node c.loop-v.invariant c.loop-v-test.true
    c.in-Ok.ensures.0 c.in-Ok.ensures.1 c.in-Ok.ensures.2 c.in-Ok-push.ensures.ok refl refl

pub returns-clause-opens : goal.returns-clause-opens
returns-clause-opens c =
    variables-open c.args.self.now c.loop-v.self _ c.args.variables.now c.loop-v.v-index c.loop-v.place c.loop-v.invariant (omega (arith, c.loop-v-test.false, c.loop-v.auto.v-index-end))
    refl refl refl refl refl
