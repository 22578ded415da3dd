use Rattle.term_table.specs.Stack.{stacked}
use Rattle.term_table.proofs.StackLemmas.{takes-next}
use Rattle.term_table.proofs.build.taken_all.Goals as goal

pub loop-preserved : goal.loop-preserved
loop-preserved c =
    takes-next (stacked c.args.stack.now.items) c.args.count c.loop.counter c.loop.parts.items c.push.new.self.items c.loop.stack.items c.pop.new.self.items c.in-Some.term c.loop-test.true
    c.in_ok-push-in-Some.ensures.items c.in-Some.ensures.items c.loop.invariant
