use Rattle.term_table.specs.Known.{turned}
use Rattle.term_table.proofs.KnownLemmas.{takes-next}
use Rattle.term_table.proofs.working.taken_all.Goals as goal

pub loop-preserved : goal.loop-preserved
loop-preserved c =
    takes-next (turned c.args.stack.now.items) c.args.count c.loop.counter c.loop.parts.items c.push.new.self.items c.loop.stack.items c.pop.new.self.items c.in-Some.known c.loop-test.true
    c.in_ok-push-in-Some.ensures.items c.in-Some.ensures.items c.loop.invariant
