use Rattle.term_table.proofs.StackLemmas.{stacked-push}
use Rattle.term_table.proofs.build.put.Goals as goal

pub returns : goal.returns
returns c = stacked-push c.args.stack.now.items c.push.new.self.items c.args.term c.in_ok-push.ensures.items
