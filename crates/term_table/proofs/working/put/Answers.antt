use Rattle.term_table.proofs.KnownLemmas.{turned-push}
use Rattle.term_table.proofs.working.put.Goals as goal

pub returns : goal.returns
returns c = turned-push c.args.stack.now.items c.push.new.self.items c.args.known c.in_ok-push.ensures.items
