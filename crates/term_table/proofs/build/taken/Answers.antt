use Rattle.term_table.proofs.StackLemmas.{first-push, rest-push}
use Rattle.term_table.proofs.build.taken.Goals as goal

pub returns-in-Some-clause-top : goal.returns-in-Some-clause-top
returns-in-Some-clause-top c = first-push c.pop.new.self.items c.args.stack.now.items c.in-Some.term c.in-Some.ensures.items

pub returns-in-Some-clause-others : goal.returns-in-Some-clause-others
returns-in-Some-clause-others c = rest-push c.pop.new.self.items c.args.stack.now.items c.in-Some.term c.in-Some.ensures.items
