use Rattle.strat_text.proofs.MoveLists.{fresh_text, grown}
use Rattle.strat_text.proofs.moves.is_new.Goals as goal

pub returns-clause-fresh : goal.returns-clause-fresh
returns-clause-fresh c = λ ms h. fresh_text c.insert.result _ _ (h c.args.text) c.insert.ensures.added

pub returns-clause-then : goal.returns-clause-then
returns-clause-then c = λ ms m h e. grown c.insert.result c.args.seen.now c.insert.new.self c.args.text ms m c.insert.ensures.updates h e
