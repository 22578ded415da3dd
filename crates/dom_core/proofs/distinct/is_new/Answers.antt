use Rattle.dom_core.proofs.Distincts.{set_grown}
use Rattle.dom_core.proofs.distinct.is_new.Goals as goal

pub returns-clause-then : goal.returns-clause-then
returns-clause-then c = λ met h. set_grown c.insert.result c.args.seen.now c.insert.new.self (record { lit = c.args.lit }) met c.insert.ensures.updates h
