use Rattle.clause_search.proofs.Stacking.{all_closed, all_wide}
use Rattle.clause_search.proofs.split.answer.Goals as goal

pub returns-in-Some : goal.returns-in-Some
returns-in-Some g c = λ w root start xs before now d o. all_wide g.D.Domain.SORT w root start xs c.args.split before now c.in-Some.cube c.requires c.in-Some.is d o

pub returns : goal.returns
returns g c = λ w root start xs before now d o. all_closed g.D.Domain.SORT w root start xs c.args.split before now c.requires c.in-None.is d o
