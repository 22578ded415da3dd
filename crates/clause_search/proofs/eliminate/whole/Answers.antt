use Rattle.lose_system.proofs.Tabled.{IfOk_with}
use Rattle.clause_search.proofs.Ending.{whole_ends}
use Rattle.clause_search.proofs.eliminate.whole.Goals as goal

pub returns : goal.returns
returns g c =
    IfOk_with c.eliminated.result
    (λ f e. whole_ends g.D.Domain.SORT c.args.system.now c.args.goal.now c.in_ok-chosen.chosen.cube c.args.lines.now c.eliminated.new.lines f c.requires.apart c.requires.paths c.in_ok-chosen.ensures.all c.in_ok-chosen.ensures.nodes e)
    c.eliminated.ensures
