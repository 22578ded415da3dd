use Rattle.std.proofs.Common.{arith, ◌∙◌, subst}
use Rattle.lose_system.specs.Written.{WrittenSystem}
use Rattle.lose_system.specs.Kept.{IsTable}
use Rattle.lose_system.proofs.Tabled.{node_count_is, few_nodes}
use Rattle.lose_system.proofs.system.System.node_count.Goals as goal

pub overflow_cast-result : goal.overflow_cast-result
overflow_cast-result g c =
    let f = few_nodes _ _ _ _ c.self.invariant in omega (arith, c.len.ensures)

pub returns : goal.returns
returns g c =
    c.len.ensures ∙ node_count_is g.D.Domain.SORT c.args.self.now c.self.inside.nodes c.self.inside.ends (subst (λ (w : WrittenSystem). IsTable g.D.Domain.SORT w c.self.inside.nodes c.self.inside.ends) c.self.view_is c.self.invariant)
