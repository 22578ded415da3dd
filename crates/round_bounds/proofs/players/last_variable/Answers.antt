use Rattle.std.specs.Prelude.{List}
use Rattle.std.proofs.Common.{subst}
use Rattle.dom_core.specs.declared.Quant.{Quant}
use Rattle.dom_core.specs.declared.Side.TheVariants.{Exists, Forall}
use Rattle.round_bounds.specs.Bounds.{HasLastVariable}
use Rattle.round_bounds.proofs.LastPicked.{bound_for}
use Rattle.round_bounds.proofs.players.last_variable.Goals as goal

pub returns-then-is_last-clause-bound : goal.returns-then-is_last-clause-bound
returns-then-is_last-clause-bound g c x e =
    bound_for g.D.Domain.SORT c.args.problem.now Exists x e c.matrix-kept.ensures.kept (subst (λ (qs : List Quant). HasLastVariable qs Exists) c.prefix.ensures (c.is_last.ensures.0 c.if-is_last.true))

pub returns-then-is_last-2-clause-bound : goal.returns-then-is_last-2-clause-bound
returns-then-is_last-2-clause-bound g c x e =
    bound_for g.D.Domain.SORT c.args.problem.now Forall x e c.matrix-kept.ensures.kept (subst (λ (qs : List Quant). HasLastVariable qs Forall) c.prefix-else-is_last.ensures (c.is_last-else-is_last.ensures.0 c.if-is_last-2.true))
