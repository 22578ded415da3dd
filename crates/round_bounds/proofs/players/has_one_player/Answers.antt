use Rattle.std.specs.Prelude.{List}
use Rattle.std.proofs.Common.{subst, inl, inr}
use Rattle.dom_core.specs.declared.Quant.{Quant}
use Rattle.dom_core.specs.declared.Quant.TheVariants as quant
use Rattle.dom_core.specs.Problem.{problem_of}
use Rattle.round_bounds.specs.Bounds.{AreAll}
use Rattle.round_bounds.proofs.OnePlayer.{one_player_rounds}
use Rattle.round_bounds.proofs.players.has_one_player.Goals as goal

pub returns-then-are_all-clause-bound : goal.returns-then-are_all-clause-bound
returns-then-are_all-clause-bound g c t =
    one_player_rounds g.D.Domain.SORT (problem_of c.args.problem.now) (inl (subst (λ (qs : List Quant). AreAll quant.Exists qs) c.prefix.ensures (c.are_all.ensures.0 t)))

pub returns-else-are_all-clause-bound : goal.returns-else-are_all-clause-bound
returns-else-are_all-clause-bound g c t =
    one_player_rounds g.D.Domain.SORT (problem_of c.args.problem.now) (inr (subst (λ (qs : List Quant). AreAll quant.Forall qs) c.prefix-else-are_all.ensures (c.are_all-else-are_all.ensures.0 t)))
