use Rattle.std.specs.List.{AllByRecursion, IsAmong}
use Rattle.std.proofs.Common.{ap, subst, ◌∙◌, refl}
use Rattle.game_tree.specs.Skeleton.{paths}
use Rattle.game_tree.specs.View.{skeleton_of}
use Rattle.game_tree.specs.Written.{WrittenSkeleton}
use Rattle.proof_rules.specs.Won.{WonGame}
use Rattle.strat_trim.specs.Trimmed.{marked, needed, only}
use Rattle.strat_trim.specs.Trim.{trimmed_steps}
use Rattle.strat_trim.proofs.TrimLemmas.{game, same_game, parts_won, trimmed_follows, trimmed_few, trimmed_is_refuted, trimmed_is_writable, trimmed_paths, trimmed_inside, trimmed_needed}
use Rattle.strat_trim.proofs.trimming.trim.Goals as goal

pub needed_parts-requires : goal.needed_parts-requires
needed_parts-requires g c = parts_won g.D.Domain.SORT c.args.won c.into_parts-problem.result.0 c.into_parts-problem.result.1 c.as_slice.result.now c.into_parts-problem.ensures.won c.into_parts-problem.ensures.problem c.into_parts-problem.ensures.skeleton (c.as_slice.ensures ∙ c.into_parts-problem.ensures.proof)

pub from_parts-skeleton-requires : goal.from_parts-skeleton-requires
from_parts-skeleton-requires g c =
    trimmed_follows g.D.Domain.SORT (game c.into_parts-problem.result.0 c.into_parts-problem.result.1 c.as_slice.result.now) c.in_ok-prefix.prefix c.in_ok-tree.field-0.tree (parts_won g.D.Domain.SORT c.args.won c.into_parts-problem.result.0 c.into_parts-problem.result.1 c.as_slice.result.now c.into_parts-problem.ensures.won c.into_parts-problem.ensures.problem c.into_parts-problem.ensures.skeleton (c.as_slice.ensures ∙ c.into_parts-problem.ensures.proof)) c.matrix-kept.ensures.kept (c.in_ok-prefix.ensures ∙ c.prefix.ensures) c.in_ok-tree.ensures.tree

pub from_refuted-requires-clause-prefix : goal.from_refuted-requires-clause-prefix
from_refuted-requires-clause-prefix g c =
    ap (λ (x : WrittenSkeleton). x.prefix) c.from_parts-skeleton.ensures ∙ c.in_ok-prefix.ensures ∙ c.prefix.ensures

pub from_refuted-requires-clause-few : goal.from_refuted-requires-clause-few
from_refuted-requires-clause-few g c = trimmed_few g.D.Domain.SORT (game c.into_parts-problem.result.0 c.into_parts-problem.result.1 c.as_slice.result.now) c.from_parts-skeleton.result.tree (parts_won g.D.Domain.SORT c.args.won c.into_parts-problem.result.0 c.into_parts-problem.result.1 c.as_slice.result.now c.into_parts-problem.ensures.won c.into_parts-problem.ensures.problem c.into_parts-problem.ensures.skeleton (c.as_slice.ensures ∙ c.into_parts-problem.ensures.proof)) (ap (λ (x : WrittenSkeleton). skeleton_of x.tree) c.from_parts-skeleton.ensures ∙ c.in_ok-tree.ensures.tree)

pub from_refuted-requires-clause-refutes : goal.from_refuted-requires-clause-refutes
from_refuted-requires-clause-refutes g c =
    trimmed_is_refuted g.D.Domain.SORT (game c.into_parts-problem.result.0 c.into_parts-problem.result.1 c.as_slice.result.now) c.into_parts-problem.result.0 c.from_parts-skeleton.result.tree c.in_ok-tree.field-0.proof (parts_won g.D.Domain.SORT c.args.won c.into_parts-problem.result.0 c.into_parts-problem.result.1 c.as_slice.result.now c.into_parts-problem.ensures.won c.into_parts-problem.ensures.problem c.into_parts-problem.ensures.skeleton (c.as_slice.ensures ∙ c.into_parts-problem.ensures.proof)) c.matrix-kept.ensures.kept refl (ap (λ (x : WrittenSkeleton). skeleton_of x.tree) c.from_parts-skeleton.ensures ∙ c.in_ok-tree.ensures.tree) c.in_ok-tree.ensures.proof

pub from_refuted-requires-clause-writable : goal.from_refuted-requires-clause-writable
from_refuted-requires-clause-writable g c = trimmed_is_writable g.D.Domain.SORT (game c.into_parts-problem.result.0 c.into_parts-problem.result.1 c.as_slice.result.now) c.in_ok-tree.field-0.proof (parts_won g.D.Domain.SORT c.args.won c.into_parts-problem.result.0 c.into_parts-problem.result.1 c.as_slice.result.now c.into_parts-problem.ensures.won c.into_parts-problem.ensures.problem c.into_parts-problem.ensures.skeleton (c.as_slice.ensures ∙ c.into_parts-problem.ensures.proof)) c.in_ok-tree.ensures.proof

pub returns-clause-problem : goal.returns-clause-problem
returns-clause-problem g c = ap (λ (x : WonGame). x.problem) c.from_refuted.ensures ∙ c.into_parts-problem.ensures.problem

pub returns-clause-paths : goal.returns-clause-paths
returns-clause-paths g c =
    ap (λ (x : WonGame). paths (skeleton_of x.tree)) c.from_refuted.ensures
    ∙ trimmed_paths g.D.Domain.SORT (game c.into_parts-problem.result.0 c.into_parts-problem.result.1 c.as_slice.result.now) c.from_parts-skeleton.result.tree (parts_won g.D.Domain.SORT c.args.won c.into_parts-problem.result.0 c.into_parts-problem.result.1 c.as_slice.result.now c.into_parts-problem.ensures.won c.into_parts-problem.ensures.problem c.into_parts-problem.ensures.skeleton (c.as_slice.ensures ∙ c.into_parts-problem.ensures.proof)) (ap (λ (x : WrittenSkeleton). skeleton_of x.tree) c.from_parts-skeleton.ensures ∙ c.in_ok-tree.ensures.tree)
    ∙ ap (λ (x : WonGame). only (marked (needed (skeleton_of x.tree) x.proof)) 0 (paths (skeleton_of x.tree))) (same_game c.args.won c.into_parts-problem.result.0 c.into_parts-problem.result.1 c.as_slice.result.now c.into_parts-problem.ensures.problem c.into_parts-problem.ensures.skeleton (c.as_slice.ensures ∙ c.into_parts-problem.ensures.proof))

pub returns-clause-needed : goal.returns-clause-needed
returns-clause-needed g c = trimmed_needed g.D.Domain.SORT c.args.won c.into_parts-problem.ensures.won

pub returns-clause-inside : goal.returns-clause-inside
returns-clause-inside g c =
    subst (λ (x : WonGame). AllByRecursion (IsAmong (paths (skeleton_of x.tree))) (paths (skeleton_of c.from_refuted.result.tree))) (same_game c.args.won c.into_parts-problem.result.0 c.into_parts-problem.result.1 c.as_slice.result.now c.into_parts-problem.ensures.problem c.into_parts-problem.ensures.skeleton (c.as_slice.ensures ∙ c.into_parts-problem.ensures.proof))
    (trimmed_inside g.D.Domain.SORT (game c.into_parts-problem.result.0 c.into_parts-problem.result.1 c.as_slice.result.now) c.from_refuted.result.tree (parts_won g.D.Domain.SORT c.args.won c.into_parts-problem.result.0 c.into_parts-problem.result.1 c.as_slice.result.now c.into_parts-problem.ensures.won c.into_parts-problem.ensures.problem c.into_parts-problem.ensures.skeleton (c.as_slice.ensures ∙ c.into_parts-problem.ensures.proof)) (ap (λ (x : WonGame). skeleton_of x.tree) c.from_refuted.ensures ∙ (ap (λ (x : WrittenSkeleton). skeleton_of x.tree) c.from_parts-skeleton.ensures ∙ c.in_ok-tree.ensures.tree)))

pub returns-clause-proof : goal.returns-clause-proof
returns-clause-proof g c =
    ap (λ (x : WonGame). x.proof) c.from_refuted.ensures ∙ c.in_ok-tree.ensures.proof
    ∙ ap (λ (x : WonGame). trimmed_steps (skeleton_of x.tree) x.proof) (same_game c.args.won c.into_parts-problem.result.0 c.into_parts-problem.result.1 c.as_slice.result.now c.into_parts-problem.ensures.problem c.into_parts-problem.ensures.skeleton (c.as_slice.ensures ∙ c.into_parts-problem.ensures.proof))
