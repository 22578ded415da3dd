use Rattle.lose_system.proofs.Tabled.{follows_prefix}
use Rattle.strat_check.proofs.goal.losing_system.Goals as goal

pub from_tree-skeleton-requires : goal.from_tree-skeleton-requires
from_tree-skeleton-requires g c =
    follows_prefix g.D.Domain.SORT c.args.problem.now c.prefix.result.now c.args.tree.now c.prefix.ensures c.matrix-kept.ensures.kept c.requires.skeleton
