use Rattle.game_tree.proofs.Zeros.{zero_written}
use Rattle.game_tree.proofs.skeleton.Skeleton.zero.Goals as goal

pub from_parts-requires : goal.from_parts-requires
from_parts-requires g c =
    zero_written g.D.Domain.SORT c.args.prefix.now c.in_ok-prefix.prefix c.in_ok-tree.tree c.in_ok-prefix.ensures c.in_ok-tree.ensures c.requires
