use Rattle.std.specs.Prelude.{◌↔◌, IsTrue}
use Rattle.std.proofs.Common.{sym, subst}
use Rattle.game_tree.specs.Union.{In}
use Rattle.game_tree.specs.View.{skeleton_of}
use Rattle.game_tree.specs.Full.{IsDistinctTree, IsFullTree}
use Rattle.game_tree.proofs.PathsIn.{follows_distinct, follows_full}
use Rattle.game_tree.proofs.skeleton.Skeleton.contains.Goals as goal

pub has_paths-requires-clause-distinct : goal.has_paths-requires-clause-distinct
has_paths-requires-clause-distinct g c =
    subst (λ t. IsDistinctTree (skeleton_of t)) (sym c.tree.ensures.value) (follows_distinct (skeleton_of c.args.self.now.tree) g.D.Domain.SORT c.args.self.now.prefix 0 c.tree.ensures.kept.follows)

pub has_paths-requires-clause-full : goal.has_paths-requires-clause-full
has_paths-requires-clause-full g c =
    subst (λ t. IsFullTree (skeleton_of t)) (sym c.tree-2.ensures.value) (follows_full (skeleton_of c.args.other.now.tree) g.D.Domain.SORT c.args.other.now.prefix 0 c.tree-2.ensures.kept.follows)

pub returns : goal.returns
returns g c =
    subst (λ t. IsTrue c.has_paths.result ↔ In (skeleton_of t) (skeleton_of c.args.self.now.tree)) c.tree-2.ensures.value
    (subst (λ t. IsTrue c.has_paths.result ↔ In (skeleton_of c.tree-2.result.now) (skeleton_of t)) c.tree.ensures.value c.has_paths.ensures)
