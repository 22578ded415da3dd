use Rattle.std.specs.Prelude.{◌≤◌, ◌+◌, ◌≡◌}
use Rattle.std.proofs.Common.{arith, ap, ap₂, ◌∙◌, sym}
use Rattle.game_tree.specs.Skeleton.{nodes}
use Rattle.game_tree.specs.Union.{union}
use Rattle.game_tree.specs.View.{skeleton_of}
use Rattle.game_tree.specs.Written.{count_limit}
use Rattle.game_tree.proofs.Sizes.{union_written}
use Rattle.game_tree.proofs.skeleton.Skeleton.merge.Goals as goal

pub overflow_add-nodes : goal.overflow_add-nodes
overflow_add-nodes g c =
    let a = c.tree-own.ensures.kept.countable in
    let b = c.tree-others.ensures.kept.countable in
    omega (arith, a, b, c.nodes.ensures, c.nodes-2.ensures)

pub from_parts-requires : goal.from_parts-requires
from_parts-requires g c =
    let past = c.if-nodes-gt-COUNT.false in
    let n : nodes (skeleton_of c.args.self.now.tree) + nodes (skeleton_of c.args.other.now.tree) ≤ count_limit = omega (arith, past, c.nodes.ensures, c.nodes-2.ensures) in
    let u = c.in_ok-tree.ensures ∙ ap₂ (λ s t. union (skeleton_of s) (skeleton_of t)) (c.in_ok-first.ensures ∙ c.tree-own.ensures.value) (c.in_ok-second.ensures ∙ c.tree-others.ensures.value) in
    union_written g.D.Domain.SORT c.args.self.now c.args.other.now c.in_ok-prefix.prefix c.in_ok-tree.tree c.tree-own.ensures.kept c.tree-others.ensures.kept c.requires (c.in_ok-prefix.ensures ∙ c.prefix.ensures) u n
