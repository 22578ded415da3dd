use Rattle.std.proofs.Common.{ap, ◌∙◌}
use Rattle.game_tree.specs.declared.Tree.TheVariants as trees
use Rattle.game_tree.specs.Skeleton.{Branches, mine}
use Rattle.game_tree.specs.View.{skeleton_of}
use Rattle.game_tree.proofs.Views.{seen_mine}
use Rattle.term_select.proofs.Giving.{pick_wide, put_wide, pick_given}
use Rattle.term_select.proofs.turn.pick_move.Goals as goal

pub returns-in-Err-clause-value : goal.returns-in-Err-clause-value
returns-in-Err-clause-value g c =
    let b = c.args.below in
    λ numbers e. pick_wide g.D.Domain.SORT c.args.var b.here b.part.cube (skeleton_of b.part.tree) b.part.next c.in-Err.fault numbers e c.in-Err.ensures.value

pub returns-in-Err-put_move-clause-value : goal.returns-in-Err-put_move-clause-value
returns-in-Err-put_move-clause-value g c =
    let b = c.args.below in
    λ numbers e. put_wide g.D.Domain.SORT c.args.var b.here b.part.cube (skeleton_of b.part.tree) b.part.next c.in-Ok.term c.in-Err-put_move.fault numbers e c.in-Ok.ensures.value c.in-Err-put_move.ensures.value

pub returns-clause-value : goal.returns-clause-value
returns-clause-value g c =
    let b = c.args.below in
    let bs = c.in_ok-branches.branches in
    λ numbers e. pick_given g.D.Domain.SORT c.args.var b.here b.part.cube b.part.tree (trees.Mine bs) b.part.next c.in-Ok.term c.in-Ok-put_move.cube numbers e c.in-Ok.ensures.value c.in-Ok-put_move.ensures.value
    (seen_mine bs ∙ ap (λ (x : Branches). mine x) c.in_ok-branches.ensures)
