use Rattle.std.proofs.Common.{◌∙◌, refl}
use Rattle.strat_trim.proofs.TrimLemmas.{game, chosen_is, room_for_paths, few_flags, marks_are, few_marks, names_at_hand, left_is, never_none, lines_are}
use Rattle.strat_trim.proofs.trimming.needed_parts.Goals as goal

pub pruned-requires : goal.pruned-requires
pruned-requires g c = room_for_paths (game c.args.problem.now c.args.skeleton.now c.args.proof.now) c.tree-tree.result.now c.as_slice.result.now c.tree-tree.ensures.value (c.as_slice.ensures ∙ (chosen_is g.D.Domain.SORT (game c.args.problem.now c.args.skeleton.now c.args.proof.now) c.tree-tree.result.now c.in_ok-named.named.paths c.in_ok-named.named.nodes c.in_ok-chosen.chosen c.leaves.result c.nodes.result c.tree-tree.ensures.value c.leaves.ensures c.nodes.ensures c.in_ok-named.ensures.paths c.in_ok-named.ensures.nodes c.in_ok-chosen.ensures))

pub numbered-requires : goal.numbered-requires
numbered-requires g c = few_flags g.D.Domain.SORT (game c.args.problem.now c.args.skeleton.now c.args.proof.now) c.as_slice-2.result.now c.requires (c.as_slice-2.ensures ∙ (chosen_is g.D.Domain.SORT (game c.args.problem.now c.args.skeleton.now c.args.proof.now) c.tree-tree.result.now c.in_ok-named.named.paths c.in_ok-named.named.nodes c.in_ok-chosen.chosen c.leaves.result c.nodes.result c.tree-tree.ensures.value c.leaves.ensures c.nodes.ensures c.in_ok-named.ensures.paths c.in_ok-named.ensures.nodes c.in_ok-chosen.ensures))

pub numbered-requires-2 : goal.numbered-requires-2
numbered-requires-2 g c = few_marks g.D.Domain.SORT (game c.args.problem.now c.args.skeleton.now c.args.proof.now) c.as_slice-3.result.now c.requires (c.as_slice-3.ensures ∙ (marks_are (game c.args.problem.now c.args.skeleton.now c.args.proof.now) c.tree-tree.result.now c.as_slice.result.now c.new-marks.result c.pruned.new.marks c.tree-tree.ensures.value (c.as_slice.ensures ∙ (chosen_is g.D.Domain.SORT (game c.args.problem.now c.args.skeleton.now c.args.proof.now) c.tree-tree.result.now c.in_ok-named.named.paths c.in_ok-named.named.nodes c.in_ok-chosen.chosen c.leaves.result c.nodes.result c.tree-tree.ensures.value c.leaves.ensures c.nodes.ensures c.in_ok-named.ensures.paths c.in_ok-named.ensures.nodes c.in_ok-chosen.ensures)) c.new-marks.ensures c.in_ok-left.ensures.marks))

pub renumbered_steps-requires : goal.renumbered_steps-requires
renumbered_steps-requires g c =
    names_at_hand g.D.Domain.SORT (game c.args.problem.now c.args.skeleton.now c.args.proof.now) c.as_slice-3.result.now c.as_slice-5.result.now c.requires (c.as_slice-3.ensures ∙ (marks_are (game c.args.problem.now c.args.skeleton.now c.args.proof.now) c.tree-tree.result.now c.as_slice.result.now c.new-marks.result c.pruned.new.marks c.tree-tree.ensures.value (c.as_slice.ensures ∙ (chosen_is g.D.Domain.SORT (game c.args.problem.now c.args.skeleton.now c.args.proof.now) c.tree-tree.result.now c.in_ok-named.named.paths c.in_ok-named.named.nodes c.in_ok-chosen.chosen c.leaves.result c.nodes.result c.tree-tree.ensures.value c.leaves.ensures c.nodes.ensures c.in_ok-named.ensures.paths c.in_ok-named.ensures.nodes c.in_ok-chosen.ensures)) c.new-marks.ensures c.in_ok-left.ensures.marks)) (c.as_slice-5.ensures ∙ c.in_ok-nodes.ensures)

pub unreachable-requires : goal.unreachable-requires
unreachable-requires g c = never_none g.D.Domain.SORT (game c.args.problem.now c.args.skeleton.now c.args.proof.now) c.tree-tree.result.now c.as_slice.result.now c.in_ok-left.left c.requires c.tree-tree.ensures.value (c.as_slice.ensures ∙ (chosen_is g.D.Domain.SORT (game c.args.problem.now c.args.skeleton.now c.args.proof.now) c.tree-tree.result.now c.in_ok-named.named.paths c.in_ok-named.named.nodes c.in_ok-chosen.chosen c.leaves.result c.nodes.result c.tree-tree.ensures.value c.leaves.ensures c.nodes.ensures c.in_ok-named.ensures.paths c.in_ok-named.ensures.nodes c.in_ok-chosen.ensures)) c.in_ok-left.ensures.tree c.in-None.is

pub returns-clause-tree : goal.returns-clause-tree
returns-clause-tree g c = left_is g.D.Domain.SORT (game c.args.problem.now c.args.skeleton.now c.args.proof.now) c.tree-tree.result.now c.in-Some.tree c.as_slice.result.now c.in_ok-left.left c.tree-tree.ensures.value (c.as_slice.ensures ∙ (chosen_is g.D.Domain.SORT (game c.args.problem.now c.args.skeleton.now c.args.proof.now) c.tree-tree.result.now c.in_ok-named.named.paths c.in_ok-named.named.nodes c.in_ok-chosen.chosen c.leaves.result c.nodes.result c.tree-tree.ensures.value c.leaves.ensures c.nodes.ensures c.in_ok-named.ensures.paths c.in_ok-named.ensures.nodes c.in_ok-chosen.ensures)) c.in_ok-left.ensures.tree c.in-Some.is

pub returns-clause-proof : goal.returns-clause-proof
returns-clause-proof g c =
    lines_are (game c.args.problem.now c.args.skeleton.now c.args.proof.now) c.as_slice-2.result.now c.as_slice-3.result.now c.as_slice-4.result.now c.as_slice-5.result.now c.args.proof.now c.in_ok-proof.proof
    (c.as_slice-2.ensures ∙ (chosen_is g.D.Domain.SORT (game c.args.problem.now c.args.skeleton.now c.args.proof.now) c.tree-tree.result.now c.in_ok-named.named.paths c.in_ok-named.named.nodes c.in_ok-chosen.chosen c.leaves.result c.nodes.result c.tree-tree.ensures.value c.leaves.ensures c.nodes.ensures c.in_ok-named.ensures.paths c.in_ok-named.ensures.nodes c.in_ok-chosen.ensures))
    (c.as_slice-3.ensures ∙ (marks_are (game c.args.problem.now c.args.skeleton.now c.args.proof.now) c.tree-tree.result.now c.as_slice.result.now c.new-marks.result c.pruned.new.marks c.tree-tree.ensures.value (c.as_slice.ensures ∙ (chosen_is g.D.Domain.SORT (game c.args.problem.now c.args.skeleton.now c.args.proof.now) c.tree-tree.result.now c.in_ok-named.named.paths c.in_ok-named.named.nodes c.in_ok-chosen.chosen c.leaves.result c.nodes.result c.tree-tree.ensures.value c.leaves.ensures c.nodes.ensures c.in_ok-named.ensures.paths c.in_ok-named.ensures.nodes c.in_ok-chosen.ensures)) c.new-marks.ensures c.in_ok-left.ensures.marks))
    (c.as_slice-4.ensures ∙ c.in_ok-paths.ensures) (c.as_slice-5.ensures ∙ c.in_ok-nodes.ensures) refl c.in_ok-proof.ensures
