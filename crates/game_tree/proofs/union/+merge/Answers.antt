use Rattle.std.specs.Prelude.{List, [], ◌∷◌, ◌++◌, map}
use Rattle.std.proofs.Common.{arith, ap, ◌∙◌, sym, refl, append_assoc}
use Rattle.game_tree.specs.declared.tree.Branch.{Branch}
use Rattle.game_tree.specs.declared.group.Group.{Group}
use Rattle.game_tree.specs.Skeleton.{Skeleton, theirs}
use Rattle.game_tree.specs.Union.{union_all}
use Rattle.game_tree.specs.View.{skeleton_of}
use Rattle.game_tree.specs.Gather.{group_of, pairs_of}
use Rattle.game_tree.proofs.Views.{seen_end, seen_theirs, seen_mine}
use Rattle.game_tree.proofs.Gathers.{union_end}
use Rattle.game_tree.proofs.Merges.{group_whole, theirs_whole, mine_whole, rest_lighter, groups_lighter, one_lighter}
use Rattle.game_tree.proofs.union.+merge.Goals as goal

pub merge_groups-merged-requires : goal.merge_groups-merged-requires
merge_groups-merged-requires t c =
    let behind = c.next.new.self.rest.items in
    let e = c.loop-group.invariant.1 ∙ ap (λ (xs : List Group). c.loop-group.yielded ++ xs) c.in-Some.ensures.steps.0 in
    let h = one_lighter c.args.groups.items c.loop-group.yielded behind c.in-Some.group e in
    (omega (arith, h), tt)

pub merge_groups-loop-group-preserved : goal.merge_groups-loop-group-preserved
merge_groups-loop-group-preserved t c =
    let g = c.in-Some.group in
    let b : Branch = record { term = g.term; rest = c.in_ok-rest.rest } in (
      ap pairs_of c.in_ok-push.ensures.ok ∙ group_whole c.loop-group.all c.loop-group.yielded b g c.loop-group.invariant.0 refl c.in_ok-rest.ensures,
      c.loop-group.invariant.1 ∙ ap (λ (xs : List Group). c.loop-group.yielded ++ xs) c.in-Some.ensures.steps.0 ∙ sym (append_assoc c.loop-group.yielded (g ∷ []) c.next.new.self.rest.items),
    )

pub merged-merged-requires : goal.merged-merged-requires
merged-merged-requires t c =
    let r = c.into_inner.result in
    let f = ap skeleton_of c.in-Theirs.is ∙ seen_theirs c.in-Theirs.rest ∙ ap (λ u. theirs (skeleton_of u)) (sym c.into_inner.ensures) in
    let h = rest_lighter c.args.first r c.args.more.items c.in_ok-rests-in-Theirs.rests.items f c.in_ok-rests-in-Theirs.ensures in
    (omega (arith, h), tt)

pub merged-merge_groups-requires : goal.merged-merge_groups-requires
merged-merge_groups-requires t c =
    let h = groups_lighter c.args.first c.in-Mine.branches c.in_ok-others-in-Mine.others c.args.more.items (map group_of c.in_ok-groups-in-Mine.groups.items)
    (ap skeleton_of c.in-Mine.is ∙ seen_mine c.in-Mine.branches) c.in_ok-others-in-Mine.ensures c.in_ok-groups-in-Mine.ensures in
    (omega (arith, h), tt)

pub merged-returns-in-End : goal.merged-returns-in-End
merged-returns-in-End t c =
    seen_end ∙ sym (ap (λ (S : Skeleton). union_all S (map skeleton_of c.args.more.items)) (ap skeleton_of c.in-End.is ∙ seen_end) ∙ union_end (map skeleton_of c.args.more.items))

pub merged-returns-in_ok-new-in-Theirs : goal.merged-returns-in_ok-new-in-Theirs
merged-returns-in_ok-new-in-Theirs t c =
    theirs_whole c.into_inner.result c.in_ok-rest-in-Theirs.rest c.args.first c.args.more.items c.in_ok-rests-in-Theirs.rests.items _
    (ap skeleton_of c.in-Theirs.is ∙ seen_theirs c.in-Theirs.rest ∙ ap (λ u. theirs (skeleton_of u)) (sym c.into_inner.ensures))
    c.in_ok-rests-in-Theirs.ensures c.in_ok-rest-in-Theirs.ensures (seen_theirs c.in_ok-new-in-Theirs.field-0 ∙ ap (λ u. theirs (skeleton_of u)) c.in_ok-new-in-Theirs.ensures)

pub merged-returns-in_ok-merge_groups-in-Mine : goal.merged-returns-in_ok-merge_groups-in-Mine
merged-returns-in_ok-merge_groups-in-Mine t c =
    mine_whole c.in-Mine.branches c.in_ok-others-in-Mine.others c.in_ok-merge_groups-in-Mine.field-0 (map group_of c.in_ok-groups-in-Mine.groups.items) c.args.first c.args.more.items _
    (ap skeleton_of c.in-Mine.is ∙ seen_mine c.in-Mine.branches) c.in_ok-others-in-Mine.ensures c.in_ok-groups-in-Mine.ensures c.in_ok-merge_groups-in-Mine.ensures (seen_mine c.in_ok-merge_groups-in-Mine.field-0)
