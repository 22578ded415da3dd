use Rattle.std.specs.Prelude.{◌≡◌, List, map, reverse}
use Rattle.std.proofs.Common.{ap, ◌∙◌}
use Rattle.std.proofs.lemmas.List.{reverse-reverse}
use Rattle.game_tree.specs.declared.tree.Branch.{Branch}
use Rattle.game_tree.specs.Gather.{group_of, single, homes_from, moves_of, pairs_of, add_all}
use Rattle.game_tree.proofs.Merges.{grouped_so}
use Rattle.game_tree.proofs.union.grouped.Goals as goal

pub returns : goal.returns
returns c =
    let bs = c.args.branches in
    let cs = c.args.others in
    let e = c.as_slice.ensures in
    let f = c.as_slice-2.ensures in
    let g = c.as_slice-3.ensures.value in
    let h = c.in_ok-homes.ensures in
    let a = c.in_ok-groups-2.ensures in
    let homes : c.in_ok-homes.homes.items ≡ homes_from (moves_of bs) (moves_of cs) = cc in
    let all : map group_of c.in_ok-groups-2.groups.items ≡ add_all c.in_ok-homes.homes.items (map group_of c.in_ok-groups.groups.items) (pairs_of (reverse c.in_ok-turned.turned.items)) = cc in
    grouped_so bs cs (reverse c.in_ok-turned.turned.items) c.in_ok-homes.homes.items (map group_of c.in_ok-groups.groups.items) (map group_of c.in_ok-groups-2.groups.items) homes c.in_ok-groups.ensures
    (ap reverse c.in_ok-turned.ensures ∙ reverse-reverse cs) all
