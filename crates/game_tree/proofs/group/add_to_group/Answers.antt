use Rattle.std.specs.Prelude.{List, ◌∷◌, [], ◌++◌, map}
use Rattle.std.proofs.Common.{ap, ◌∙◌}
use Rattle.std.proofs.lemmas.List.{map_push}
use Rattle.game_tree.specs.declared.tree.Tree.{Tree}
use Rattle.game_tree.specs.declared.group.Group.{Group}
use Rattle.game_tree.specs.Skeleton.{Skeleton}
use Rattle.game_tree.specs.View.{skeleton_of}
use Rattle.game_tree.specs.Gather.{Gathered}
use Rattle.game_tree.proofs.Turning.{added_inside}
use Rattle.game_tree.proofs.group.add_to_group.Goals as goal

pub returns : goal.returns
returns c =
    λ m.
    let gs = c.args.groups.now.items in
    let g = c.index_mut-group.result.now in
    let h : Group = record { term = g.term; first = g.first; more = c.push.new.self } in
    let with_more : List Skeleton → Gathered = λ Ss. (g.term, skeleton_of g.first, Ss) in
    added_inside gs c.args.home m (skeleton_of c.args.rest) g h c.requires c.index_mut-group.ensures.value
    (ap (λ (ts : List Tree). with_more (map skeleton_of ts)) c.in_ok-push.ensures.items ∙ ap with_more (map_push skeleton_of g.more.items c.args.rest))
