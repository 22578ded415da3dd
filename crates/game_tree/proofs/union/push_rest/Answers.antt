use Rattle.std.specs.Prelude.{map}
use Rattle.std.proofs.Common.{ap, ◌∙◌, sym}
use Rattle.game_tree.specs.Skeleton.{theirs}
use Rattle.game_tree.specs.View.{skeleton_of, branches_of}
use Rattle.game_tree.proofs.Views.{seen_end, seen_theirs, seen_mine}
use Rattle.game_tree.proofs.Merges.{rest_end, rest_mine, rest_theirs}
use Rattle.game_tree.proofs.union.push_rest.Goals as goal

pub returns-in-End : goal.returns-in-End
returns-in-End c = rest_end (map skeleton_of c.args.below.now.items) c.args.tree (ap skeleton_of c.in-End.is ∙ seen_end)

pub returns-in-Theirs : goal.returns-in-Theirs
returns-in-Theirs c =
    rest_theirs c.args.below.now.items c.push.new.self.items c.args.tree c.into_inner.result
    (ap skeleton_of c.in-Theirs.is ∙ seen_theirs c.in-Theirs.rest ∙ ap (λ t. theirs (skeleton_of t)) (sym c.into_inner.ensures)) c.in_ok-push-in-Theirs.ensures.items

pub returns-in-Mine : goal.returns-in-Mine
returns-in-Mine c = rest_mine (map skeleton_of c.args.below.now.items) c.args.tree (branches_of c.in-Mine.field-0) (ap skeleton_of c.in-Mine.is ∙ seen_mine c.in-Mine.field-0)
