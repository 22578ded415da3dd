use Rattle.std.proofs.Common.{ap, ◌∙◌}
use Rattle.game_tree.specs.View.{skeleton_of, branches_of}
use Rattle.game_tree.specs.Gather.{pairs_of}
use Rattle.game_tree.proofs.Views.{seen_end, seen_theirs, seen_mine}
use Rattle.game_tree.proofs.Merges.{branches_end, branches_theirs, branches_mine}
use Rattle.game_tree.proofs.union.push_branches.Goals as goal

pub returns-in-End : goal.returns-in-End
returns-in-End c = branches_end (pairs_of c.args.all.now) c.args.tree (ap skeleton_of c.in-End.is ∙ seen_end)

pub returns-in-Theirs : goal.returns-in-Theirs
returns-in-Theirs c = branches_theirs (pairs_of c.args.all.now) c.args.tree (skeleton_of c.in-Theirs.field-0) (ap skeleton_of c.in-Theirs.is ∙ seen_theirs c.in-Theirs.field-0)

pub returns-in-Mine : goal.returns-in-Mine
returns-in-Mine c = branches_mine c.args.all.now c.append.new.self c.args.tree c.in-Mine.branches (ap skeleton_of c.in-Mine.is ∙ seen_mine c.in-Mine.branches) c.in_ok-append-in-Mine.ensures
