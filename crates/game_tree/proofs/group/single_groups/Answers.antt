use Rattle.game_tree.proofs.Turning.{all_single}
use Rattle.game_tree.proofs.group.single_groups.Goals as goal

pub returns : goal.returns
returns c = all_single c.args.branches c.loop-branch.left c.loop-branch.groups.items c.reverse.new.self.items c.loop-branch.invariant c.in_default.ensures.0 c.reverse.ensures.items
