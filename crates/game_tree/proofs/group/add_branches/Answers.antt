use Rattle.std.specs.Prelude.{drop, map, get_or}
use Rattle.std.proofs.Common.{◌∙◌, sym}
use Rattle.std.proofs.lemmas.List.{nil_from_length, get_or_default}
use Rattle.game_tree.specs.Gather.{group_of}
use Rattle.game_tree.proofs.Turning.{none_left, one_home}
use Rattle.game_tree.proofs.group.add_branches.Goals as goal

pub returns-in-None : goal.returns-in-None
returns-in-None c =
    sym (none_left (drop c.loop-home.home-index c.args.homes.now) (map group_of c.loop-home.groups.items) c.loop-home.turned.items
    (nil_from_length c.loop-home.turned.items (sym c.loop-home.turned.ok.0 ∙ c.in-None.ensures.cases.0)))
    ∙ c.loop-home.invariant

pub loop-home-preserved : goal.loop-home-preserved
loop-home-preserved c =
    one_home c.args.homes.now c.loop-home.home-index _ (map group_of c.loop-home.groups.items) (map group_of c.add_branch.new.groups.items) c.loop-home.turned.items c.pop.new.self.items c.in-Some.branch
    c.loop-home-test.true (get_or_default c.args.homes.now c.loop-home.home-index 0 (get_or c.args.homes.now c.loop-home.home-index 0) c.loop-home-test.true) c.in-Some.ensures.items c.in_ok-add_branch-in-Some.ensures
    ∙ c.loop-home.invariant
