use Rattle.std.specs.Prelude.{length, []}
use Rattle.std.proofs.Common.{refl}
use Rattle.game_tree.specs.View.{skeleton_of}
use Rattle.lose_system.specs.Losing.{routes}
use Rattle.clause_search.proofs.Parting.{no_path, not_below, path_progresses}
use Rattle.clause_search.proofs.expand.take_path.Goals as goal

pub returns-then-not-has_path : goal.returns-then-not-has_path
returns-then-not-has_path g c =
    (refl, refl, no_path g.D.Domain.SORT c.args.system.now c.args.goal.now (not_below c.has_path.result c.args.goal.now.next (length (routes (skeleton_of c.args.system.now.tree) [] 0)) c.has_path.ensures c.if-not-has_path.true))

pub returns : goal.returns
returns g c =
    path_progresses g.D.Domain.SORT c.args.system.now c.args.goal.now c.add_path.new.goal (record { number = c.args.goal.now.count; path = c.args.goal.now.next; matrix = c.matrix.result }) c.args.lines.now c.add_path.new.lines c.requires.empty (c.has_path.ensures.0 c.if-not-has_path.false) c.matrix.ensures.kept refl refl c.matrix.ensures.value c.in_ok-add_path.ensures.goal c.in_ok-add_path.ensures.lines c.requires.kept
