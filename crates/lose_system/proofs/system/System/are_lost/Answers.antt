use Rattle.std.specs.Prelude.{[]}
use Rattle.std.proofs.Common.{◌∙◌, sym}
use Rattle.dom_core.specs.Game.{HoldsIn}
use Rattle.dom_core.specs.View.{matrix_of}
use Rattle.game_tree.specs.View.{skeleton_of}
use Rattle.lose_system.specs.Losing.{routes}
use Rattle.lose_system.proofs.LostLemmas.{lost}
use Rattle.lose_system.proofs.SolvedLemmas.{refuted, lost_same, way_wins, way_more}
use Rattle.lose_system.proofs.system.System.are_lost.Goals as goal

pub returns-then-not-lost : goal.returns-then-not-lost
returns-then-not-lost g c =
    let h = lost_same c.args.self.now.problem.matrix c.matrix-matrix.result.now g.D.Domain.SORT c.SORT.result c.in-Some.names c.as_slice.result.now c.args.point.now c.in_ok-lost.lost
    c.matrix-matrix.ensures.value c.SORT.ensures c.as_slice.ensures c.in_ok-lost.ensures in
    way_wins (matrix_of c.args.self.now.problem.matrix) g.D.Domain.SORT (routes (skeleton_of c.args.self.now.tree) [] 0) c.args.point.now c.loop-k.k c.in-Some.names (sym c.in-Some.is ∙ c.in_ok-names.ensures.value)
    (refuted c.in_ok-lost.lost (HoldsIn (lost (matrix_of c.args.self.now.problem.matrix) g.D.Domain.SORT c.in-Some.names) c.args.point.now) h c.if-not-lost.true)

pub loop-k-preserved : goal.loop-k-preserved
loop-k-preserved g c =
    let h = lost_same c.args.self.now.problem.matrix c.matrix-matrix.result.now g.D.Domain.SORT c.SORT.result c.in-Some.names c.as_slice.result.now c.args.point.now c.in_ok-lost.lost
    c.matrix-matrix.ensures.value c.SORT.ensures c.as_slice.ensures c.in_ok-lost.ensures in
    way_more (matrix_of c.args.self.now.problem.matrix) g.D.Domain.SORT (routes (skeleton_of c.args.self.now.tree) [] 0) c.args.point.now c.loop-k.k c.in-Some.names (sym c.in-Some.is ∙ c.in_ok-names.ensures.value)
    (h.0 c.if-not-lost.false) c.loop-k.invariant
