use Rattle.std.specs.Prelude.{Option, option_map, []}
use Rattle.std.proofs.Common.{arith, ap, ◌∙◌, sym}
use Rattle.std.proofs.lemmas.List.{length-map}
use Rattle.dom_core.specs.declared.Matrix.{Matrix as Written}
use Rattle.dom_core.specs.Game.{rename_matrix, neg_matrix}
use Rattle.game_tree.specs.View.{skeleton_of}
use Rattle.lose_system.specs.Losing.{routes}
use Rattle.dom_core.specs.View.{matrix_of}
use Rattle.lose_system.specs.Written.{system_of}
use Rattle.game_history.specs.Legal.{IsOfMatrix}
use Rattle.game_history.proofs.OfSystem.{refuted, none_of_more, some_found, none_found, past_all}
use Rattle.game_history.proofs.membership.is_of_path.Goals as goal

pub returns-then-has_literal : goal.returns-then-has_literal
returns-then-has_literal g c =
    some_found (IsOfMatrix c.args.lit.now) (system_of g.D.Domain.SORT c.args.system.now).paths c.loop-k.k (matrix_of c.in-Some.matrix) (sym c.in_ok-matrix.ensures ∙ ap (λ (o : Option Written). option_map matrix_of o) c.in-Some.is) (c.has_literal.ensures.0 c.if-has_literal.true)

pub loop-k-preserved : goal.loop-k-preserved
loop-k-preserved g c =
    none_of_more (IsOfMatrix c.args.lit.now) (system_of g.D.Domain.SORT c.args.system.now).paths c.loop-k.k (matrix_of c.in-Some.matrix) c.loop-k.invariant (sym c.in_ok-matrix.ensures ∙ ap (λ (o : Option Written). option_map matrix_of o) c.in-Some.is)
    (refuted c.has_literal.result (IsOfMatrix c.args.lit.now (matrix_of c.in-Some.matrix)) c.has_literal.ensures c.if-has_literal.false)

pub returns-in_default : goal.returns-in_default
returns-in_default g c =
    let P = IsOfMatrix c.args.lit.now in
    let paths = (system_of g.D.Domain.SORT c.args.system.now).paths in
    none_found P paths c.loop-k.k (past_all paths c.loop-k.k (sym c.in_ok-matrix.ensures ∙ ap (λ (o : Option Written). option_map matrix_of o) c.in_default.is)) c.loop-k.invariant

pub returns : goal.returns
returns g c =
    let f = rename_matrix (neg_matrix (matrix_of c.args.system.now.problem.matrix) g.D.Domain.SORT) in
    let l = length-map (routes (skeleton_of c.args.system.now.tree) [] 0) f in
    let e = c.path_count-k-end.ensures in
    let t = c.loop-k-test.false in
    none_found (IsOfMatrix c.args.lit.now) (system_of g.D.Domain.SORT c.args.system.now).paths c.loop-k.k (omega arith) c.loop-k.invariant
