use Rattle.std.specs.Prelude.{ℕ, ◌≡◌, ◌+◌, List, length}
use Rattle.std.proofs.Common.{arith, ap, sym, subst}
use Rattle.lin_term.specs.Linear.{Value}
use Rattle.dom_core.specs.declared.Matrix.{Matrix as Written}
use Rattle.dom_core.specs.declared.Quant.{Quant}
use Rattle.dom_core.specs.Problem.{problem_of}
use Rattle.dom_core.specs.View.{matrix_of}
use Rattle.game_tree.specs.Skeleton.{Follows}
use Rattle.game_tree.specs.View.{skeleton_of}
use Rattle.game_play.specs.Course.{IsOver}
use Rattle.game_play.proofs.Contest.{answer_dual}
use Rattle.game_play.proofs.Courses.{over_from}
use Rattle.game_play.proofs.Meaning.{answer_beats, whole_play}
use Rattle.game_play.proofs.play.beats.Goals as goal

pub wins-requires-clause-matrix : goal.wins-requires-clause-matrix
wins-requires-clause-matrix g c =
    let P = c.args.problem.now in
    let a : length c.new-values.result ≡ 0 = ap (λ (xs : List Value). length xs) c.new-values.ensures in
    let b : length c.prefix.result.now ≡ length P.prefix = ap (λ (xs : List Quant). length xs) c.prefix.ensures in
    subst (λ (k : ℕ). IsOver (matrix_of c.matrix.result.now) k) (let i : length P.prefix ≡ length c.new-values.result + length c.prefix.result.now = omega (arith, a, b) in i)
    (subst (λ (M : Written). IsOver (matrix_of M) (length P.prefix)) (sym c.matrix.ensures.value) (over_from (matrix_of P.matrix) g.D.Domain.SORT (length P.prefix) c.matrix.ensures.kept.1))

pub returns-clause-beats : goal.returns-clause-beats
returns-clause-beats g c =
    let s = g.D.Domain.SORT in
    let P = c.args.problem.now in
    let S = c.args.own.now.tree in
    let U = c.args.other.now.tree in
    answer_beats s (problem_of P) (skeleton_of S) (skeleton_of U) c.wins.result
    (subst (λ (qs : List Quant). Follows (skeleton_of S) s qs 0) c.requires.own c.tree.ensures.kept.follows)
    (subst (λ (qs : List Quant). Follows (skeleton_of U) s qs 0) c.requires.other c.tree-2.ensures.kept.follows)
    (whole_play c.SORT.result s c.prefix.result.now P.prefix c.matrix.result.now P.matrix c.tree.result.now S c.tree-2.result.now U c.new-values.result c.wins.result
    c.SORT.ensures c.prefix.ensures c.matrix.ensures.value c.tree.ensures.value c.tree-2.ensures.value c.new-values.ensures c.wins.ensures.value)

pub returns-clause-one : goal.returns-clause-one
returns-clause-one g c =
    let s = g.D.Domain.SORT in
    let P = c.args.problem.now in
    let S = c.args.own.now.tree in
    let U = c.args.other.now.tree in
    answer_dual s (problem_of P) (skeleton_of S) (skeleton_of U) c.wins.result c.matrix.ensures.kept.1
    (subst (λ (qs : List Quant). Follows (skeleton_of S) s qs 0) c.requires.own c.tree.ensures.kept.follows)
    (subst (λ (qs : List Quant). Follows (skeleton_of U) s qs 0) c.requires.other c.tree-2.ensures.kept.follows)
    (returns-clause-beats g c)
