use Rattle.std.specs.Prelude.{None, length, ◌≡◌}
use Rattle.std.proofs.Common.{ap, sym, subst, ◌∙◌}
use Rattle.lin_term.specs.declared.Sort.{Sort}
use Rattle.lin_term.specs.Wide.{first_past}
use Rattle.dom_core.specs.Game.{Matrix, neg_matrix, flip_all, dual}
use Rattle.dom_core.specs.View.{matrix_of}
use Rattle.dom_core.specs.Problem.{WrittenProblem, IsProblem, problem_of}
use Rattle.dom_core.specs.Negation.{IsPrimitiveMatrix, negation_numbers, HasRows}
use Rattle.dom_core.proofs.Negations.{kept_primitive, kept_within}
use Rattle.dom_core.proofs.Duals.{dual_is_problem, dual_contrary, dual_inverse, made_dual}
use Rattle.dom_core.proofs.problem.Problem.dual.Given.{Over}
use Rattle.dom_core.proofs.problem.Problem.dual.Goals as goal

pub negated-requires-clause-primitive : goal.negated-requires-clause-primitive
negated-requires-clause-primitive g c =
    subst (λ (s : Sort). IsPrimitiveMatrix (matrix_of c.self.inside.matrix) s) (sym c.SORT.ensures)
    (kept_primitive (matrix_of c.self.inside.matrix) g.D.Domain.SORT (length c.self.inside.prefix) c.self.invariant.1 c.self.invariant.2)

pub negated-requires-clause-within : goal.negated-requires-clause-within
negated-requires-clause-within g c =
    subst (λ (s : Sort). first_past (negation_numbers (matrix_of c.self.inside.matrix) s) ≡ None) (sym c.SORT.ensures)
    (kept_within (matrix_of c.self.inside.matrix) g.D.Domain.SORT c.self.invariant.2)

negated_is : (s s' : Sort) (m n : Matrix) → s' ≡ s → n ≡ neg_matrix m s' → n ≡ neg_matrix m s
negated_is s s' m n e h = h ∙ ap (neg_matrix m) e

pub from_parts-requires : goal.from_parts-requires
from_parts-requires g c =
    dual_is_problem g.D.Domain.SORT (record { prefix = c.self.inside.prefix; matrix = c.self.inside.matrix }) c.in_ok-prefix.prefix c.in_ok-matrix.matrix
    c.self.invariant c.in_ok-matrix.ensures.rows (c.in_ok-prefix.ensures ∙ ap flip_all c.as_slice.ensures)
    (negated_is g.D.Domain.SORT c.SORT.result (matrix_of c.self.inside.matrix) (matrix_of c.in_ok-matrix.matrix) c.SORT.ensures c.in_ok-matrix.ensures.value)

-- what is returned is the dual
is_dual : (g : Over) (c : goal.After-from_parts g) → problem_of c.from_parts.result ≡ dual g.D.Domain.SORT (problem_of c.args.self.now)
is_dual g c =
    made_dual g.D.Domain.SORT (record { prefix = c.self.inside.prefix; matrix = c.self.inside.matrix }) c.args.self.now c.from_parts.result c.in_ok-prefix.prefix c.in_ok-matrix.matrix
    c.self.view_is (c.in_ok-prefix.ensures ∙ ap flip_all c.as_slice.ensures)
    (negated_is g.D.Domain.SORT c.SORT.result (matrix_of c.self.inside.matrix) (matrix_of c.in_ok-matrix.matrix) c.SORT.ensures c.in_ok-matrix.ensures.value) c.from_parts.ensures

is_problem : (g : Over) (c : goal.After-from_parts g) → IsProblem g.D.Domain.SORT c.args.self.now
is_problem g c = subst (λ (P : WrittenProblem). IsProblem g.D.Domain.SORT P) c.self.view_is c.self.invariant

pub returns-clause-contrary : goal.returns-clause-contrary
returns-clause-contrary g c = dual_contrary g.D.Domain.SORT c.args.self.now (problem_of c.from_parts.result) (is_problem g c) (is_dual g c)

pub returns-clause-inverse : goal.returns-clause-inverse
returns-clause-inverse g c =
    dual_inverse g.D.Domain.SORT c.args.self.now (problem_of c.from_parts.result) (is_problem g c)
    (subst (λ (P : WrittenProblem). HasRows (matrix_of P.matrix)) c.self.view_is c.in_ok-matrix.ensures.rows) (is_dual g c)
