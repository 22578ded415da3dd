use Rattle.std.specs.Prelude.{ℕ, List}
use Rattle.std.proofs.Common.{sym, subst, refl}
use Rattle.lin_term.specs.declared.Lit.{Lit}
use Rattle.dom_core.specs.Cube.{IsPrimitiveCube}
use Rattle.dom_core.specs.Reduced.{AreBelow}
use Rattle.lose_system.specs.Written.{system_of}
use Rattle.clause_search.proofs.Answering.{point_answer, refuted_answer, wide_answer}
use Rattle.clause_search.proofs.Ending.{refuted_closes, wide_ends}
use Rattle.clause_search.proofs.eliminate.eliminated.Goals as goal

pub eliminate_all-requires-clause-primitive : goal.eliminate_all-requires-clause-primitive
eliminate_all-requires-clause-primitive g c = subst (λ (ls : List Lit). IsPrimitiveCube g.D.Domain.SORT ls) (sym c.from_lits-cube.ensures) c.requires.primitive

pub eliminate_all-requires-clause-below : goal.eliminate_all-requires-clause-below
eliminate_all-requires-clause-below g c =
    let n = (system_of g.D.Domain.SORT c.args.system.now).count in
    subst (λ (m : ℕ). AreBelow m c.from_lits-cube.result) (sym c.node_count.ensures)
    (subst (λ (ls : List Lit). AreBelow n ls) (sym c.from_lits-cube.ensures) c.requires.below)

pub returns-in-Point : goal.returns-in-Point
returns-in-Point g c =
    (point_answer g.D.Domain.SORT c.node_count.result (system_of g.D.Domain.SORT c.args.system.now).count c.args.chosen.cube c.from_lits-cube.result c.in_ok-point.field-0 c.in-Point.point c.in-Point.is c.node_count.ensures c.from_lits-cube.ensures c.in_ok-point.ensures, refl)

pub returns-in-Wide : goal.returns-in-Wide
returns-in-Wide g c = (
  wide_ends g.D.Domain.SORT c.args.system.now c.args.goal.now c.args.chosen c.in-Wide.wide c.requires
      (wide_answer g.D.Domain.SORT c.node_count.result c.args.chosen.cube c.from_lits-cube.result c.in_ok-point.field-0 c.in-Wide.wide c.in-Wide.is c.from_lits-cube.ensures c.in_ok-point.ensures),
  refl,
)

pub returns-in_ok-add_lines-in-Refuted : goal.returns-in_ok-add_lines-in-Refuted
returns-in_ok-add_lines-in-Refuted g c =
    refuted_closes g.D.Domain.SORT c.args.system.now c.args.goal.now c.args.chosen c.in-Refuted.steps c.args.lines.now c.add_lines.new.lines c.requires
    (refuted_answer g.D.Domain.SORT c.node_count.result (system_of g.D.Domain.SORT c.args.system.now).count c.args.chosen.cube c.from_lits-cube.result c.in_ok-point.field-0 c.in-Refuted.steps c.in-Refuted.is c.node_count.ensures c.from_lits-cube.ensures c.in_ok-point.ensures)
    c.in_ok-add_lines-in-Refuted.ensures
