use Rattle.std.proofs.Common.{ℕ, ◌≤◌, sym, subst}
use Rattle.lin_term.specs.declared.Sort.TheVariants.{Int}
use Rattle.dom_core.proofs.AddingLemmas.{cube_of}
use Rattle.dom_core.proofs.Periods.{delta_period}
use Rattle.dom_core.proofs.Selecting.{picked_int, period_past}
use Rattle.dom_int.proofs.picking.picked.Goals as goal

pub congruent_move-requires-clause-least : goal.congruent_move-requires-clause-least
congruent_move-requires-clause-least c =
    subst (λ (n : ℕ). 1 ≤ n) (sym c.in-Ok.ensures.value.1) (delta_period c.args.lits.now c.args.var (cube_of Int c.args.lits.now c.requires.primitive)).0

pub returns-in-Ok : goal.returns-in-Ok
returns-in-Ok c =
    picked_int c.args.var c.args.lits.now c.args.point.now c.in-Ok.n c.congruent_move.result c.in-Ok.ensures.value.0 c.in-Ok.ensures.value.1 c.congruent_move.ensures

pub returns-in-Err : goal.returns-in-Err
returns-in-Err c = period_past c.args.var c.args.lits.now c.args.point.now c.in-Err.wide c.in-Err.ensures.value
