use Rattle.std.proofs.Common.{List, subst}
use Rattle.lin_term.specs.declared.Lit.{Lit}
use Rattle.lin_term.specs.declared.Sort.TheVariants.{Int}
use Rattle.dom_core.specs.Reduced.{AreRows}
use Rattle.dom_core.proofs.Selecting.{Picks, picked_written, picked_kept, picked_without, picked_earlier}
use Rattle.dom_int.proofs.picking.pick.Goals as goal

pub returns-clause-written : goal.returns-clause-written
returns-clause-written c =
    picked_written Int c.args.var c.args.cube.now c.args.point.now c.picked.result c.requires.primitive (subst AreRows c.lits.ensures.value c.lits.ensures.rows) c.requires.covers
    (subst (λ (us : List Lit). Picks Int c.args.var us c.args.point.now c.picked.result) c.lits.ensures.value c.picked.ensures)

pub returns-clause-kept : goal.returns-clause-kept
returns-clause-kept c =
    picked_kept Int c.args.var c.args.cube.now c.args.point.now c.picked.result
    (subst (λ (us : List Lit). Picks Int c.args.var us c.args.point.now c.picked.result) c.lits.ensures.value c.picked.ensures)

pub returns-clause-without : goal.returns-clause-without
returns-clause-without c =
    picked_without Int c.args.var c.args.cube.now c.args.point.now c.picked.result c.requires.primitive (subst AreRows c.lits.ensures.value c.lits.ensures.rows) c.requires.covers
    (subst (λ (us : List Lit). Picks Int c.args.var us c.args.point.now c.picked.result) c.lits.ensures.value c.picked.ensures)

pub returns-clause-earlier : goal.returns-clause-earlier
returns-clause-earlier c =
    picked_earlier Int c.args.var c.args.cube.now c.args.point.now c.picked.result c.requires.primitive (subst AreRows c.lits.ensures.value c.lits.ensures.rows)
    (subst (λ (us : List Lit). Picks Int c.args.var us c.args.point.now c.picked.result) c.lits.ensures.value c.picked.ensures)
