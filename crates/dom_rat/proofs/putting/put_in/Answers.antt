use Rattle.std.proofs.Common.{List, subst}
use Rattle.lin_term.specs.declared.Lit.{Lit}
use Rattle.lin_term.specs.declared.Sort.TheVariants.{Rat}
use Rattle.lin_term.specs.Move.{IsMove}
use Rattle.dom_core.specs.Reduced.{AreRows}
use Rattle.dom_core.proofs.Selecting.{Puts, answer_put, answer_last, move_read}
use Rattle.dom_rat.proofs.putting.put_in.Goals as goal

pub returns-clause-reduced : goal.returns-clause-reduced
returns-clause-reduced c =
    let m = move_read c.args.term.now c.row-row.result.now c.coefs-terms.result.now c.constant_part-constant.result c.div-div.result c.row-row.ensures c.coefs-terms.ensures.terms c.coefs-terms.ensures.kept c.constant_part-constant.ensures.value c.constant_part-constant.ensures.kept c.div-div.ensures.value c.div-div.ensures.least c.div-div.ensures.greatest in
    answer_put Rat c.args.var c.args.term.now c.args.point.now c.args.cube.now c.put.result m c.requires.primitive (subst AreRows c.lits.ensures.value c.lits.ensures.rows) c.requires.without
    (subst (λ (us : List Lit). Puts Rat c.args.var c.args.term.now c.args.point.now us c.put.result) c.lits.ensures.value c.put.ensures)

pub returns-clause-last : goal.returns-clause-last
returns-clause-last c =
    let m = move_read c.args.term.now c.row-row.result.now c.coefs-terms.result.now c.constant_part-constant.result c.div-div.result c.row-row.ensures c.coefs-terms.ensures.terms c.coefs-terms.ensures.kept c.constant_part-constant.ensures.value c.constant_part-constant.ensures.kept c.div-div.ensures.value c.div-div.ensures.least c.div-div.ensures.greatest in
    answer_last Rat c.args.var c.args.term.now c.args.point.now c.args.cube.now c.put.result m c.requires.primitive (subst AreRows c.lits.ensures.value c.lits.ensures.rows) c.requires.without
    (subst (λ (us : List Lit). Puts Rat c.args.var c.args.term.now c.args.point.now us c.put.result) c.lits.ensures.value c.put.ensures)
