use Rattle.std.proofs.Common.{◌∙◌}
use Rattle.dom_core.specs.View.{matrix_of}
use Rattle.term_select.proofs.Repeats.{gathered_once}
use Rattle.term_select.proofs.implicant.implicant.Goals as goal

pub returns : goal.returns
returns c =
    c.from_lits.ensures
    ∙ gathered_once (matrix_of c.args.matrix.now) c.args.point.now c.in_ok-gather.field-0 c.new-found.result c.gather.new.out c.new.result c.in_ok-lits.lits c.in_ok-gather.ensures.truth c.requires.holds c.new-found.ensures c.in_ok-gather.ensures.found c.new.ensures c.in_ok-lits.ensures
