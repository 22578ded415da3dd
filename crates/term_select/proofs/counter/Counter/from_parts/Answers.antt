use Rattle.term_select.proofs.Counters.{is_counter}
use Rattle.term_select.proofs.counter.Counter.from_parts.Goals as goal

pub invariant_of-result : goal.invariant_of-result
invariant_of-result g c =
    is_counter g.D.Domain.SORT c.args.side c.args.problem c.args.against c.args.paths c.matrix-problem.ensures.kept c.tree-paths.ensures.kept c.tree-against.ensures.kept
    c.requires.own c.requires.other c.requires.few c.requires.selected
