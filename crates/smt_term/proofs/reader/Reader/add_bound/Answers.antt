use Rattle.std.proofs.Common.{List, sym, ap, ◌∙◌}
use Rattle.std.proofs.Math.ListN.{drop_of_length-le}
use Rattle.smt_term.specs.declared.bindings.Bound.{Bound}
use Rattle.smt_term.proofs.OpenLemmas.{pushed, bound-opens}
use Rattle.smt_term.proofs.reader.Reader.add_bound.Goals as goal

pub returns-clause-opens : goal.returns-clause-opens
returns-clause-opens c =
    let on = c.loop-b.invariant in
    bound-opens c.args.self.now c.loop-b.self c.args.bound.now c.requires.fits c.requires.bound
    (ap (λ (bs : List Bound). pushed c.loop-b.self.names bs) (sym (drop_of_length-le c.args.bound.now c.loop-b-test.false)) ∙ on.names) on.table on.logic on.signatures on.around
