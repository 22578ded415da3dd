use Rattle.std.proofs.Common.{length}
use Rattle.term_table.specs.Meaning.{meanings}
use Rattle.smt_term.proofs.MakingLemmas.{no_seen, AreIn-at}
use Rattle.smt_term.proofs.CallLemmas.{worths-more, worths-all}
use Rattle.smt_term.proofs.calls.worths_of.Goals as goal

pub worth-requires : goal.worth-requires
worth-requires c = AreIn-at (length c.args.table.now) c.args.args.now c.loop-arg.arg-index no_seen c.requires c.loop-arg-test.true

pub loop-arg-preserved : goal.loop-arg-preserved
loop-arg-preserved c =
    worths-more (meanings c.args.table.now) c.args.args.now c.loop-arg.arg-index c.loop-arg.worths.items c.push.new.self.items c.worth.result c.loop-arg-test.true c.loop-arg.invariant
    c.in_ok-push.ensures.items c.worth.ensures

pub returns : goal.returns
returns c = worths-all (meanings c.args.table.now) c.args.args.now c.loop-arg.arg-index c.loop-arg.worths.items c.loop-arg-test.false c.loop-arg.invariant
