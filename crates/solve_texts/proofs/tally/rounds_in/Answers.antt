use Rattle.std.proofs.Common.{◌+◌, arith, refl}
use Rattle.solve_texts.proofs.Replaying.{rounds_more}
use Rattle.solve_texts.proofs.tally.rounds_in.Goals as goal

pub loop-entry-preserved : goal.loop-entry-preserved
loop-entry-preserved g c =
    let r = c.loop-entry.rounds in
    let k = c.added-rounds.result in
    record {
      count = rounds_more c.args.entries.now c.loop-entry.entry-index r k (r + k) c.entry-item.result c.loop-entry-test.true c.entry-item.is c.loop-entry.invariant.count c.added-rounds.ensures.value refl;
      few = omega (arith, c.loop-entry.invariant.few, c.added-rounds.ensures.small);
    }
