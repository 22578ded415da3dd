use Rattle.std.proofs.Common.{◌≡◌, true, sym, get_or}
use Rattle.std.proofs.lemmas.List.{get_or_default}
use Rattle.lin_term.specs.declared.Lit.{Lit}
use Rattle.dom_core.specs.Elimination.{is_upper}
use Rattle.cube_elim.proofs.Adding.{row_more, row_refused}
use Rattle.cube_elim.proofs.Storing.{kept_both, longer_at}
use Rattle.cube_elim.proofs.sums.add_row.Goals as goal

pub add_sum-requires-clause-above : goal.add_sum-requires-clause-above
add_sum-requires-clause-above c =
    let i = c.loop-upper.invariant in
    longer_at (λ l. is_upper c.args.var l ≡ true) c.args.store.now.lits c.loop-upper.store.lits c.args.uppers.now c.loop-upper.upper-index i.sums.longer c.requires.upper_in c.loop-upper-test.true c.requires.upper

pub returns-in-Err-clause-adds : goal.returns-in-Err-clause-adds
returns-in-Err-clause-adds c =
    let i = c.loop-upper.invariant in
    let k = c.loop-upper.upper-index in
    let us = c.args.uppers.now in
    row_refused c.args.var c.args.store.now.lits c.loop-upper.store.lits c.add_sum.new.store.lits c.add_sum.new.store.lits c.args.lower (get_or us k 0) us k c.in-Err.fault c.requires.lower_in c.requires.upper_in c.loop-upper-test.true (get_or_default us k 0 (get_or us k 0) c.loop-upper-test.true) c.in-Err.ensures.adds i.sums

pub loop-upper-preserved : goal.loop-upper-preserved
loop-upper-preserved c =
    let i = c.loop-upper.invariant in
    let k = c.loop-upper.upper-index in
    let us = c.args.uppers.now in
    record {
      sums = row_more c.args.var c.args.store.now.lits c.loop-upper.store.lits c.add_sum.new.store.lits c.args.lower (get_or us k 0) us k c.requires.lower_in c.requires.upper_in c.loop-upper-test.true (get_or_default us k 0 (get_or us k 0) c.loop-upper-test.true) c.in-Ok.ensures.adds i.sums;
      kept = kept_both c.args.store.now c.loop-upper.store c.add_sum.new.store i.kept c.in-Ok.ensures.kept;
    }
