use Rattle.std.specs.Prelude.{List}
use Rattle.std.specs.List.{AllByRecursion}
use Rattle.std.proofs.Common.{◌≡◌, true, sym, subst, get_or}
use Rattle.std.proofs.lemmas.List.{get_or_default}
use Rattle.lin_term.specs.declared.Lit.{Lit}
use Rattle.dom_core.specs.Elimination.{is_lower, is_upper}
use Rattle.cube_elim.proofs.Adding.{rows_more, rows_refused}
use Rattle.cube_elim.proofs.Storing.{kept_both, longer_at, lits_longer}
use Rattle.cube_elim.proofs.sums.add_rows.Goals as goal

pub add_row-requires-clause-lower : goal.add_row-requires-clause-lower
add_row-requires-clause-lower c =
    let i = c.loop-lower.invariant in
    longer_at (λ l. is_lower c.args.var l ≡ true) c.args.store.now.lits c.loop-lower.store.lits c.args.lowers.now c.loop-lower.lower-index i.sums.longer c.requires.lower_in c.loop-lower-test.true c.requires.lower

pub add_row-requires-clause-upper : goal.add_row-requires-clause-upper
add_row-requires-clause-upper c =
    let i = c.loop-lower.invariant in
    subst (λ (us : List Lit). AllByRecursion (λ l. is_upper c.args.var l ≡ true) us) (sym (lits_longer c.args.store.now.lits c.loop-lower.store.lits c.args.uppers.now i.sums.longer c.requires.upper_in)) c.requires.upper

pub returns-in-Err-clause-adds : goal.returns-in-Err-clause-adds
returns-in-Err-clause-adds c =
    let i = c.loop-lower.invariant in
    let k = c.loop-lower.lower-index in
    let ls = c.args.lowers.now in
    rows_refused c.args.var c.args.store.now.lits c.loop-lower.store.lits c.add_row.new.store.lits c.add_row.new.store.lits (get_or ls k 0) ls c.args.uppers.now k c.in-Err.fault c.requires.lower_in c.requires.upper_in c.loop-lower-test.true (get_or_default ls k 0 (get_or ls k 0) c.loop-lower-test.true) c.in-Err.ensures.adds i.sums

pub loop-lower-preserved : goal.loop-lower-preserved
loop-lower-preserved c =
    let i = c.loop-lower.invariant in
    let k = c.loop-lower.lower-index in
    let ls = c.args.lowers.now in
    record {
      sums = rows_more c.args.var c.args.store.now.lits c.loop-lower.store.lits c.add_row.new.store.lits (get_or ls k 0) ls c.args.uppers.now k c.requires.lower_in c.requires.upper_in c.loop-lower-test.true (get_or_default ls k 0 (get_or ls k 0) c.loop-lower-test.true) c.in-Ok.ensures.adds i.sums;
      kept = kept_both c.args.store.now c.loop-lower.store c.add_row.new.store i.kept c.in-Ok.ensures.kept;
    }
