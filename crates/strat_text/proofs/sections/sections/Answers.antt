use Rattle.std.proofs.Common.{◌<◌, ◌^◌}
use Rattle.std.proofs.lemmas.Result.{err_from_is_err_and}
use Rattle.strat_words.specs.Many.{times}
use Rattle.strat_words.specs.View.{spot}
use Rattle.strat_text.specs.File as spec
use Rattle.strat_text.specs.Spelling.{line_of}
use Rattle.strat_text.proofs.Trees.{all_push}
use Rattle.strat_text.proofs.Files.{lines_of_version}
use Rattle.strat_words.proofs.Loops.{times_on, times_fails, times_done}
use Rattle.strat_text.proofs.sections.sections.Goals as goal

pub returns-in_err-item-clause-gives : goal.returns-in_err-item-clause-gives
returns-in_err-item-clause-gives c =
    let p = err_from_is_err_and c.from_residual.result c.from_residual.ensures.1 in
    rw (p.1, p.2) (times_fails (spec.section c.args.version) spec.next_number c.in_err-item.field-0.0 c.loop-number.all c.args.count c.loop-number.number c.loop-number.number (spot c.loop-number.rest) (times (spec.section c.args.version) spec.next_number c.args.count 0 (spot c.args.at)) c.loop-number-test.true c.in_err-item.ensures.gives c.loop-number.invariant.so_far)

pub loop-number-preserved : goal.loop-number-preserved
loop-number-preserved c =
    let e = c.in_ok-push.ensures.ok in
    record {
      so_far = rw e (times_on (spec.section c.args.version) spec.next_number c.loop-number.all c.args.count c.loop-number.number c.loop-number.number (spot c.loop-number.rest) c.in_ok-item.item (spot c.in_ok-item.after) (times (spec.section c.args.version) spec.next_number c.args.count 0 (spot c.args.at)) c.loop-number-test.true c.in_ok-item.ensures.gives c.loop-number.invariant.so_far);
      lines = rw e (all_push (λ y. line_of y < 2 ^ 63) c.loop-number.all c.in_ok-item.item c.loop-number.invariant.lines c.in_ok-item.ensures.line);
    }

pub returns-clause-gives : goal.returns-clause-gives
returns-clause-gives c = times_done (spec.section c.args.version) spec.next_number c.loop-number.all c.args.count c.loop-number.number c.loop-number.number (spot c.loop-number.rest) (times (spec.section c.args.version) spec.next_number c.args.count 0 (spot c.args.at)) c.loop-number-test.false c.loop-number.invariant.so_far

pub returns-clause-versioned : goal.returns-clause-versioned
returns-clause-versioned c = lines_of_version c.args.version c.args.count 0 (spot c.args.at) (c.loop-number.all, spot c.loop-number.rest) (returns-clause-gives c)
