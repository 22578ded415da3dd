use Rattle.std.proofs.Common.{◌∙◌, sym, ap, arith}
use Rattle.std.proofs.lemmas.Result.{err_from_is_err_and}
use Rattle.strat_words.specs.Many.{times}
use Rattle.strat_words.specs.View.{spot}
use Rattle.strat_text.specs.Proof as spec
use Rattle.strat_words.proofs.Loops.{times_on, times_fails, times_done, state_more}
use Rattle.strat_text.proofs.proof.lines.Goals as goal

pub returns-in_err-item-clause-gives : goal.returns-in_err-item-clause-gives
returns-in_err-item-clause-gives c =
    let p = err_from_is_err_and c.from_residual.result c.from_residual.ensures.1 in
    rw (p.1, p.2) (times_fails (spec.proof_line c.args.version) spec.open_behind c.in_err-item.field-0.0 c.loop.all c.args.count c.loop.counter c.loop.waiting (spot c.loop.rest) (times (spec.proof_line c.args.version) spec.open_behind c.args.count 1 (spot c.args.at)) c.loop-test.true c.in_err-item.ensures c.loop.invariant.so_far)

pub loop-preserved : goal.loop-preserved
loop-preserved c =
    let e = c.in_ok-push.ensures.ok in
    let b = c.open_behind-waiting.ensures.behind in
    record {
      so_far = rw (e, b) (times_on (spec.proof_line c.args.version) spec.open_behind c.loop.all c.args.count c.loop.counter c.loop.waiting (spot c.loop.rest) c.in_ok-item.item (spot c.in_ok-item.after) (times (spec.proof_line c.args.version) spec.open_behind c.args.count 1 (spot c.args.at)) c.loop-test.true c.in_ok-item.ensures c.loop.invariant.so_far);
      state = rw (e, b) (ap (λ k. spec.open_behind k c.in_ok-item.item) c.loop.invariant.state ∙ sym (state_more spec.open_behind 1 c.loop.all c.in_ok-item.item));
      within = omega (arith, c.loop.invariant.within, c.open_behind-waiting.ensures.within);
    }

pub returns-clause-gives : goal.returns-clause-gives
returns-clause-gives c = times_done (spec.proof_line c.args.version) spec.open_behind c.loop.all c.args.count c.loop.counter c.loop.waiting (spot c.loop.rest) (times (spec.proof_line c.args.version) spec.open_behind c.args.count 1 (spot c.args.at)) c.loop-test.false c.loop.invariant.so_far
