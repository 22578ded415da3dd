use Rattle.std.proofs.Common.{◌≡◌, ◌-◌, ◌∙◌, sym, length, arith, true}
use Rattle.std.proofs.lemmas.Result.{err_from_is_err_and}
use Rattle.strat_words.specs.Spot.{goes_on, begins_with_space}
use Rattle.strat_words.specs.View.{spot}
use Rattle.strat_text.specs.Line as spec
use Rattle.strat_words.proofs.Loops.{many_on, many_fails, many_done, word_left, length_more}
use Rattle.strat_text.proofs.line.literals.Goals as goal

pub returns-in_err-item : goal.returns-in_err-item
returns-in_err-item c =
    let p = err_from_is_err_and c.from_residual.result c.from_residual.ensures.1 in
    let on : goes_on (spot c.loop-alloc.rest) ≡ true = sym c.goes_on.ensures ∙ c.loop-alloc-test.true in
    rw (p.1, p.2) (many_fails begins_with_space spec.any_literal spec.unchanged c.in_err-item.field-0.0 c.loop-alloc.all (length c.args.at.rest.now) (length c.loop-alloc.all) tt (spot c.loop-alloc.rest) (spec.literals (spot c.args.at))
    (omega (arith, word_left (spot c.loop-alloc.rest) on, c.loop-alloc.invariant.within)) on c.in_err-item.ensures.gives c.loop-alloc.invariant.so_far)

pub loop-alloc-preserved : goal.loop-alloc-preserved
loop-alloc-preserved c =
    let on : goes_on (spot c.loop-alloc.rest) ≡ true = sym c.goes_on.ensures ∙ c.loop-alloc-test.true in
    let e = c.in_ok-push.ensures.ok in
    let n = length_more c.loop-alloc.all c.in_ok-item.item in
    record {
      so_far = rw (e, n) (many_on begins_with_space spec.any_literal spec.unchanged c.loop-alloc.all (length c.args.at.rest.now) (length c.loop-alloc.all) tt (spot c.loop-alloc.rest) c.in_ok-item.item (spot c.in_ok-item.after) (spec.literals (spot c.args.at))
          (omega (arith, word_left (spot c.loop-alloc.rest) on, c.loop-alloc.invariant.within)) on c.in_ok-item.ensures.gives c.loop-alloc.invariant.so_far);
      within = rw (e, n) (omega (arith, c.loop-alloc.invariant.within, c.in_ok-item.ensures.shorter));
    }

pub returns : goal.returns
returns c = many_done begins_with_space spec.any_literal spec.unchanged c.loop-alloc.all (length c.args.at.rest.now - length c.loop-alloc.all) tt (spot c.loop-alloc.rest) (spec.literals (spot c.args.at)) (sym c.goes_on.ensures ∙ c.loop-alloc-test.false) c.loop-alloc.invariant.so_far
