use Rattle.std.proofs.Common.{◌≡◌, ◌-◌, ◌∙◌, sym, length, arith, true}
use Rattle.std.proofs.lemmas.Result.{err_from_is_err_and}
use Rattle.strat_words.specs.Spot.{number_follows, number_behind_space}
use Rattle.strat_words.specs.View.{spot}
use Rattle.strat_words.proofs.Loops.{many_on, many_fails, many_done, some_left, length_more}
use Rattle.strat_text.specs.Line as spec
use Rattle.strat_text.proofs.Lines.{read_terms}
use Rattle.strat_text.proofs.form.terms.Goals as goal

pub returns-in_err-item-clause-gives : goal.returns-in_err-item-clause-gives
returns-in_err-item-clause-gives c =
    let p = err_from_is_err_and c.from_residual.result c.from_residual.ensures.1 in
    let on : number_follows (spot c.loop-rest.rest) ≡ true = sym c.number_follows.ensures ∙ c.loop-rest-test.true in
    rw (p.1, p.2) (many_fails number_behind_space (spec.term c.args.limit) spec.low_behind c.in_err-item.field-0.0 c.loop-rest.all.items (length c.args.at.rest.now) (length c.loop-rest.all.items) c.loop-rest.low (spot c.loop-rest.rest) (spec.terms c.args.limit (spot c.args.at))
    (omega (arith, some_left (spot c.loop-rest.rest) on, c.loop-rest.invariant.within)) on c.in_err-item.ensures.gives c.loop-rest.invariant.so_far)

pub loop-rest-preserved : goal.loop-rest-preserved
loop-rest-preserved c =
    let on : number_follows (spot c.loop-rest.rest) ≡ true = sym c.number_follows.ensures ∙ c.loop-rest-test.true in
    let e = c.in_ok-push.ensures.ok in
    let n = length_more c.loop-rest.all.items c.in_ok-item.item in
    record {
      so_far = rw (e, n) (many_on number_behind_space (spec.term c.args.limit) spec.low_behind c.loop-rest.all.items (length c.args.at.rest.now) (length c.loop-rest.all.items) c.loop-rest.low (spot c.loop-rest.rest) c.in_ok-item.item (spot c.in_ok-item.after) (spec.terms c.args.limit (spot c.args.at))
          (omega (arith, some_left (spot c.loop-rest.rest) on, c.loop-rest.invariant.within)) on c.in_ok-item.ensures.gives c.loop-rest.invariant.so_far);
      within = rw (e, n) (omega (arith, c.loop-rest.invariant.within, c.in_ok-item.ensures.shorter));
    }

pub returns-clause-gives : goal.returns-clause-gives
returns-clause-gives c = many_done number_behind_space (spec.term c.args.limit) spec.low_behind c.loop-rest.all.items (length c.args.at.rest.now - length c.loop-rest.all.items) c.loop-rest.low (spot c.loop-rest.rest) (spec.terms c.args.limit (spot c.args.at)) (sym c.number_follows.ensures ∙ c.loop-rest-test.false) c.loop-rest.invariant.so_far

pub returns-clause-terms : goal.returns-clause-terms
returns-clause-terms c = read_terms c.args.limit (spot c.args.at) (c.loop-rest.all.items, spot c.loop-rest.rest) c.requires (returns-clause-gives c)
