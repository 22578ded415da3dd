use Rattle.lose_system.specs.Written.{system_of}
use Rattle.game_history.specs.Legal.{IsOfSystem}
use Rattle.game_history.proofs.OfSystem.{refuted, get_item, all_of_more, one_fails, all_hold}
use Rattle.game_history.proofs.membership.are_of_system.Goals as goal

pub returns-then-not-one : goal.returns-then-not-one
returns-then-not-one g c =
    let P = IsOfSystem (system_of g.D.Domain.SORT c.args.system.now) in
    one_fails P c.args.lits.now c.loop-lit.lit-index c.lit-item.result (get_item c.args.lits.now c.loop-lit.lit-index c.lit-item.result c.loop-lit-test.true c.lit-item.is)
    (refuted c.in_ok-one.one (P c.lit-item.result) c.in_ok-one.ensures c.if-not-one.true)

pub loop-lit-preserved : goal.loop-lit-preserved
loop-lit-preserved g c =
    let P = IsOfSystem (system_of g.D.Domain.SORT c.args.system.now) in
    all_of_more P c.args.lits.now c.loop-lit.lit-index c.lit-item.result c.loop-lit.invariant (get_item c.args.lits.now c.loop-lit.lit-index c.lit-item.result c.loop-lit-test.true c.lit-item.is) (c.in_ok-one.ensures.0 c.if-not-one.false)

pub returns : goal.returns
returns g c = all_hold (IsOfSystem (system_of g.D.Domain.SORT c.args.system.now)) c.args.lits.now c.loop-lit.lit-index c.loop-lit-test.false c.loop-lit.invariant
