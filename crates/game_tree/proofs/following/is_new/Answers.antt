use Rattle.std.specs.Prelude.{◌≡◌}
use Rattle.game_tree.proofs.Followed.{refuted, not_new, new_more}
use Rattle.game_tree.proofs.following.is_new.Goals as goal

pub returns-then-is_same : goal.returns-then-is_same
returns-then-is_same c =
    not_new c.args.term.now c.args.others.now c.loop-other.other-index c.other-item.result c.loop-other-test.true c.other-item.is (c.is_same.ensures.equal.0 c.if-is_same.true)

pub loop-other-preserved : goal.loop-other-preserved
loop-other-preserved c =
    new_more c.args.term.now c.args.others.now c.loop-other.other-index c.other-item.result c.loop-other-test.true c.other-item.is
    (refuted c.is_same.result (c.args.term.now ≡ c.other-item.result.term) c.is_same.ensures.equal c.if-is_same.false) c.loop-other.invariant
