use Rattle.std.specs.Prelude.{pos}
use Rattle.game_tree.proofs.Followed.{not_below}
use Rattle.game_tree.proofs.following.is_below.Goals as goal

pub returns-then-term-k : goal.returns-then-term-k
returns-then-term-k c = not_below c.args.k c.args.coefs.now c.loop-term.term-index (0, pos 0) c.loop-term-test.true c.if-term-k.true
