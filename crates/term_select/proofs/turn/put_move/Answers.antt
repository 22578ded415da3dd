use Rattle.std.specs.Prelude.{length}
use Rattle.term_select.proofs.Turning.{below_longer}
use Rattle.term_select.proofs.turn.put_move.Goals as goal

pub put_in-requires-clause-covers : goal.put_in-requires-clause-covers
put_in-requires-clause-covers g c = below_longer c.args.var (length c.args.here.now.nums) c.args.term.now.numer c.requires.long c.requires.earlier
