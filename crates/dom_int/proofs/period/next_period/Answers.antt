use Rattle.std.proofs.Common.{arith, ◌/◌}
use Rattle.dom_core.proofs.Periods.{gcd_pos}
use Rattle.dom_int.proofs.period.next_period.Goals as goal

pub nonzero_div-m : goal.nonzero_div-m
nonzero_div-m c = let h = gcd_pos c.args.d c.unsigned_abs.result c.requires.d_least in omega (arith, c.gcd_of_words.ensures)

pub nonzero_div-more : goal.nonzero_div-more
nonzero_div-more c = let h = gcd_pos c.args.n (c.args.d / c.gcd_of_words.result) c.requires.n_least in omega (arith, c.gcd_of_words-2.ensures)
