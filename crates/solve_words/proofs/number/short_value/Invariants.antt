use Rattle.strat_words.proofs.Numbers.{Valued}
use Rattle.solve_words.proofs.number.short_value.Given as goal

abbrev pub invariant-loop-d : goal.invariant-loop-d
invariant-loop-d l = Valued l.word l.d-index l.n
