use Rattle.std.proofs.Common.{◌≡◌, ◌==◌, map, take}
use Rattle.strat_text.proofs.sections.letters.Given as goal

abbrev pub invariant-loop-b : goal.invariant-loop-b
invariant-loop-b l = l.all ≡ map (λ b. b == 111) (take l.b-index l.word)
