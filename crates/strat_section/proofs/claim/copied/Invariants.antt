use Rattle.std.proofs.Common.{◌≡◌, take}
use Rattle.strat_section.proofs.claim.copied.Given as goal

abbrev pub invariant-loop-step : goal.invariant-loop-step
invariant-loop-step l = l.all ≡ take l.step-index l.proof
