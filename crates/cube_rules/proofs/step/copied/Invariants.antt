use Rattle.std.proofs.Common.{◌≡◌, take}
use Rattle.cube_rules.proofs.step.copied.Given as goal

abbrev pub invariant-loop-lit : goal.invariant-loop-lit
invariant-loop-lit l = l.all ≡ take l.lit-index l.lits
