use Rattle.std.proofs.Common.{◌≡◌, ◌-◌, ◌+◌, length, get_or}
use Rattle.prenex_form.specs.Pass.{bump}
use Rattle.prenex_form.proofs.tally.bump.Given as goal

abbrev pub invariant-loop-counts : goal.invariant-loop-counts
invariant-loop-counts l = record {
  same : get_or l.counts l.at 0 ≡ get_or l.initial.counts l.at 0;
  bumped : bump l.counts l.at ≡ bump l.initial.counts l.at;
}

abbrev pub decreases-loop-counts : goal.decreases-loop-counts
decreases-loop-counts l = (l.at + 1) - length l.counts
