use Rattle.std.proofs.Common.{◌≡◌, drop}
use Rattle.lin_truth.specs.Formed.{append_all}
use Rattle.norm_form.proofs.count.extended.Given as goal

abbrev pub invariant-loop-sort : goal.invariant-loop-sort
invariant-loop-sort l = append_all l.all (drop l.sort-index l.sorts) ≡ append_all l.scope l.sorts
