use Rattle.std.proofs.Common.{◌≡◌, ◌+◌, drop}
use Rattle.norm_form.specs.Walk.{all_bound}
use Rattle.norm_form.proofs.scope.with_bound.Given as goal

abbrev pub invariant-loop-sort : goal.invariant-loop-sort
invariant-loop-sort l = (l.next ≡ l.level + l.sort-index) × (all_bound l.all (drop l.sort-index l.sorts) l.next ≡ all_bound l.ctx l.sorts l.level)
