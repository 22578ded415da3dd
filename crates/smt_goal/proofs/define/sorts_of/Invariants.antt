use Rattle.std.proofs.Common.{◌≡◌, map, take}
use Rattle.smt_term.specs.declared.Binding.{Binding}
use Rattle.smt_goal.proofs.define.sorts_of.Given as goal

abbrev pub invariant-loop-param : goal.invariant-loop-param
invariant-loop-param l = l.sorts.items ≡ map (λ (p : Binding). p.sort) (take l.param-index l.params)
