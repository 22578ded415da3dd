use Rattle.std.proofs.Common.{◌≡◌, ◌+◌, ◌*◌, ◌≤◌, drop}
use Rattle.std.specs.Prelude.{min, max}
use Rattle.lin_truth.specs.declared.Term.{size-Term}
use Rattle.lin_truth.specs.View.{trees_of}
use Rattle.norm_form.specs.Load.{loads, sum_load, list_load, limit}
use Rattle.norm_form.proofs.count.+count.Given as goal

abbrev pub invariant-joined-loop-part : goal.invariant-joined-loop-part
invariant-joined-loop-part l =
    (min limit (l.sum + sum_load (loads (trees_of (drop l.part-index l.parts)) l.rate l.scope)) ≡ min limit (l.initial.sum + sum_load (loads (trees_of l.parts) l.rate l.scope))) × (l.sum ≤ limit)

abbrev pub invariant-listed-loop-part : goal.invariant-listed-loop-part
invariant-listed-loop-part l =
    (min limit (l.all.own + l.all.leaves * (list_load (trees_of (drop l.part-index l.parts)) l.rate l.scope).own) ≡ min limit (list_load (trees_of l.parts) l.rate l.scope).own)
    × (min limit (l.all.leaves * (list_load (trees_of (drop l.part-index l.parts)) l.rate l.scope).leaves) ≡ min limit (list_load (trees_of l.parts) l.rate l.scope).leaves)
    × (l.all.own ≤ limit) × (l.all.leaves ≤ limit)

abbrev pub decreases-formula_count : goal.decreases-formula_count
decreases-formula_count l = 2 * goal.size-formula_count l

abbrev pub decreases-number_count : goal.decreases-number_count
decreases-number_count l = 2 * goal.size-number_count l

abbrev pub decreases-joined : goal.decreases-joined
decreases-joined l = 2 * goal.size-joined l + 1

abbrev pub decreases-listed : goal.decreases-listed
decreases-listed l = 2 * goal.size-listed l + 1

abbrev pub decreases-quantified : goal.decreases-quantified
decreases-quantified l = 2 * goal.size-quantified l + 1

abbrev pub decreases-compared : goal.decreases-compared
decreases-compared l = 2 * max (size-Term l.a.now) (size-Term l.b.now) + 1

abbrev pub decreases-twice : goal.decreases-twice
decreases-twice l = 2 * max (size-Term l.a.now) (size-Term l.b.now) + 1
