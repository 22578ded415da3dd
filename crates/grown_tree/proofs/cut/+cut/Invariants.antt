use Rattle.std.specs.Prelude.{ℕ, List, true, ◌≤◌}
use Rattle.std.specs.List.{list_all}
use Rattle.std.proofs.Common.{◌≡◌, ◌+◌, ◌*◌, take, drop, length}
use Rattle.dom_core.specs.declared.Quant.{Quant}
use Rattle.grown_tree.specs.Shown.{is_sound, all_shown}
use Rattle.grown_tree.proofs.Cutting.{node_weight, all_weight}
use Rattle.grown_tree.proofs.cut.+cut.Given as goal

abbrev pub invariant-cut_all-loop-i : goal.invariant-cut_all-loop-i
invariant-cut_all-loop-i l =
    (length l.below ≡ length l.fn.below)
    × (drop l.i l.below ≡ drop l.i l.fn.below)
    × ((n : ℕ) → list_all (is_sound n) l.fn.below ≡ true → list_all (is_sound l.last) (take l.i l.below) ≡ true)
    × ((n v : ℕ) (qs : List Quant) → list_all (is_sound n) l.fn.below ≡ true → v ≤ l.last → all_shown v (take l.i l.below) qs ≡ all_shown v (take l.i l.fn.below) qs)

abbrev pub decreases-cut : goal.decreases-cut
decreases-cut l = 2 * node_weight l.node

abbrev pub decreases-cut_all : goal.decreases-cut_all
decreases-cut_all l = 2 * all_weight l.below + 1
