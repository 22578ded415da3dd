use Rattle.std.proofs.Common.{◌+◌, ◌*◌, drop}
use Rattle.dom_core.specs.Game.{AllHold, AllFail}
use Rattle.dom_core.specs.View.{matrix_of, matrices_of}
use Rattle.dom_core.proofs.Negations.{matrix_size, parts_size}
use Rattle.lose_system.proofs.LostLemmas.{all_lost}
use Rattle.lose_system.proofs.solved.+loses.Given as goal

abbrev pub invariant-some_loses-loop-part : goal.invariant-some_loses-loop-part
invariant-some_loses-loop-part l =
    AllFail (all_lost (matrices_of (drop l.part-index l.parts)) l.sort l.names) l.point → AllFail (all_lost (matrices_of l.parts) l.sort l.names) l.point

abbrev pub invariant-all_lose-loop-part : goal.invariant-all_lose-loop-part
invariant-all_lose-loop-part l =
    AllHold (all_lost (matrices_of (drop l.part-index l.parts)) l.sort l.names) l.point → AllHold (all_lost (matrices_of l.parts) l.sort l.names) l.point

abbrev pub decreases-loses : goal.decreases-loses
decreases-loses l = 2 * matrix_size (matrix_of l.matrix.now) + 1

abbrev pub decreases-some_loses : goal.decreases-some_loses
decreases-some_loses l = 2 * parts_size (matrices_of l.parts.now)

abbrev pub decreases-all_lose : goal.decreases-all_lose
decreases-all_lose l = 2 * parts_size (matrices_of l.parts.now)
