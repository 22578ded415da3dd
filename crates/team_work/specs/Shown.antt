-- What a note of a legal history shows.
use Rattle.std.specs.Prelude.{ℕ, ◌≡◌, Some, List}
use Rattle.lin_term.specs.declared.Sort.{Sort}
use Rattle.dom_core.specs.declared.Side.{Side}
use Rattle.dom_core.specs.Game.{Problem}
use Rattle.dom_core.specs.Sides.{other, problem_for}
use Rattle.game_tree.specs.Skeleton.{Skeleton}
use Rattle.game_tree.specs.Among.{EachIs}
use Rattle.lose_system.specs.Losing.{System, system, Solves}
use Rattle.cube_elim.specs.Determined.{WideAt}
use Rattle.clause_search.specs.Branches.{EachStops}
use Rattle.term_select.specs.Guided.{guided, first_wide}
use Rattle.game_history.specs.History.{Wideness, cube, choice, Entry, of_side, replay}
use Rattle.game_history.specs.Legal.{IsOfSystem, OfVersion}

abbrev pub system_for : Sort → Problem → Side → Skeleton → System
system_for s P side S = system s (problem_for s side P) S

-- Of a side's skeleton S: a wide cube of its losing system, of which no branch is solved within the cap; or a solution from
-- which the other side's selection stops, at this position and with this number.
abbrev pub ShownFor : Sort → Problem → Side → Wideness → Skeleton → Type 0
ShownFor s P side (cube c z) S = EachIs (IsOfSystem (system_for s P side S)) c × WideAt s c z × EachStops s (system_for s P side S)
ShownFor s P side (choice p x z) S =
    Solves s (system_for s P side S) p × (first_wide (guided s (problem_for s (other side) P) S p).numbers ≡ Some (x, z))

-- the note on the side's version v
abbrev pub Shown : Sort → Problem → List Entry → Side → ℕ → Wideness → Type 0
Shown s P H side v why = OfVersion (of_side side (replay s P H)) v (ShownFor s P side why)
