-- What is left to do in a state.
use Rattle.std.specs.Prelude.{◌≡◌, ◌⊎◌, false, List}
use Rattle.lin_term.specs.declared.Sort.{Sort}
use Rattle.dom_core.specs.declared.Side.{Side}
use Rattle.dom_core.specs.declared.Side.TheVariants.{Exists, Forall}
use Rattle.dom_core.specs.Game.{Problem}
use Rattle.dom_core.specs.Sides.{other}
use Rattle.game_tree.specs.Among.{IsAmong}
use Rattle.game_history.specs.History.{Wideness, Entry, noted, State, of_side, newest_number, replay}
use Rattle.game_history.specs.Legal.{IsAbove}

-- the newest version is above what the other side is known to beat
abbrev pub IsUnbeaten : Side → State → Type 0
IsUnbeaten side st = IsAbove (newest_number (of_side side st)) (of_side (other side) st).reach

-- the newest version carries a note
abbrev pub IsNewestNoted : Side → State → Type 0
IsNewestNoted side st = IsAmong (newest_number (of_side side st)) (of_side side st).notes

-- no verdict stands, and the other side's newest version is unbeaten and carries no note
pub record HasWork (side : Side) (st : State) : Type 0 where
  pub open_game : st.is_over ≡ false
  pub unbeaten : IsUnbeaten (other side) st
  pub unnoted : ¬ IsNewestNoted (other side) st

abbrev pub SomeHasWork : State → Type 0
SomeHasWork st = HasWork Exists st ⊎ HasWork Forall st

-- the newest version of the side has this note
abbrev pub HasNote : Sort → Problem → List Entry → Side → Wideness → Type 0
HasNote s P H side why = IsAmong (noted side (newest_number (of_side side (replay s P H))) why) H

pub record IsNoted (s : Sort) (P : Problem) (H : List Entry) (side : Side) : Type 0 where
  pub why : Wideness
  pub note : HasNote s P H side why

-- a side whose newest version is unbeaten and has a note; Forall only where that of Exists is beaten
pub record IsBlocked (s : Sort) (P : Problem) (H : List Entry) : Type 0 where
  pub side : Side
  pub unbeaten : IsUnbeaten side (replay s P H)
  pub noted : IsNoted s P H side
  pub exists_first : side ≡ Forall → ¬ IsUnbeaten Exists (replay s P H)
