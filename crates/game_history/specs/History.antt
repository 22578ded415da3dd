-- Histories of a game: the entries, and the state to which each leads.
use Rattle.std.specs.Prelude.{ℕ, suc, Bool, true, false, ℤ, Option, Some, None, slice_get, List, [], ◌∷◌, ◌++◌, length}
use Rattle.lin_term.specs.declared.Sort.{Sort}
use Rattle.lin_term.specs.declared.Lit.{Lit}
use Rattle.lin_term.specs.Linear.{Point}
use Rattle.dom_core.specs.declared.Side.{Side}
use Rattle.dom_core.specs.declared.Side.TheVariants.{Exists, Forall}
use Rattle.dom_core.specs.Game.{Problem}
use Rattle.dom_core.specs.Sides.{problem_for}
use Rattle.game_tree.specs.Skeleton.{Skeleton, zero_tree}
use Rattle.game_tree.specs.Union.{union}

-- why a version is not attacked further: a wide cube of its losing system, or a point from which selection stops at a position
pub data Wideness : Type 0 where
  cube : List Lit → ℤ → Wideness
  choice : Point → ℕ → ℤ → Wideness

-- A side, a version, and what the entry carries. The first four name a version of the other side and carry the counter, the
-- last names none and carries a skeleton of the side that was found otherwise.
pub data Entry : Type 0 where
  added : Side → ℕ → Skeleton → ℕ → Entry
  held : Side → ℕ → Skeleton → Entry
  spent : Side → ℕ → Skeleton → Entry
  too_large : Side → ℕ → Skeleton → ℕ → Entry
  noted : Side → ℕ → Wideness → Entry
  won : Side → ℕ → Entry
  found : Side → Skeleton → Entry

-- ---- states

-- a side: its versions, the greatest version of the other side that it is known to beat, and its versions with a note
pub record SideState : Type 0 where
  pub older : List Skeleton
  pub newest : Skeleton
  pub reach : Option ℕ
  pub notes : List ℕ

pub record State : Type 0 where
  pub of_exists : SideState
  pub of_forall : SideState
  pub rounds : ℕ
  pub is_spent : Bool
  pub is_large : Bool
  pub is_over : Bool

abbrev pub of_side : Side → State → SideState
of_side Exists st = st.of_exists
of_side Forall st = st.of_forall

abbrev pub newest_number : SideState → ℕ
newest_number x = length x.older

-- all versions, version 0 first
abbrev pub versions : SideState → List Skeleton
versions x = x.older ++ x.newest ∷ []

abbrev pub version : SideState → ℕ → Option Skeleton
version x v = slice_get (versions x) v

-- ---- replay

-- version 0 is the zero skeleton
abbrev pub first_state : Problem → SideState
first_state P = record { older = []; newest = zero_tree P.prefix; reach = None; notes = [] }

abbrev pub begin : Sort → Problem → State
begin s P = record {
  of_exists = first_state (problem_for s Exists P);
  of_forall = first_state (problem_for s Forall P);
  rounds = 0;
  is_spent = false;
  is_large = false;
  is_over = false;
}

abbrev pub with_side : Side → SideState → State → State
with_side Exists x st = record { of_exists = x; of_forall = st.of_forall; rounds = st.rounds; is_spent = st.is_spent; is_large = st.is_large; is_over = st.is_over }
with_side Forall x st = record { of_exists = st.of_exists; of_forall = x; rounds = st.rounds; is_spent = st.is_spent; is_large = st.is_large; is_over = st.is_over }

abbrev pub change : Side → (SideState → SideState) → State → State
change side f st = with_side side (f (of_side side st)) st

-- the union with the newest version is the new version, and the reach goes to v
abbrev pub add_version : Skeleton → ℕ → SideState → SideState
add_version C v x = record { older = x.older ++ x.newest ∷ []; newest = union x.newest C; reach = Some v; notes = x.notes }

abbrev pub reach_to : ℕ → SideState → SideState
reach_to v x = record { older = x.older; newest = x.newest; reach = Some v; notes = x.notes }

abbrev pub mark : ℕ → SideState → SideState
mark v x = record { older = x.older; newest = x.newest; reach = x.reach; notes = v ∷ x.notes }

abbrev pub one_round : State → State
one_round st = record { of_exists = st.of_exists; of_forall = st.of_forall; rounds = suc st.rounds; is_spent = st.is_spent; is_large = st.is_large; is_over = st.is_over }

abbrev pub spend : State → State
spend st = record { of_exists = st.of_exists; of_forall = st.of_forall; rounds = st.rounds; is_spent = true; is_large = st.is_large; is_over = st.is_over }

abbrev pub outgrow : State → State
outgrow st = record { of_exists = st.of_exists; of_forall = st.of_forall; rounds = st.rounds; is_spent = st.is_spent; is_large = true; is_over = st.is_over }

abbrev pub end_game : State → State
end_game st = record { of_exists = st.of_exists; of_forall = st.of_forall; rounds = st.rounds; is_spent = st.is_spent; is_large = st.is_large; is_over = true }

abbrev pub after : State → Entry → State
after st (added side v C m) = one_round (change side (add_version C v) st)
after st (held side v C) = change side (reach_to v) st
after st (spent side v C) = spend st
after st (too_large side v C n) = outgrow st
after st (noted side v why) = change side (mark v) st
after st (won side v) = end_game st
after st (found side S) = end_game st

abbrev pub replay_from : State → List Entry → State
replay_from st [] = st
replay_from st (e ∷ es) = replay_from (after st e) es

abbrev pub replay : Sort → Problem → List Entry → State
replay s P H = replay_from (begin s P) H
