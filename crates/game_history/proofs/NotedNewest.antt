-- Where neither side has work and no verdict stands, a newest version is unbeaten and has a note, Exists before Forall.
use Rattle.std.specs.Prelude.{ℕ, ◌<◌, ◌≡◌, ◌≢◌, ◌⊎◌, Bool, true, false, ltb, eqb, Option, Some, None, List, [], ◌∷◌, length}
use Rattle.std.proofs.Common.{arith, ap, refl, inl, inr, eqb-true, ltb-true, ltb-false}
use Rattle.std.proofs.lemmas.Bool.{eqb-false}
use Rattle.lin_term.specs.declared.Sort.{Sort}
use Rattle.dom_core.specs.declared.Side.{Side}
use Rattle.dom_core.specs.declared.Side.TheVariants.{Exists, Forall}
use Rattle.dom_core.specs.Game.{Problem, IsMatrix}
use Rattle.game_tree.specs.Among.{IsAmong}
use Rattle.game_history.specs.History.{Wideness, Entry, added, held, spent, too_large, noted, won, found, State, begin, of_side, after, replay, replay_from, newest_number}
use Rattle.game_history.specs.Legal.{IsAbove, Legal}
use Rattle.game_history.specs.Work.{IsUnbeaten}
use Rattle.game_history.specs.Work.{SomeHasWork, IsNoted, IsBlocked}
use Rattle.game_history.proofs.Blocked.{not_both_beaten}

-- ---- notes are numbers, so it is decided

pub among_or_not : (n : ℕ) (ns : List ℕ) → IsAmong n ns ⊎ ¬ IsAmong n ns
among_or_not n [] = inr (λ h. absurd h)
among_or_not n (m ∷ ns) = by (eqb n m) refl (among_or_not n ns)
  where
    neither : n ≢ m → ¬ IsAmong n ns → (n ≡ m) ⊎ IsAmong n ns → ⊥
    neither d k (inl e) = d e
    neither d k (inr i) = k i

    later : n ≢ m → IsAmong n ns ⊎ ¬ IsAmong n ns → IsAmong n (m ∷ ns) ⊎ ¬ IsAmong n (m ∷ ns)
    later d (inl i) = inl (inr i)
    later d (inr k) = inr (λ h. neither d k h)

    by : (b : Bool) → eqb n m ≡ b → IsAmong n ns ⊎ ¬ IsAmong n ns → IsAmong n (m ∷ ns) ⊎ ¬ IsAmong n (m ∷ ns)
    by true e k = inl (inl (eqb-true n m e))
    by false e k = later (eqb-false n m e) k

pub above_or_not : (v : ℕ) (reach : Option ℕ) → IsAbove v reach ⊎ ¬ IsAbove v reach
above_or_not v None = inl tt
above_or_not v (Some r) = by (ltb r v) refl
  where
    by : (b : Bool) → ltb r v ≡ b → (r < v) ⊎ ¬ (r < v)
    by true e = inl (ltb-true r v e)
    by false e = inr (λ h. let l = ltb-false r v e in absurd (omega arith))

-- ---- a note in the state is an entry

-- the entry that gave the note
record HasEntry (side : Side) (v : ℕ) (H : List Entry) : Type 0 where
  why : Wideness
  entry : IsAmong (noted side v why) H

abbrev Later : Side → ℕ → State → List Entry → Type 0
Later side v st H = IsAmong v (of_side side st).notes ⊎ HasEntry side v H

one_later : (side : Side) (v : ℕ) (st : State) (e : Entry) (H : List Entry) → IsAmong v (of_side side st).notes ⊎ HasEntry side v H → Later side v st (e ∷ H)
one_later side v st e H (inl i) = inl i
one_later side v st e H (inr h) = inr (record { why = h.why; entry = inr h.entry })

marked : (side : Side) (v w : ℕ) (why : Wideness) (st : State) (H : List Entry) → ((v ≡ w) ⊎ IsAmong v (of_side side st).notes) ⊎ HasEntry side v H → Later side v st (noted side w why ∷ H)
marked side v w why st H (inl (inl e)) = inr (record { why = why; entry = inl (ap (λ (j : ℕ). noted side j why) e) })
marked side v w why st H (inl (inr i)) = inl i
marked side v w why st H (inr h) = inr (record { why = h.why; entry = inr h.entry })

before : (side : Side) (v : ℕ) (st : State) (e : Entry) (H : List Entry) → Later side v (after st e) H → Later side v st (e ∷ H)
before Exists v st (added Exists w C m) H k = one_later Exists v st (added Exists w C m) H k
before Exists v st (added Forall w C m) H k = one_later Exists v st (added Forall w C m) H k
before Forall v st (added Exists w C m) H k = one_later Forall v st (added Exists w C m) H k
before Forall v st (added Forall w C m) H k = one_later Forall v st (added Forall w C m) H k
before Exists v st (held Exists w C) H k = one_later Exists v st (held Exists w C) H k
before Exists v st (held Forall w C) H k = one_later Exists v st (held Forall w C) H k
before Forall v st (held Exists w C) H k = one_later Forall v st (held Exists w C) H k
before Forall v st (held Forall w C) H k = one_later Forall v st (held Forall w C) H k
before Exists v st (spent x w C) H k = one_later Exists v st (spent x w C) H k
before Forall v st (spent x w C) H k = one_later Forall v st (spent x w C) H k
before Exists v st (too_large x w C n) H k = one_later Exists v st (too_large x w C n) H k
before Forall v st (too_large x w C n) H k = one_later Forall v st (too_large x w C n) H k
before Exists v st (noted Exists w why) H k = marked Exists v w why st H k
before Exists v st (noted Forall w why) H k = one_later Exists v st (noted Forall w why) H k
before Forall v st (noted Exists w why) H k = one_later Forall v st (noted Exists w why) H k
before Forall v st (noted Forall w why) H k = marked Forall v w why st H k
before Exists v st (won x w) H k = one_later Exists v st (won x w) H k
before Forall v st (won x w) H k = one_later Forall v st (won x w) H k
before Exists v st (found x S) H k = one_later Exists v st (found x S) H k
before Forall v st (found x S) H k = one_later Forall v st (found x S) H k

note_later : (side : Side) (v : ℕ) (st : State) (H : List Entry) → IsAmong v (of_side side (replay_from st H)).notes → Later side v st H
note_later side v st [] h = inl h
note_later side v st (e ∷ es) h = before side v st e es (note_later side v (after st e) es h)

entry_of : (s : Sort) (P : Problem) (side : Side) (v : ℕ) (H : List Entry) → IsAmong v (of_side side (replay s P H)).notes → HasEntry side v H
entry_of s P Exists v H h = by (note_later Exists v (begin s P) H h)
  where
    by : Later Exists v (begin s P) H → HasEntry Exists v H
    by (inl i) = absurd i
    by (inr k) = k
entry_of s P Forall v H h = by (note_later Forall v (begin s P) H h)
  where
    by : Later Forall v (begin s P) H → HasEntry Forall v H
    by (inl i) = absurd i
    by (inr k) = k

-- ---- the positive form

noted_by : (s : Sort) (P : Problem) (H : List Entry) (side : Side) → (¬ IsAmong (newest_number (of_side side (replay s P H))) (of_side side (replay s P H)).notes → ⊥) → IsNoted s P H side
noted_by s P H side n = by (among_or_not (newest_number (of_side side (replay s P H))) (of_side side (replay s P H)).notes)
  where
    by : IsAmong (newest_number (of_side side (replay s P H))) (of_side side (replay s P H)).notes ⊎ ¬ IsAmong (newest_number (of_side side (replay s P H))) (of_side side (replay s P H)).notes → IsNoted s P H side
    by (inl i) = let k = entry_of s P side (newest_number (of_side side (replay s P H))) H i in record { why = k.why; note = k.entry }
    by (inr k) = absurd (n k)

-- without work each unbeaten newest version has a note
pub unbeaten_noted : (s : Sort) (P : Problem) (H : List Entry) (side : Side) → (replay s P H).is_over ≡ false → ¬ SomeHasWork (replay s P H) → IsUnbeaten side (replay s P H) → IsNoted s P H side
unbeaten_noted s P H Exists o n u = noted_by s P H Exists (λ k. n (inr (record { open_game = o; unbeaten = u; unnoted = k })))
unbeaten_noted s P H Forall o n u = noted_by s P H Forall (λ k. n (inl (record { open_game = o; unbeaten = u; unnoted = k })))

pub blocked_is_noted : (s : Sort) (P : Problem) (B : ℕ) (H : List Entry) → IsMatrix P.matrix s (length P.prefix) → Legal s P B H → (replay s P H).is_over ≡ false → ¬ SomeHasWork (replay s P H) → IsBlocked s P H
blocked_is_noted s P B H i l o n =
    by (above_or_not (newest_number (replay s P H).of_exists) (replay s P H).of_forall.reach) (above_or_not (newest_number (replay s P H).of_forall) (replay s P H).of_exists.reach)
  where
    other_side : Exists ≡ Forall → ⊥
    other_side e = cc

    by : IsUnbeaten Exists (replay s P H) ⊎ ¬ IsUnbeaten Exists (replay s P H) → IsUnbeaten Forall (replay s P H) ⊎ ¬ IsUnbeaten Forall (replay s P H) → IsBlocked s P H
    by (inl u) f = record { side = Exists; unbeaten = u; noted = unbeaten_noted s P H Exists o n u; exists_first = λ e. absurd (other_side e) }
    by (inr k) (inl u) = record { side = Forall; unbeaten = u; noted = unbeaten_noted s P H Forall o n u; exists_first = λ e. k }
    by (inr k) (inr j) = absurd (not_both_beaten s P B H i l k j)
