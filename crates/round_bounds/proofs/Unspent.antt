-- A history has a Spent entry exactly where the state after it says so.
use Rattle.std.specs.Prelude.{ℕ, ◌≡◌, true, false, List, [], ◌∷◌}
use Rattle.std.proofs.Common.{sym, subst, refl, inl, inr}
use Rattle.lin_term.specs.declared.Sort.{Sort}
use Rattle.dom_core.specs.declared.Side.{Side}
use Rattle.dom_core.specs.declared.Side.TheVariants.{Exists, Forall}
use Rattle.dom_core.specs.Game.{Problem}
use Rattle.game_tree.specs.Skeleton.{Skeleton}
use Rattle.game_tree.specs.Among.{IsAmong}
use Rattle.game_history.specs.History.{Entry, added, held, spent, too_large, noted, won, found, State, begin, after, replay, replay_from}
use Rattle.game_history.specs.Legal.{Legal}
use Rattle.round_bounds.specs.Bounds.{NeverSpent}

-- after no legal history within a budget of B rounds are they spent
abbrev pub Unspent : Sort → Problem → ℕ → Type 0
Unspent s P B = (H : List Entry) → Legal s P B H → (replay s P H).is_spent ≡ false

still_spent : (st : State) (e : Entry) → st.is_spent ≡ true → (after st e).is_spent ≡ true
still_spent st (added Exists v C m) h = h
still_spent st (added Forall v C m) h = h
still_spent st (held Exists v C) h = h
still_spent st (held Forall v C) h = h
still_spent st (spent x v C) h = refl
still_spent st (too_large x v C n) h = h
still_spent st (noted Exists v why) h = h
still_spent st (noted Forall v why) h = h
still_spent st (won x v) h = h
still_spent st (found x S) h = h

spent_on : (st : State) (H : List Entry) → st.is_spent ≡ true → (replay_from st H).is_spent ≡ true
spent_on st [] h = h
spent_on st (e ∷ H) h = spent_on (after st e) H (still_spent st e h)

pub spent_by : (st : State) (H : List Entry) (x : Side) (v : ℕ) (C : Skeleton) → IsAmong (spent x v C) H → (replay_from st H).is_spent ≡ true
spent_by st [] x v C i = absurd i
spent_by st (e ∷ H) x v C (inl i) = spent_on (after st e) H (subst (λ (a : Entry). (after st a).is_spent ≡ true) i refl)
spent_by st (e ∷ H) x v C (inr i) = spent_by (after st e) H x v C i

pub never_spent : (s : Sort) (P : Problem) (B : ℕ) → Unspent s P B → NeverSpent s P B
never_spent s P B h H l e = absurd (let a = h H l in let b = spent_by (begin s P) H e.by e.number e.tree e.entry in cc)

-- ---- and where there is none

unspent_after : (st : State) (e : Entry) → st.is_spent ≡ false → ((x : Side) (v : ℕ) (C : Skeleton) → ¬ (e ≡ spent x v C)) → (after st e).is_spent ≡ false
unspent_after st (added Exists v C m) h n = h
unspent_after st (added Forall v C m) h n = h
unspent_after st (held Exists v C) h n = h
unspent_after st (held Forall v C) h n = h
unspent_after st (spent x v C) h n = absurd (n x v C refl)
unspent_after st (too_large x v C z) h n = h
unspent_after st (noted Exists v why) h n = h
unspent_after st (noted Forall v why) h n = h
unspent_after st (won x v) h n = h
unspent_after st (found x S) h n = h

unspent_on : (st : State) (H : List Entry) → st.is_spent ≡ false → ((x : Side) (v : ℕ) (C : Skeleton) → ¬ IsAmong (spent x v C) H) → (replay_from st H).is_spent ≡ false
unspent_on st [] h n = h
unspent_on st (e ∷ H) h n =
    unspent_on (after st e) H (unspent_after st e h (λ x v C i. n x v C (inl (sym i)))) (λ x v C i. n x v C (inr i))

-- a reader of histories can take it so
pub unspent : (s : Sort) (P : Problem) (B : ℕ) → NeverSpent s P B → Unspent s P B
unspent s P B h H l = unspent_on (begin s P) H refl (λ x v C i. h H l (record { by = x; number = v; tree = C; entry = i }))
