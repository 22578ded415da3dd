-- The note on a version, looked for entry by entry.
use Rattle.std.specs.Prelude.{ℕ, zero, suc, ◌+◌, ◌<◌, ◌≤◌, ◌≡◌, Some, None, List, [], ◌∷◌, ◌++◌, get_or, take, length}
use Rattle.std.proofs.Common.{arith, ap, ◌∙◌, sym, subst, refl, inl, inr}
use Rattle.std.proofs.lemmas.List.{take_more, take_all}
use Rattle.dom_core.specs.declared.Side.{Side}
use Rattle.game_tree.specs.Among.{IsAmong}
use Rattle.game_history.specs.History.{Wideness, Entry, noted}
use Rattle.game_board.specs.declared.Entry.{Entry as Written}
use Rattle.game_board.specs.declared.WideNote.{WideNote}
use Rattle.game_board.specs.Entries.{entry_of, entries_of}
use Rattle.team_work.specs.Noting.{ReadsNote, FindsNote}

-- no entry is a note on the side's version
abbrev pub HasNoNote : {D : Type 0} → List (Written D) → Side → ℕ → Type 0
HasNoNote {D} xs side v = (y : Wideness) → ¬ IsAmong (noted side v y) (entries_of xs)

none_push : {D : Type 0} → (xs : List (Written D)) (e : Written D) (side : Side) (v : ℕ) → HasNoNote xs side v → ((y : Wideness) → ¬ (entry_of e ≡ noted side v y)) → HasNoNote (xs ++ e ∷ []) side v
none_push {D} [] e side v h n y (inl q) = n y (sym q)
none_push {D} [] e side v h n y (inr q) = absurd q
none_push {D} (x ∷ xs) e side v h n y (inl q) = h y (inl q)
none_push {D} (x ∷ xs) e side v h n y (inr q) = none_push xs e side v (λ z k. h z (inr k)) n y q

-- nor is the next one
pub none_more : {D : Type 0} → (xs : List (Written D)) (e : Written D) (i : ℕ) (side : Side) (v : ℕ) → i < length xs → e ≡ get_or xs i e → HasNoNote (take i xs) side v → ReadsNote {D = D} (entry_of e) side v None → HasNoNote (take (i + 1) xs) side v
none_more {D} xs e i side v l q h n =
    subst (λ (zs : List (Written D)). HasNoNote zs side v) (sym (take_more xs i e l))
    (none_push (take i xs) (get_or xs i e) side v h (λ y k. n y (ap (λ (x : Written D). entry_of x) q ∙ k)))

-- nor any
pub none_at_all : {D : Type 0} → (xs : List (Written D)) (i : ℕ) (side : Side) (v : ℕ) → length xs ≤ i → HasNoNote (take i xs) side v → HasNoNote xs side v
none_at_all {D} xs i side v l h = subst (λ (zs : List (Written D)). HasNoNote zs side v) (take_all i xs l) h

entry_among : {D : Type 0} → (xs : List (Written D)) (e : Written D) (i : ℕ) → i < length xs → IsAmong (entry_of (get_or xs i e)) (entries_of xs)
entry_among {D} [] e i l = absurd (omega arith)
entry_among {D} (x ∷ xs) e zero l = inl refl
entry_among {D} (x ∷ xs) e (suc i) l = inr (entry_among xs e i (omega arith))

-- this one is
pub note_found : {D : Type 0} → (xs : List (Written D)) (e : Written D) (i : ℕ) (side : Side) (v : ℕ) (n : WideNote D) → i < length xs → e ≡ get_or xs i e → ReadsNote (entry_of e) side v (Some n) → FindsNote (entries_of xs) side v (Some n)
note_found {D} xs e i side v n l q h = (
  h.0,
  h.1,
  subst (λ (x : Entry). IsAmong x (entries_of xs)) (ap (λ (x : Written D). entry_of x) (sym q) ∙ h.2) (entry_among xs e i l),
)
