-- The state of a board with one more entry.
use Rattle.std.specs.Prelude.{ℕ, zero, suc, ◌≡◌, ◌⊎◌, Some, List, [], ◌∷◌, ◌++◌, length, slice_get}
use Rattle.std.proofs.Common.{arith, ap, ◌∙◌, sym, subst, refl, inl, inr, length-append}
use Rattle.lin_term.specs.declared.Sort.{Sort}
use Rattle.dom_core.specs.declared.Side.{Side}
use Rattle.dom_core.specs.declared.Side.TheVariants.{Exists, Forall}
use Rattle.dom_core.specs.Game.{Problem, dual}
use Rattle.dom_core.specs.Problem.{WrittenProblem, problem_of}
use Rattle.game_tree.specs.Skeleton.{Skeleton}
use Rattle.game_tree.specs.Among.{IsAmong}
use Rattle.game_tree.specs.Union.{union}
use Rattle.game_history.specs.History.{Wideness, Entry, added, held, spent, too_large, noted, won, found, SideState, State, of_side, versions, version, newest_number, begin, after, replay}
use Rattle.game_history.specs.Legal.{OfVersion}
use Rattle.game_history.proofs.Pushed.{replay_push}
use Rattle.game_board.specs.declared.Entry.{Entry as Written}
use Rattle.game_board.specs.Entries.{entry_of, entries_of}
use Rattle.game_board.specs.Board.{WrittenBoard, state_of, with_entry}
use Rattle.game_board.proofs.Keeping.{entries_push, state_push}
use Rattle.team_work.specs.Shown.{ShownFor, Shown}
use Rattle.team_work.specs.Turn.{HasDual, IsGoing, IsSameGame}

-- ---- lists

pub get_first : (xs ys : List Skeleton) (v : ℕ) (S : Skeleton) → slice_get xs v ≡ Some S → slice_get (xs ++ ys) v ≡ Some S
get_first [] ys v S h = absurd (cc)
get_first (x ∷ xs) ys zero S h = h
get_first (x ∷ xs) ys (suc v) S h = get_first xs ys v S h

get_last : (xs : List Skeleton) (S : Skeleton) → slice_get (xs ++ S ∷ []) (length xs) ≡ Some S
get_last [] S = refl
get_last (x ∷ xs) S = get_last xs S

-- the newest version is there
pub newest_there : (x : SideState) → version x (newest_number x) ≡ Some x.newest
newest_there x = get_last x.older x.newest

pub among_front : (e : Entry) (H : List Entry) (K : List Entry) → IsAmong e H → IsAmong e (H ++ K)
among_front e [] K h = absurd h
among_front e (x ∷ H) K (inl h) = inl h
among_front e (x ∷ H) K (inr h) = inr (among_front e H K h)

pub among_end : (e : Entry) (H : List Entry) → IsAmong e (H ++ e ∷ [])
among_end e [] = inl refl
among_end e (x ∷ H) = inr (among_end e H)

among_split : (x e : Entry) (H : List Entry) → IsAmong x (H ++ e ∷ []) → IsAmong x H ⊎ (e ≡ x)
among_split x e [] (inl h) = inr (sym h)
among_split x e [] (inr h) = absurd h
among_split x e (y ∷ H) (inl h) = inl (inl h)
among_split x e (y ∷ H) (inr h) = by (among_split x e H h)
  where
    by : IsAmong x H ⊎ (e ≡ x) → IsAmong x (y ∷ H) ⊎ (e ≡ x)
    by (inl k) = inl (inr k)
    by (inr k) = inr k

-- ---- versions stay

pub version_kept : (side : Side) (st : State) (e : Entry) (v : ℕ) (S : Skeleton) → version (of_side side st) v ≡ Some S → version (of_side side (after st e)) v ≡ Some S
version_kept Exists st (added Exists w C m) v S h = get_first (versions st.of_exists) (union st.of_exists.newest C ∷ []) v S h
version_kept Exists st (added Forall w C m) v S h = h
version_kept Forall st (added Exists w C m) v S h = h
version_kept Forall st (added Forall w C m) v S h = get_first (versions st.of_forall) (union st.of_forall.newest C ∷ []) v S h
version_kept Exists st (held Exists w C) v S h = h
version_kept Exists st (held Forall w C) v S h = h
version_kept Forall st (held Exists w C) v S h = h
version_kept Forall st (held Forall w C) v S h = h
version_kept Exists st (spent x w C) v S h = h
version_kept Forall st (spent x w C) v S h = h
version_kept Exists st (too_large x w C n) v S h = h
version_kept Forall st (too_large x w C n) v S h = h
version_kept Exists st (noted Exists w y) v S h = h
version_kept Exists st (noted Forall w y) v S h = h
version_kept Forall st (noted Exists w y) v S h = h
version_kept Forall st (noted Forall w y) v S h = h
version_kept Exists st (won x w) v S h = h
version_kept Forall st (won x w) v S h = h
version_kept Exists st (found x T) v S h = h
version_kept Forall st (found x T) v S h = h

-- what is said of a version is said of it after one more entry
pub says_kept : (side : Side) (st : State) (e : Entry) (v : ℕ) (Says : Skeleton → Type 0) → OfVersion (of_side side st) v Says → OfVersion (of_side side (after st e)) v Says
says_kept side st e v Says h = record { tree = h.tree; there = version_kept side st e v h.tree h.there; says = h.says }

-- ---- notes that are shown

pub shown_more : (s : Sort) (P : Problem) (H : List Entry) (e : Entry) → ((side : Side) (v : ℕ) (y : Wideness) → IsAmong (noted side v y) H → Shown s P H side v y) → ((side : Side) (v : ℕ) (y : Wideness) → e ≡ noted side v y → Shown s P H side v y) → (side : Side) (v : ℕ) (y : Wideness) → IsAmong (noted side v y) (H ++ e ∷ []) → Shown s P (H ++ e ∷ []) side v y
shown_more s P H e all new side v y h =
    subst (λ (st : State). OfVersion (of_side side st) v (ShownFor s P side y)) (sym (replay_push (begin s P) H e))
    (says_kept side (replay s P H) e v (ShownFor s P side y) (by (among_split (noted side v y) e H h)))
  where
    by : IsAmong (noted side v y) H ⊎ (e ≡ noted side v y) → Shown s P H side v y
    by (inl k) = all side v y k
    by (inr k) = new side v y k

-- ---- a board with one more entry

-- verdict, budget and size are as before
pub record HasFlags (st new : State) : Type 0 where
  pub over : new.is_over ≡ st.is_over
  pub spent : new.is_spent ≡ st.is_spent
  pub large : new.is_large ≡ st.is_large

pub added_flags : (side : Side) (v : ℕ) (C : Skeleton) (m : ℕ) (st : State) → HasFlags st (after st (added side v C m))
added_flags Exists v C m st = record { over = refl; spent = refl; large = refl }
added_flags Forall v C m st = record { over = refl; spent = refl; large = refl }

pub held_flags : (side : Side) (v : ℕ) (C : Skeleton) (st : State) → HasFlags st (after st (held side v C))
held_flags Exists v C st = record { over = refl; spent = refl; large = refl }
held_flags Forall v C st = record { over = refl; spent = refl; large = refl }

pub noted_flags : (side : Side) (v : ℕ) (y : Wideness) (st : State) → HasFlags st (after st (noted side v y))
noted_flags Exists v y st = record { over = refl; spent = refl; large = refl }
noted_flags Forall v y st = record { over = refl; spent = refl; large = refl }

-- the game goes on
pub going_more : {D : Type 0} → (s : Sort) (b : WrittenBoard D) (e : Written D) → IsGoing s b → HasFlags (state_of s b) (after (state_of s b) (entry_of e)) → ((side : Side) (v : ℕ) (y : Wideness) → entry_of e ≡ noted side v y → Shown s (problem_of b.problem) (entries_of b.history) side v y) → IsGoing s (with_entry b e)
going_more {D} s b e g f new = record {
  open_game = ap (λ (st : State). st.is_over) (state_push s b e) ∙ f.over ∙ g.open_game;
  unspent = ap (λ (st : State). st.is_spent) (state_push s b e) ∙ f.spent ∙ g.unspent;
  small = ap (λ (st : State). st.is_large) (state_push s b e) ∙ f.large ∙ g.small;
  shown =
      subst (λ (H : List Entry). (side : Side) (v : ℕ) (y : Wideness) → IsAmong (noted side v y) H → Shown s (problem_of b.problem) H side v y) (sym (entries_push b.history e))
      (shown_more s (problem_of b.problem) (entries_of b.history) (entry_of e) g.shown new);
}

pub length_more : {D : Type 0} → (b : WrittenBoard D) (e : Written D) → length (with_entry b e).history ≡ suc (length b.history)
length_more {D} b e = let h = length-append b.history (e ∷ []) in omega (arith, h)

pub same_game : {D : Type 0} → (b c : WrittenBoard D) (e : Written D) → c ≡ with_entry b e → IsSameGame b c
same_game {D} b c e h = record {
  problem = ap (λ (x : WrittenBoard D). x.problem) h;
  dual = ap (λ (x : WrittenBoard D). x.dual) h;
  rounds = ap (λ (x : WrittenBoard D). x.rounds) h;
}

pub still_dual : {D : Type 0} → (s : Sort) (b c : WrittenBoard D) → HasDual s b → IsSameGame b c → HasDual s c
still_dual {D} s b c h g = record {
  dual_is = ap problem_of g.dual ∙ h.dual_is ∙ sym (ap (λ (P : WrittenProblem). dual s (problem_of P)) g.problem);
  inverse = ap (λ (P : WrittenProblem). dual s (problem_of P)) g.dual ∙ h.inverse ∙ sym (ap problem_of g.problem);
}
