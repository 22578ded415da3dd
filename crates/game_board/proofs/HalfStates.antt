-- The halves of a board after each kind of entry.
use Rattle.std.specs.Prelude.{ℕ, zero, suc, ◌+◌, ◌<◌, ◌≡◌, ◌≢◌, ◌⊎◌, Bool, true, false, eqb, Some, slice_get, slice_set, List, [], ◌∷◌, length}
use Rattle.std.proofs.Common.{arith, ap, ◌∙◌, sym, subst, refl, inl, inr, eqb-true}
use Rattle.std.proofs.lemmas.Bool.{eqb-false}
use Rattle.dom_core.specs.declared.Side.{Side}
use Rattle.dom_core.specs.declared.Side.TheVariants.{Exists, Forall}
use Rattle.dom_core.specs.Sides.{other}
use Rattle.game_tree.specs.Skeleton.{Skeleton}
use Rattle.game_tree.specs.Among.{IsAmong}
use Rattle.game_history.specs.History.{SideState, State, of_side, change, add_version, reach_to, mark, one_round, spend, outgrow}
use Rattle.game_board.specs.declared.half.Half.{Half}
use Rattle.game_board.specs.declared.halves.Halves.{Halves}
use Rattle.game_board.specs.Half.{half_of, with_half, with_reach, with_note, IsTableOf, IsHalfOf, Grows}
use Rattle.game_board.specs.Kept.{Tally, Matches, HasTables}

-- the half of a side is its state
pub side_is : {D : Type 0} → (side : Side) (p : Halves D) (t : Tally) (st : State) → Matches p t st → IsHalfOf (half_of side p) (of_side side st)
side_is {D} Exists p t st m = m.exists
side_is {D} Forall p t st m = m.forall

pub table_is : {D : Type 0} → (side : Side) (p : Halves D) (n : ℕ) → HasTables p n → length (half_of side p).noted ≡ suc n
table_is {D} Exists p n h = h.exists
table_is {D} Forall p n h = h.forall

-- ---- the reach

reached : {D : Type 0} → (h : Half D) (x : SideState) (v : ℕ) → IsHalfOf h x → IsHalfOf (with_reach v h) (reach_to v x)
reached {D} h x v k = record { prefix = k.prefix; versions_are = k.versions_are; reach = refl; notes = k.notes }

pub held_matches : {D : Type 0} → (side : Side) (p : Halves D) (t : Tally) (st : State) (v : ℕ) → Matches p t st → Matches (with_half side (with_reach v (half_of side p)) p) t (change side (reach_to v) st)
held_matches {D} Exists p t st v m = record { exists = reached p.exists st.of_exists v m.exists; forall = m.forall; added = m.added; spent = m.spent; large = m.large }
held_matches {D} Forall p t st v m = record { exists = m.exists; forall = reached p.forall st.of_forall v m.forall; added = m.added; spent = m.spent; large = m.large }

-- ---- one more version

pub added_matches : {D : Type 0} → (side : Side) (p q : Halves D) (t : Tally) (st : State) (C : Skeleton) (v m : ℕ) → Matches p t st → Grows C v m (half_of side p) (half_of side q) → half_of (other side) q ≡ half_of (other side) p → Matches q (record { added = t.added + 1; spent = t.spent; large = t.large }) (one_round (change side (add_version C v) st))
added_matches {D} Exists p q t st C v m k g e = record {
  exists = g.state st.of_exists k.exists;
  forall = subst (λ (h : Half D). IsHalfOf h st.of_forall) (sym e) k.forall;
  added = let a = k.added in omega arith;
  spent = k.spent;
  large = k.large;
}
added_matches {D} Forall p q t st C v m k g e = record {
  exists = subst (λ (h : Half D). IsHalfOf h st.of_exists) (sym e) k.exists;
  forall = g.state st.of_forall k.forall;
  added = let a = k.added in omega arith;
  spent = k.spent;
  large = k.large;
}

pub added_tables : {D : Type 0} → (side : Side) (p q : Halves D) (C : Skeleton) (v m n : ℕ) → HasTables p n → Grows C v m (half_of side p) (half_of side q) → half_of (other side) q ≡ half_of (other side) p → HasTables q n
added_tables {D} Exists p q C v m n h g e = record { exists = ap (λ (xs : List Bool). length xs) g.noted ∙ h.exists; forall = ap (λ (x : Half D). length x.noted) e ∙ h.forall }
added_tables {D} Forall p q C v m n h g e = record { exists = ap (λ (x : Half D). length x.noted) e ∙ h.exists; forall = ap (λ (xs : List Bool). length xs) g.noted ∙ h.forall }

pub same_exists : {D : Type 0} → (side : Side) (p q : Halves D) (C : Skeleton) (v m : ℕ) → Grows C v m (half_of side p) (half_of side q) → half_of (other side) q ≡ half_of (other side) p → q.exists.problem ≡ p.exists.problem
same_exists {D} Exists p q C v m g e = g.problem
same_exists {D} Forall p q C v m g e = ap (λ (x : Half D). x.problem) e

pub same_forall : {D : Type 0} → (side : Side) (p q : Halves D) (C : Skeleton) (v m : ℕ) → Grows C v m (half_of side p) (half_of side q) → half_of (other side) q ≡ half_of (other side) p → q.forall.problem ≡ p.forall.problem
same_forall {D} Exists p q C v m g e = ap (λ (x : Half D). x.problem) e
same_forall {D} Forall p q C v m g e = g.problem

-- ---- notes

set_here : (xs : List Bool) (v : ℕ) → v < length xs → slice_get (slice_set xs v true) v ≡ Some true
set_here [] v h = absurd (omega (arith, h))
set_here (x ∷ xs) zero h = refl
set_here (x ∷ xs) (suc v) h = set_here xs v (omega (arith, h))

set_there : (xs : List Bool) (v w : ℕ) → w ≢ v → slice_get (slice_set xs v true) w ≡ slice_get xs w
set_there [] zero w d = refl
set_there [] (suc v) w d = refl
set_there (x ∷ xs) zero zero d = absurd (d refl)
set_there (x ∷ xs) zero (suc w) d = refl
set_there (x ∷ xs) (suc v) zero d = refl
set_there (x ∷ xs) (suc v) (suc w) d = set_there xs v w (λ e. d (ap suc e))

set_length : (xs : List Bool) (v : ℕ) → length (slice_set xs v true) ≡ length xs
set_length [] zero = refl
set_length [] (suc v) = refl
set_length (x ∷ xs) zero = refl
set_length (x ∷ xs) (suc v) = ap suc (set_length xs v)

one_noted : (table : List Bool) (notes : List ℕ) (v : ℕ) → v < length table → IsTableOf table notes → IsTableOf (slice_set table v true) (v ∷ notes)
one_noted table notes v b k = record { noted = noted; listed = λ w h. listed w (eqb w v) refl h }
  where
    here : (w : ℕ) → w ≡ v → slice_get (slice_set table v true) w ≡ Some true
    here w e = subst (λ (x : ℕ). slice_get (slice_set table v true) x ≡ Some true) (sym e) (set_here table v b)

    kept : (w : ℕ) (t : Bool) → eqb w v ≡ t → slice_get table w ≡ Some true → slice_get (slice_set table v true) w ≡ Some true
    kept w true e h = here w (eqb-true w v e)
    kept w false e h = set_there table v w (eqb-false w v e) ∙ h

    noted : (w : ℕ) → (w ≡ v) ⊎ IsAmong w notes → slice_get (slice_set table v true) w ≡ Some true
    noted w (inl e) = here w e
    noted w (inr i) = kept w (eqb w v) refl (k.noted w i)

    listed : (w : ℕ) (t : Bool) → eqb w v ≡ t → slice_get (slice_set table v true) w ≡ Some true → (w ≡ v) ⊎ IsAmong w notes
    listed w true e h = inl (eqb-true w v e)
    listed w false e h = inr (k.listed w (sym (set_there table v w (eqb-false w v e)) ∙ h))

marked : {D : Type 0} → (h : Half D) (x : SideState) (v : ℕ) → v < length h.noted → IsHalfOf h x → IsHalfOf (with_note v h) (mark v x)
marked {D} h x v b k = record { prefix = k.prefix; versions_are = k.versions_are; reach = k.reach; notes = one_noted h.noted x.notes v b k.notes }

pub noted_matches : {D : Type 0} → (side : Side) (p : Halves D) (t : Tally) (st : State) (v : ℕ) → v < length (half_of side p).noted → Matches p t st → Matches (with_half side (with_note v (half_of side p)) p) t (change side (mark v) st)
noted_matches {D} Exists p t st v b m = record { exists = marked p.exists st.of_exists v b m.exists; forall = m.forall; added = m.added; spent = m.spent; large = m.large }
noted_matches {D} Forall p t st v b m = record { exists = m.exists; forall = marked p.forall st.of_forall v b m.forall; added = m.added; spent = m.spent; large = m.large }

pub noted_tables : {D : Type 0} → (side : Side) (p : Halves D) (v n : ℕ) → HasTables p n → HasTables (with_half side (with_note v (half_of side p)) p) n
noted_tables {D} Exists p v n h = record { exists = set_length p.exists.noted v ∙ h.exists; forall = h.forall }
noted_tables {D} Forall p v n h = record { exists = h.exists; forall = set_length p.forall.noted v ∙ h.forall }

pub held_tables : {D : Type 0} → (side : Side) (p : Halves D) (v n : ℕ) → HasTables p n → HasTables (with_half side (with_reach v (half_of side p)) p) n
held_tables {D} Exists p v n h = record { exists = h.exists; forall = h.forall }
held_tables {D} Forall p v n h = record { exists = h.exists; forall = h.forall }

-- ---- no version changes

pub spent_matches : {D : Type 0} → (p : Halves D) (t : Tally) (st : State) → Matches p t st → Matches p (record { added = t.added; spent = true; large = t.large }) (spend st)
spent_matches {D} p t st m = record { exists = m.exists; forall = m.forall; added = m.added; spent = refl; large = m.large }

pub large_matches : {D : Type 0} → (p : Halves D) (t : Tally) (st : State) → Matches p t st → Matches p (record { added = t.added; spent = t.spent; large = true }) (outgrow st)
large_matches {D} p t st m = record { exists = m.exists; forall = m.forall; added = m.added; spent = m.spent; large = refl }
