-- No legal history within B rounds has more than 2*B + 7 entries.
use Rattle.std.specs.Prelude.{ℕ, zero, suc, ◌+◌, ◌*◌, ◌≤◌, ◌≡◌, ◌⊎◌, Bool, true, false, Option, Some, None, List, [], ◌∷◌, length}
use Rattle.std.proofs.Common.{arith, ap, refl, inl, inr, length-append}
use Rattle.lin_term.specs.declared.Sort.{Sort}
use Rattle.dom_core.specs.declared.Side.{Side}
use Rattle.dom_core.specs.declared.Side.TheVariants.{Exists, Forall}
use Rattle.dom_core.specs.Game.{Problem}
use Rattle.game_tree.specs.Skeleton.{Skeleton}
use Rattle.game_tree.specs.Among.{IsAmong}
use Rattle.game_history.specs.History.{Entry, added, held, spent, too_large, noted, won, found, SideState, State, of_side, begin, after, replay, replay_from, version, versions, add_version, mark}
use Rattle.game_history.specs.Legal.{IsAbove, Fits, LegalFrom, Legal}
use Rattle.game_history.proofs.Lists.{get_below, Without, taken_out}

-- 1 above the reach
abbrev next : Option ℕ → ℕ
next None = 0
next (Some v) = suc v

above_next : (v : ℕ) (reach : Option ℕ) → IsAbove v reach → next reach ≤ v
above_next v None a = omega arith
above_next v (Some r) a = omega arith

abbrev flag : Bool → ℕ
flag false = 0
flag true = 1

flag_one : (b : Bool) → flag b ≤ 1
flag_one false = omega arith
flag_one true = omega arith

-- ---- each version has at most one note

-- the versions without a note
record HasLeft (x : SideState) : Type 0 where
  left : List ℕ
  covers : (w : ℕ) → w ≤ length x.older → IsAmong w x.notes ⊎ IsAmong w left
  tally : length x.notes + length left ≡ suc (length x.older)

version_below : (x : SideState) (v : ℕ) (U : Skeleton) → version x v ≡ Some U → v ≤ length x.older
version_below x v U h =
    let b = get_below (versions x) v U h in
    let l = length-append x.older (x.newest ∷ []) in
    omega arith

left_marked : (x : SideState) (v : ℕ) → v ≤ length x.older → ¬ IsAmong v x.notes → HasLeft x → HasLeft (mark v x)
left_marked x v b n k = by (k.covers v b)
  where
    split : (w : ℕ) (o : Without v k.left) → (w ≡ v) ⊎ IsAmong w o.rest → IsAmong w (v ∷ x.notes) ⊎ IsAmong w o.rest
    split w o (inl e) = inl (inl e)
    split w o (inr i) = inr i

    cover : (w : ℕ) (o : Without v k.left) → IsAmong w x.notes ⊎ IsAmong w k.left → IsAmong w (v ∷ x.notes) ⊎ IsAmong w o.rest
    cover w o (inl i) = inl (inr i)
    cover w o (inr i) = split w o (o.others w i)

    by : IsAmong v x.notes ⊎ IsAmong v k.left → HasLeft (mark v x)
    by (inl i) = absurd (n i)
    by (inr i) =
        let o = taken_out v k.left i in
        let t = k.tally in
        let j = o.one in
        record { left = o.rest; covers = λ w h. cover w o (k.covers w h); tally = omega arith }

last_or_less : (w n : ℕ) → w ≤ suc n → (w ≤ n) ⊎ (w ≡ suc n)
last_or_less zero n h = inl (omega arith)
last_or_less (suc w) zero h = inr (omega arith)
last_or_less (suc w) (suc n) h = by (last_or_less w n (omega arith))
  where
    by : (w ≤ n) ⊎ (w ≡ suc n) → (suc w ≤ suc n) ⊎ (suc w ≡ suc (suc n))
    by (inl k) = inl (omega arith)
    by (inr k) = inr (omega arith)

left_added : (x : SideState) (C : Skeleton) (v : ℕ) → HasLeft x → HasLeft (add_version C v x)
left_added x C v k =
    let l = length-append x.older (x.newest ∷ []) in
    let t = k.tally in
    record {
      left = suc (length x.older) ∷ k.left;
      covers = λ w h. by w (last_or_less w (length x.older) (omega arith));
      tally = omega arith;
    }
  where
    later : (w : ℕ) → IsAmong w x.notes ⊎ IsAmong w k.left → IsAmong w x.notes ⊎ IsAmong w (suc (length x.older) ∷ k.left)
    later w (inl i) = inl i
    later w (inr i) = inr (inr i)

    by : (w : ℕ) → (w ≤ length x.older) ⊎ (w ≡ suc (length x.older)) → IsAmong w x.notes ⊎ IsAmong w (suc (length x.older) ∷ k.left)
    by w (inl h) = later w (k.covers w h)
    by w (inr e) = inr (inl e)

-- ---- k entries were made, the added and held ones with rising versions of the other side

record Counted (B : ℕ) (st : State) (k : ℕ) : Type 0 where
  exists : HasLeft st.of_exists
  forall : HasLeft st.of_forall
  total : k ≤ (next st.of_exists.reach + next st.of_forall.reach) + (length st.of_exists.notes + length st.of_forall.notes) + (flag st.is_spent + flag st.is_large + flag st.is_over)
  low_exists : next st.of_exists.reach ≤ suc (length st.of_forall.older)
  low_forall : next st.of_forall.reach ≤ suc (length st.of_exists.older)
  tally : st.rounds ≡ length st.of_exists.older + length st.of_forall.older
  within : st.rounds ≤ B

counted_step : (s : Sort) (P : Problem) (B : ℕ) (st : State) (e : Entry) (k : ℕ) → st.is_over ≡ false → Fits s P B st e → Counted B st k → Counted B (after st e) (suc k)
counted_step s P B st (added Exists v C m) k o f c =
    let a = above_next v st.of_exists.reach f.0.above in
    let b = version_below st.of_forall v f.0.attacked f.0.there in
    let l = length-append st.of_exists.older (st.of_exists.newest ∷ []) in
    let t = c.total in
    let x = c.low_forall in
    let y = c.tally in
    let z = f.2 in
    record { exists = left_added st.of_exists C v c.exists; forall = c.forall; total = omega arith; low_exists = omega arith; low_forall = omega arith; tally = omega arith; within = omega arith }
counted_step s P B st (added Forall v C m) k o f c =
    let a = above_next v st.of_forall.reach f.0.above in
    let b = version_below st.of_exists v f.0.attacked f.0.there in
    let l = length-append st.of_forall.older (st.of_forall.newest ∷ []) in
    let t = c.total in
    let x = c.low_exists in
    let y = c.tally in
    let z = f.2 in
    record { exists = c.exists; forall = left_added st.of_forall C v c.forall; total = omega arith; low_exists = omega arith; low_forall = omega arith; tally = omega arith; within = omega arith }
counted_step s P B st (held Exists v C) k o f c =
    let a = above_next v st.of_exists.reach f.0.above in
    let b = version_below st.of_forall v f.0.attacked f.0.there in
    let t = c.total in
    record { exists = record { left = c.exists.left; covers = c.exists.covers; tally = c.exists.tally }; forall = c.forall; total = omega arith; low_exists = omega arith; low_forall = c.low_forall; tally = c.tally; within = c.within }
counted_step s P B st (held Forall v C) k o f c =
    let a = above_next v st.of_forall.reach f.0.above in
    let b = version_below st.of_exists v f.0.attacked f.0.there in
    let t = c.total in
    record { exists = c.exists; forall = record { left = c.forall.left; covers = c.forall.covers; tally = c.forall.tally }; total = omega arith; low_exists = c.low_exists; low_forall = omega arith; tally = c.tally; within = c.within }
counted_step s P B st (spent x v C) k o f c =
    let t = c.total in
    let u = ap flag f.3 in
    record { exists = c.exists; forall = c.forall; total = omega arith; low_exists = c.low_exists; low_forall = c.low_forall; tally = c.tally; within = c.within }
counted_step s P B st (too_large x v C n) k o f c =
    let t = c.total in
    let u = ap flag f.5 in
    record { exists = c.exists; forall = c.forall; total = omega arith; low_exists = c.low_exists; low_forall = c.low_forall; tally = c.tally; within = c.within }
counted_step s P B st (noted Exists v why) k o f c =
    let t = c.total in
    record { exists = left_marked st.of_exists v (version_below st.of_exists v f.0.tree f.0.there) f.1 c.exists; forall = c.forall; total = omega arith; low_exists = c.low_exists; low_forall = c.low_forall; tally = c.tally; within = c.within }
counted_step s P B st (noted Forall v why) k o f c =
    let t = c.total in
    record { exists = c.exists; forall = left_marked st.of_forall v (version_below st.of_forall v f.0.tree f.0.there) f.1 c.forall; total = omega arith; low_exists = c.low_exists; low_forall = c.low_forall; tally = c.tally; within = c.within }
counted_step s P B st (won x v) k o f c =
    let t = c.total in
    let u = ap flag o in
    record { exists = c.exists; forall = c.forall; total = omega arith; low_exists = c.low_exists; low_forall = c.low_forall; tally = c.tally; within = c.within }
counted_step s P B st (found x S) k o f c =
    let t = c.total in
    let u = ap flag o in
    record { exists = c.exists; forall = c.forall; total = omega arith; low_exists = c.low_exists; low_forall = c.low_forall; tally = c.tally; within = c.within }

counted_bound : (B : ℕ) (st : State) (k : ℕ) → Counted B st k → k ≤ 2 * B + 7
counted_bound B st k c =
    let t = c.total in
    let x = c.low_exists in
    let y = c.low_forall in
    let e = c.exists.tally in
    let f = c.forall.tally in
    let r = c.tally in
    let w = c.within in
    let p = flag_one st.is_spent in
    let q = flag_one st.is_large in
    let o = flag_one st.is_over in
    omega arith

counted_on : (s : Sort) (P : Problem) (B : ℕ) (st : State) (H : List Entry) (k : ℕ) → LegalFrom s P B st H → Counted B st k → k + length H ≤ 2 * B + 7
counted_on s P B st [] k l c = let b = counted_bound B st k c in omega arith
counted_on s P B st (e ∷ es) k l c =
    let b = counted_on s P B (after st e) es (suc k) l.2 (counted_step s P B st e k l.0 l.1 c) in
    omega arith

first_left : (x : SideState) → x.older ≡ [] → x.notes ≡ [] → HasLeft x
first_left x o n =
    let a = ap length o in
    let b = ap length n in
    record { left = 0 ∷ []; covers = λ w h. inr (inl (omega arith)); tally = omega arith }

counted_at_first : (s : Sort) (P : Problem) (B : ℕ) → Counted B (begin s P) 0
counted_at_first s P B =
    let st = begin s P in
    record {
      exists = first_left st.of_exists refl refl;
      forall = first_left st.of_forall refl refl;
      total = omega arith;
      low_exists = omega arith;
      low_forall = omega arith;
      tally = refl;
      within = omega arith;
    }

pub few_entries : (s : Sort) (P : Problem) (B : ℕ) (H : List Entry) → Legal s P B H → length H ≤ 2 * B + 7
few_entries s P B H l = let b = counted_on s P B (begin s P) H 0 l (counted_at_first s P B) in omega arith

-- ---- no version has a number above the budget

counted_at : (s : Sort) (P : Problem) (B : ℕ) (st : State) (H : List Entry) (k : ℕ) → LegalFrom s P B st H → Counted B st k → (n : ℕ) × Counted B (replay_from st H) n
counted_at s P B st [] k l c = (k, c)
counted_at s P B st (e ∷ es) k l c = counted_at s P B (after st e) es (suc k) l.2 (counted_step s P B st e k l.0 l.1 c)

within_side : (B : ℕ) (st : State) (k : ℕ) (side : Side) (v : ℕ) (S : Skeleton) → Counted B st k → version (of_side side st) v ≡ Some S → v ≤ B
within_side B st k Exists v S c h = let b = version_below st.of_exists v S h in let t = c.tally in let w = c.within in omega arith
within_side B st k Forall v S c h = let b = version_below st.of_forall v S h in let t = c.tally in let w = c.within in omega arith

pub version_within : (s : Sort) (P : Problem) (B : ℕ) (H : List Entry) (side : Side) (v : ℕ) (S : Skeleton) → Legal s P B H → version (of_side side (replay s P H)) v ≡ Some S → v ≤ B
version_within s P B H side v S l h =
    let c = counted_at s P B (begin s P) H 0 l (counted_at_first s P B) in
    within_side B (replay s P H) c.0 side v S c.1 h

pub rounds_within : (s : Sort) (P : Problem) (B : ℕ) (H : List Entry) → Legal s P B H → (replay s P H).rounds ≤ B
rounds_within s P B H l = (counted_at s P B (begin s P) H 0 l (counted_at_first s P B)).1.within
