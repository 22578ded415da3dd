-- Where neither side has work and no verdict stands, a newest version carries a note.
use Rattle.std.specs.Prelude.{ℕ, zero, suc, ◌<◌, ◌≡◌, false, Option, Some, None, slice_get, List, [], ◌∷◌, ◌++◌, length}
use Rattle.std.proofs.Common.{arith, ap, ◌∙◌, sym, subst, refl, inl, inr, length-append}
use Rattle.lin_term.specs.declared.Sort.{Sort}
use Rattle.lin_term.specs.Linear.{origin}
use Rattle.dom_core.specs.declared.Side.{Side}
use Rattle.dom_core.specs.declared.Side.TheVariants.{Exists, Forall}
use Rattle.dom_core.specs.Game.{Problem, IsMatrix}
use Rattle.game_tree.specs.Skeleton.{Skeleton, Follows}
use Rattle.game_tree.specs.Among.{IsAmong}
use Rattle.game_play.specs.Beats.{Beats}
use Rattle.game_tree.specs.Union.{union, In}
use Rattle.dom_core.specs.Sides.{problem_for}
use Rattle.game_history.specs.History.{Entry, added, held, spent, too_large, noted, won, found, SideState, State, begin, after, replay, replay_from, newest_number, version, versions, add_version, reach_to, mark}
use Rattle.game_history.specs.Legal.{IsAbove, Fits, LegalFrom, Legal}
use Rattle.game_history.specs.Work.{IsUnbeaten}
use Rattle.game_history.specs.Work.{SomeHasWork}
use Rattle.game_history.proofs.Lists.{each_last, get_below}
use Rattle.game_play.proofs.Contest.{cannot_both}
use Rattle.term_select.proofs.Shapes.{follows_shape}
use Rattle.term_select.proofs.Winning.{other_wins}
use Rattle.game_history.proofs.Including.{including_beats}
use Rattle.game_history.proofs.Versions.{IsTreeOf, AreVersions, BothAre, both_step, both_at_first}

-- a union beats what the skeleton that is put in beats
union_beats_other : (s : Sort) (P : Problem) (S T U : Skeleton) → Follows S s P.prefix 0 → Follows T s P.prefix 0 → Beats s P T U → Beats s P (union S T) U
union_beats_other s P S T U f t h = other_wins T P.prefix s P.matrix S U origin (follows_shape T s P.prefix 0 t) (follows_shape S s P.prefix 0 f) h

some_same : (S T : Skeleton) → Some S ≡ Some T → S ≡ T
some_same S T e = cc

get_left : (xs ys : List Skeleton) (i : ℕ) (S : Skeleton) → slice_get xs i ≡ Some S → slice_get (xs ++ ys) i ≡ Some S
get_left [] ys i S h = absurd (cc)
get_left (x ∷ xs) ys zero S h = h
get_left (x ∷ xs) ys (suc i) S h = get_left xs ys i S h

get_end : (xs : List Skeleton) (S : Skeleton) → slice_get (xs ++ S ∷ []) (length xs) ≡ Some S
get_end [] S = refl
get_end (x ∷ xs) S = get_end xs S

-- the newest version beats the version that the reach names
pub record IsReached (s : Sort) (P : Problem) (side : Side) (own rival : SideState) (v : ℕ) : Type 0 where
  pub tree : Skeleton
  pub there : version rival v ≡ Some tree
  pub beats : Beats s (problem_for s side P) own.newest tree

abbrev pub Reaches : Sort → Problem → Side → SideState → SideState → Type 0
Reaches s P side own rival = (v : ℕ) → own.reach ≡ Some v → IsReached s P side own rival v

same_number : (v w : ℕ) → Some v ≡ Some w → v ≡ w
same_number v w e = cc

newest_follows : (s : Sort) (P : Problem) (side : Side) (x : SideState) → AreVersions s P side x → IsTreeOf s P side x.newest
newest_follows s P side x k = each_last (IsTreeOf s P side) x.older x.newest k.trees

own_added : (s : Sort) (P : Problem) (side : Side) (own rival : SideState) (v : ℕ) (C U : Skeleton) → AreVersions s P side own → IsTreeOf s P side C → version rival v ≡ Some U → Beats s (problem_for s side P) C U → Reaches s P side (add_version C v own) rival
own_added s P side own rival v C U k f t b w e = record {
  tree = U;
  there = subst (λ (j : ℕ). version rival j ≡ Some U) (same_number v w e) t;
  beats = union_beats_other s (problem_for s side P) own.newest C U (newest_follows s P side own k) f b;
}

own_held : (s : Sort) (P : Problem) (side : Side) (own rival : SideState) (v : ℕ) (C U : Skeleton) → AreVersions s P side own → IsTreeOf s P side C → version rival v ≡ Some U → Beats s (problem_for s side P) C U → In C own.newest → Reaches s P side (reach_to v own) rival
own_held s P side own rival v C U k f t b i w e = record {
  tree = U;
  there = subst (λ (j : ℕ). version rival j ≡ Some U) (same_number v w e) t;
  beats = including_beats s (problem_for s side P) C own.newest U f (newest_follows s P side own k) i b;
}

rival_added : (s : Sort) (P : Problem) (side : Side) (own rival : SideState) (v : ℕ) (C : Skeleton) → Reaches s P side own rival → Reaches s P side own (add_version C v rival)
rival_added s P side own rival v C k w e =
    let r = k w e in
    record { tree = r.tree; there = get_left (versions rival) (union rival.newest C ∷ []) w r.tree r.there; beats = r.beats }

pub record BothReach (s : Sort) (P : Problem) (st : State) : Type 0 where
  pub exists : Reaches s P Exists st.of_exists st.of_forall
  pub forall : Reaches s P Forall st.of_forall st.of_exists
  pub both : BothAre s P st

-- the same, where newest version, reach and the rival's versions are
again : (s : Sort) (P : Problem) (side : Side) (own own' rival rival' : SideState) → own'.newest ≡ own.newest → own'.reach ≡ own.reach → versions rival' ≡ versions rival → Reaches s P side own rival → Reaches s P side own' rival'
again s P side own own' rival rival' n r v k w e =
    let x = k w (sym r ∙ e) in
    record {
      tree = x.tree;
      there = subst (λ (xs : List Skeleton). slice_get xs w ≡ Some x.tree) (sym v) x.there;
      beats = subst (λ (S : Skeleton). Beats s (problem_for s side P) S x.tree) (sym n) x.beats;
    }

reach_step : (s : Sort) (P : Problem) (B : ℕ) (st : State) (e : Entry) → BothReach s P st → Fits s P B st e → BothReach s P (after st e)
reach_step s P B st (added Exists v C m) k f = record {
  exists = own_added s P Exists st.of_exists st.of_forall v C f.0.attacked k.both.exists f.0.follows f.0.there f.0.beats;
  forall = rival_added s P Forall st.of_forall st.of_exists v C k.forall;
  both = both_step s P B st (added Exists v C m) k.both f;
}
reach_step s P B st (added Forall v C m) k f = record {
  exists = rival_added s P Exists st.of_exists st.of_forall v C k.exists;
  forall = own_added s P Forall st.of_forall st.of_exists v C f.0.attacked k.both.forall f.0.follows f.0.there f.0.beats;
  both = both_step s P B st (added Forall v C m) k.both f;
}
reach_step s P B st (held Exists v C) k f = record {
  exists = own_held s P Exists st.of_exists st.of_forall v C f.0.attacked k.both.exists f.0.follows f.0.there f.0.beats f.1;
  forall = again s P Forall st.of_forall st.of_forall st.of_exists (reach_to v st.of_exists) refl refl refl k.forall;
  both = both_step s P B st (held Exists v C) k.both f;
}
reach_step s P B st (held Forall v C) k f = record {
  exists = again s P Exists st.of_exists st.of_exists st.of_forall (reach_to v st.of_forall) refl refl refl k.exists;
  forall = own_held s P Forall st.of_forall st.of_exists v C f.0.attacked k.both.forall f.0.follows f.0.there f.0.beats f.1;
  both = both_step s P B st (held Forall v C) k.both f;
}
reach_step s P B st (spent x v C) k f = record { exists = k.exists; forall = k.forall; both = both_step s P B st (spent x v C) k.both f }
reach_step s P B st (too_large x v C n) k f = record { exists = k.exists; forall = k.forall; both = both_step s P B st (too_large x v C n) k.both f }
reach_step s P B st (noted Exists v why) k f = record {
  exists = again s P Exists st.of_exists (mark v st.of_exists) st.of_forall st.of_forall refl refl refl k.exists;
  forall = again s P Forall st.of_forall st.of_forall st.of_exists (mark v st.of_exists) refl refl refl k.forall;
  both = both_step s P B st (noted Exists v why) k.both f;
}
reach_step s P B st (noted Forall v why) k f = record {
  exists = again s P Exists st.of_exists st.of_exists st.of_forall (mark v st.of_forall) refl refl refl k.exists;
  forall = again s P Forall st.of_forall (mark v st.of_forall) st.of_exists st.of_exists refl refl refl k.forall;
  both = both_step s P B st (noted Forall v why) k.both f;
}
reach_step s P B st (won x v) k f = record { exists = k.exists; forall = k.forall; both = both_step s P B st (won x v) k.both f }
reach_step s P B st (found x S) k f = record { exists = k.exists; forall = k.forall; both = both_step s P B st (found x S) k.both f }

pub reach_on : (s : Sort) (P : Problem) (B : ℕ) (st : State) (H : List Entry) → BothReach s P st → LegalFrom s P B st H → BothReach s P (replay_from st H)
reach_on s P B st [] k l = k
reach_on s P B st (e ∷ es) k l = reach_on s P B (after st e) es (reach_step s P B st e k l.1) l.2

pub reach_at_first : (s : Sort) (P : Problem) → BothReach s P (begin s P)
reach_at_first s P = record { exists = λ v e. absurd (cc); forall = λ v e. absurd (cc); both = both_at_first s P }

-- a newest version that is not unbeaten is beaten by the rival's newest
beats_newest : (s : Sort) (P : Problem) (side : Side) (own rival : SideState) → Reaches s P side own rival → ¬ IsAbove (newest_number rival) own.reach → Beats s (problem_for s side P) own.newest rival.newest
beats_newest s P side own rival k n = by own.reach refl
  where
    by : (r : Option ℕ) → own.reach ≡ r → Beats s (problem_for s side P) own.newest rival.newest
    by None e = absurd (n (subst (λ (x : Option ℕ). IsAbove (newest_number rival) x) (sym e) tt))
    by (Some v) e =
        let r = k v e in
        let b = get_below (versions rival) v r.tree r.there in
        let len = length-append rival.older (rival.newest ∷ []) in
        let a : ¬ (v < length rival.older) = λ h. n (subst (λ (x : Option ℕ). IsAbove (newest_number rival) x) (sym e) h) in
        let last : v ≡ length rival.older = omega (arith, a) in
        let same = some_same r.tree rival.newest (sym r.there ∙ ap (λ (j : ℕ). slice_get (versions rival) j) last ∙ get_end rival.older rival.newest) in
        subst (λ (S : Skeleton). Beats s (problem_for s side P) own.newest S) same r.beats

-- it is not so that no newest version carries a note
pub blocked_has_note : (s : Sort) (P : Problem) (B : ℕ) (H : List Entry) → IsMatrix P.matrix s (length P.prefix) → Legal s P B H → (replay s P H).is_over ≡ false → ¬ SomeHasWork (replay s P H) → ¬ IsAmong (newest_number (replay s P H).of_exists) (replay s P H).of_exists.notes → ¬ IsAmong (newest_number (replay s P H).of_forall) (replay s P H).of_forall.notes → ⊥
blocked_has_note s P B H i l o n ne nf =
    let st = replay s P H in
    let k = reach_on s P B (begin s P) H (reach_at_first s P) l in
    let a = beats_newest s P Exists st.of_exists st.of_forall k.exists (λ u. n (inl (record { open_game = o; unbeaten = u; unnoted = nf }))) in
    let b = beats_newest s P Forall st.of_forall st.of_exists k.forall (λ u. n (inr (record { open_game = o; unbeaten = u; unnoted = ne }))) in
    cannot_both s P st.of_exists.newest st.of_forall.newest i (newest_follows s P Exists st.of_exists k.both.exists) (newest_follows s P Forall st.of_forall k.both.forall) a b

-- in no legal history are both newest versions beaten
pub not_both_beaten : (s : Sort) (P : Problem) (B : ℕ) (H : List Entry) → IsMatrix P.matrix s (length P.prefix) → Legal s P B H → ¬ IsUnbeaten Exists (replay s P H) → ¬ IsUnbeaten Forall (replay s P H) → ⊥
not_both_beaten s P B H i l ne nf =
    let st = replay s P H in
    let k = reach_on s P B (begin s P) H (reach_at_first s P) l in
    cannot_both s P st.of_exists.newest st.of_forall.newest i (newest_follows s P Exists st.of_exists k.both.exists) (newest_follows s P Forall st.of_forall k.both.forall)
    (beats_newest s P Exists st.of_exists st.of_forall k.exists nf) (beats_newest s P Forall st.of_forall st.of_exists k.forall ne)
