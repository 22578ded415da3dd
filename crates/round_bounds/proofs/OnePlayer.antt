-- Where all variables belong to one player, no budget of 1 round or more is spent.
use Rattle.std.specs.Prelude.{ℕ, zero, suc, ◌<◌, ◌≤◌, ◌≡◌, ◌⊎◌, false, Option, Some, None, slice_get, List, [], ◌∷◌, ◌++◌, map}
use Rattle.std.proofs.Common.{arith, ap, ◌∙◌, sym, subst, refl, inl, inr}
use Rattle.lin_term.specs.declared.Sort.{Sort}
use Rattle.lin_term.specs.Move.{Move}
use Rattle.dom_core.specs.declared.Quant.{Quant}
use Rattle.dom_core.specs.declared.Quant.TheVariants as quant
use Rattle.dom_core.specs.declared.Side.{Side}
use Rattle.dom_core.specs.declared.Side.TheVariants.{Exists, Forall}
use Rattle.dom_core.specs.Game.{Problem, flip_all}
use Rattle.game_tree.specs.Skeleton.{Skeleton, end, theirs, mine, paths, Follows}
use Rattle.game_tree.specs.Among.{IsAmong}
use Rattle.dom_core.specs.Sides.{other, problem_for}
use Rattle.game_history.specs.History.{Entry, added, held, spent, too_large, noted, won, found, SideState, State, begin, of_side, after, replay_from, version}
use Rattle.game_history.specs.Legal.{HasNewPath, IsAbove, Fits, LegalFrom}
use Rattle.round_bounds.specs.Bounds.{AreAll, HasOnePlayer, OneRoundIsEnough}
use Rattle.round_bounds.proofs.Unspent.{Unspent, never_spent}
use Rattle.game_tree.proofs.Zeros.{zero_follows}

abbrev no_moves : List Quant → List (Option Move)
no_moves [] = []
no_moves (q ∷ qs) = None ∷ no_moves qs

-- a player without variables has one path
only_path : (qs : List Quant) (s : Sort) (S : Skeleton) (k : ℕ) → AreAll quant.Forall qs → Follows S s qs k → paths S ≡ no_moves qs ∷ []
only_path [] s end k a f = refl
only_path [] s (theirs S) k a f = absurd f
only_path [] s (mine bs) k a f = absurd f
only_path (quant.Exists ∷ qs) s S k a f = absurd (let e = a.0 in cc)
only_path (quant.Forall ∷ qs) s end k a f = absurd f
only_path (quant.Forall ∷ qs) s (mine bs) k a f = absurd f
only_path (quant.Forall ∷ qs) s (theirs S) k a f = ap (λ (ps : List (List (Option Move))). map (λ path. None ∷ path) ps) (only_path qs s S (suc k) a.1 f)

nothing_new : (qs : List Quant) (s : Sort) (C N : Skeleton) → AreAll quant.Forall qs → Follows C s qs 0 → Follows N s qs 0 → HasNewPath C N → ⊥
nothing_new qs s C N a f g h =
    h.new (subst (λ (ps : List (List (Option Move))). IsAmong h.path ps) (only_path qs s C 0 a f ∙ sym (only_path qs s N 0 a g)) h.own)

-- in a state where the side without variables has version 0 alone
record Kept (s : Sort) (P : Problem) (side : Side) (st : State) : Type 0 where
  alone : (of_side side st).older ≡ []
  follows : Follows (of_side side st).newest s (problem_for s side P).prefix 0
  begun : (st.rounds ≡ 0) ⊎ ((reach : ℕ) × ((of_side (other side) st).reach ≡ Some reach))
  unspent : st.is_spent ≡ false

version_zero : (x : SideState) (v : ℕ) (U : Skeleton) → x.older ≡ [] → version x v ≡ Some U → v ≡ 0
version_zero x zero U e h = refl
version_zero x (suc v) U e h = absurd (let i : slice_get (x.newest ∷ []) (suc v) ≡ Some U = subst (λ (older : List Skeleton). slice_get (older ++ x.newest ∷ []) (suc v) ≡ Some U) e h in cc)

never_again : (s : Sort) (P : Problem) (B : ℕ) (side : Side) (st : State) (v : ℕ) (U : Skeleton) → 1 ≤ B → Kept s P side st → st.rounds ≡ B → version (of_side side st) v ≡ Some U → IsAbove v (of_side (other side) st).reach → ⊥
never_again s P B side st v U o k e h a = by k.begun
  where
    by : (st.rounds ≡ 0) ⊎ ((reach : ℕ) × ((of_side (other side) st).reach ≡ Some reach)) → ⊥
    by (inl z) = omega arith
    by (inr r) =
        let w = version_zero (of_side side st) v U k.alone h in
        let b : r.0 < v = subst (λ (x : Option ℕ). IsAbove v x) r.1 a in
        omega arith

kept_step : (s : Sort) (P : Problem) (B : ℕ) (side : Side) (st : State) (e : Entry) → 1 ≤ B → AreAll quant.Forall (problem_for s side P).prefix → Kept s P side st → Fits s P B st e → Kept s P side (after st e)
kept_step s P B Exists st (added Exists v C m) o a k f = absurd (nothing_new (problem_for s Exists P).prefix s C st.of_exists.newest a f.0.follows k.follows f.1)
kept_step s P B Exists st (added Forall v C m) o a k f = record { alone = k.alone; follows = k.follows; begun = inr (v, refl); unspent = k.unspent }
kept_step s P B Exists st (held Exists v C) o a k f = record { alone = k.alone; follows = k.follows; begun = k.begun; unspent = k.unspent }
kept_step s P B Exists st (held Forall v C) o a k f = record { alone = k.alone; follows = k.follows; begun = inr (v, refl); unspent = k.unspent }
kept_step s P B Exists st (spent Exists v C) o a k f = absurd (nothing_new (problem_for s Exists P).prefix s C st.of_exists.newest a f.0.follows k.follows f.1)
kept_step s P B Exists st (spent Forall v C) o a k f = absurd (never_again s P B Exists st v f.0.attacked o k f.2 f.0.there f.0.above)
kept_step s P B Exists st (too_large x v C n) o a k f = record { alone = k.alone; follows = k.follows; begun = k.begun; unspent = k.unspent }
kept_step s P B Exists st (noted Exists v why) o a k f = record { alone = k.alone; follows = k.follows; begun = k.begun; unspent = k.unspent }
kept_step s P B Exists st (noted Forall v why) o a k f = record { alone = k.alone; follows = k.follows; begun = k.begun; unspent = k.unspent }
kept_step s P B Exists st (won x v) o a k f = record { alone = k.alone; follows = k.follows; begun = k.begun; unspent = k.unspent }
kept_step s P B Exists st (found x S) o a k f = record { alone = k.alone; follows = k.follows; begun = k.begun; unspent = k.unspent }
kept_step s P B Forall st (added Forall v C m) o a k f = absurd (nothing_new (problem_for s Forall P).prefix s C st.of_forall.newest a f.0.follows k.follows f.1)
kept_step s P B Forall st (added Exists v C m) o a k f = record { alone = k.alone; follows = k.follows; begun = inr (v, refl); unspent = k.unspent }
kept_step s P B Forall st (held Exists v C) o a k f = record { alone = k.alone; follows = k.follows; begun = inr (v, refl); unspent = k.unspent }
kept_step s P B Forall st (held Forall v C) o a k f = record { alone = k.alone; follows = k.follows; begun = k.begun; unspent = k.unspent }
kept_step s P B Forall st (spent Forall v C) o a k f = absurd (nothing_new (problem_for s Forall P).prefix s C st.of_forall.newest a f.0.follows k.follows f.1)
kept_step s P B Forall st (spent Exists v C) o a k f = absurd (never_again s P B Forall st v f.0.attacked o k f.2 f.0.there f.0.above)
kept_step s P B Forall st (too_large x v C n) o a k f = record { alone = k.alone; follows = k.follows; begun = k.begun; unspent = k.unspent }
kept_step s P B Forall st (noted Exists v why) o a k f = record { alone = k.alone; follows = k.follows; begun = k.begun; unspent = k.unspent }
kept_step s P B Forall st (noted Forall v why) o a k f = record { alone = k.alone; follows = k.follows; begun = k.begun; unspent = k.unspent }
kept_step s P B Forall st (won x v) o a k f = record { alone = k.alone; follows = k.follows; begun = k.begun; unspent = k.unspent }
kept_step s P B Forall st (found x S) o a k f = record { alone = k.alone; follows = k.follows; begun = k.begun; unspent = k.unspent }

kept_on : (s : Sort) (P : Problem) (B : ℕ) (side : Side) (st : State) (H : List Entry) → 1 ≤ B → AreAll quant.Forall (problem_for s side P).prefix → Kept s P side st → LegalFrom s P B st H → Kept s P side (replay_from st H)
kept_on s P B side st [] o a k l = k
kept_on s P B side st (e ∷ es) o a k l = kept_on s P B side (after st e) es o a (kept_step s P B side st e o a k l.1) l.2

at_first : (s : Sort) (P : Problem) (side : Side) → Kept s P side (begin s P)
at_first s P Exists = record { alone = refl; follows = zero_follows (problem_for s Exists P).prefix s 0; begun = inl refl; unspent = refl }
at_first s P Forall = record { alone = refl; follows = zero_follows (problem_for s Forall P).prefix s 0; begun = inl refl; unspent = refl }

-- the side without variables
abbrev idle_side : Quant → Side
idle_side quant.Exists = Forall
idle_side quant.Forall = Exists

pub flipped_all : (qs : List Quant) → AreAll quant.Exists qs → AreAll quant.Forall (flip_all qs)
flipped_all [] a = tt
flipped_all (quant.Exists ∷ qs) a = (refl, flipped_all qs a.1)
flipped_all (quant.Forall ∷ qs) a = absurd (let e = a.0 in cc)

is_idle : (s : Sort) (P : Problem) (q : Quant) → AreAll q P.prefix → AreAll quant.Forall (problem_for s (idle_side q) P).prefix
is_idle s P quant.Exists a = flipped_all P.prefix a
is_idle s P quant.Forall a = a

all_of_one : (s : Sort) (P : Problem) (B : ℕ) (q : Quant) → AreAll q P.prefix → 1 ≤ B → Unspent s P B
all_of_one s P B q a o H l =
    let side = idle_side q in
    (kept_on s P B side (begin s P) H o (is_idle s P q a) (at_first s P side) l).unspent

-- where all variables belong to one player, a round is enough
pub one_player_rounds : (s : Sort) (P : Problem) → HasOnePlayer P.prefix → OneRoundIsEnough s P
one_player_rounds s P (inl a) B o = never_spent s P B (all_of_one s P B quant.Exists a o)
one_player_rounds s P (inr a) B o = never_spent s P B (all_of_one s P B quant.Forall a o)
