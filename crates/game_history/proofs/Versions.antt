-- All versions of a legal history are skeletons of their side's prefix, and each has the paths of the one before.
use Rattle.std.specs.Prelude.{ℕ, ◌≡◌, Some, List, [], ◌∷◌, ◌++◌, ⊤}
use Rattle.lin_term.specs.declared.Sort.{Sort}
use Rattle.dom_core.specs.declared.Side.{Side}
use Rattle.dom_core.specs.declared.Side.TheVariants.{Exists, Forall}
use Rattle.dom_core.specs.Game.{Problem}
use Rattle.game_tree.specs.Skeleton.{Skeleton, Follows}
use Rattle.game_tree.specs.Among.{EachIs}
use Rattle.game_tree.specs.Union.{union, In}
use Rattle.dom_core.specs.Sides.{problem_for}
use Rattle.game_history.specs.History.{Entry, added, held, spent, too_large, noted, won, found, SideState, State, begin, of_side, after, replay, replay_from, versions, version, add_version}
use Rattle.game_history.specs.Legal.{Fits, LegalFrom, Legal}
use Rattle.game_history.proofs.Lists.{each_push, each_last, each_get}
use Rattle.game_tree.proofs.Unions.{union_follows, union_contains}
use Rattle.game_tree.proofs.Zeros.{zero_follows}

abbrev pub IsTreeOf : Sort → Problem → Side → Skeleton → Type 0
IsTreeOf s P side S = Follows S s (problem_for s side P).prefix 0

-- each skeleton of the list is in the next one
abbrev pub IsChain : List Skeleton → Type 0
IsChain [] = ⊤
IsChain (S ∷ []) = ⊤
IsChain (S ∷ T ∷ rest) = In S T × IsChain (T ∷ rest)

pub chain_push : (xs : List Skeleton) (S T : Skeleton) → IsChain (xs ++ S ∷ []) → In S T → IsChain ((xs ++ S ∷ []) ++ T ∷ [])
chain_push [] S T h i = (i, tt)
chain_push (R ∷ []) S T h i = (h.0, (i, tt))
chain_push (R ∷ Q ∷ xs) S T h i = (h.0, chain_push (Q ∷ xs) S T h.1 i)

pub record AreVersions (s : Sort) (P : Problem) (side : Side) (x : SideState) : Type 0 where
  pub trees : EachIs (IsTreeOf s P side) (versions x)
  pub chain : IsChain (versions x)

one_more : (s : Sort) (P : Problem) (side : Side) (x : SideState) (C : Skeleton) (v : ℕ) → AreVersions s P side x → IsTreeOf s P side C → AreVersions s P side (add_version C v x)
one_more s P side x C v k f = record {
  trees = each_push (IsTreeOf s P side) (versions x) (union x.newest C) k.trees (union_follows x.newest C s (problem_for s side P).prefix 0 (each_last (IsTreeOf s P side) x.older x.newest k.trees) f);
  chain = chain_push x.older x.newest (union x.newest C) k.chain (union_contains x.newest C);
}

pub record BothAre (s : Sort) (P : Problem) (st : State) : Type 0 where
  pub exists : AreVersions s P Exists st.of_exists
  pub forall : AreVersions s P Forall st.of_forall

pub both_step : (s : Sort) (P : Problem) (B : ℕ) (st : State) (e : Entry) → BothAre s P st → Fits s P B st e → BothAre s P (after st e)
both_step s P B st (added Exists v C m) k f = record { exists = one_more s P Exists st.of_exists C v k.exists f.0.follows; forall = k.forall }
both_step s P B st (added Forall v C m) k f = record { exists = k.exists; forall = one_more s P Forall st.of_forall C v k.forall f.0.follows }
both_step s P B st (held Exists v C) k f = record { exists = record { trees = k.exists.trees; chain = k.exists.chain }; forall = k.forall }
both_step s P B st (held Forall v C) k f = record { exists = k.exists; forall = record { trees = k.forall.trees; chain = k.forall.chain } }
both_step s P B st (spent x v C) k f = record { exists = k.exists; forall = k.forall }
both_step s P B st (too_large x v C n) k f = record { exists = k.exists; forall = k.forall }
both_step s P B st (noted Exists v why) k f = record { exists = record { trees = k.exists.trees; chain = k.exists.chain }; forall = k.forall }
both_step s P B st (noted Forall v why) k f = record { exists = k.exists; forall = record { trees = k.forall.trees; chain = k.forall.chain } }
both_step s P B st (won x v) k f = record { exists = k.exists; forall = k.forall }
both_step s P B st (found x S) k f = record { exists = k.exists; forall = k.forall }

pub both_at_first : (s : Sort) (P : Problem) → BothAre s P (begin s P)
both_at_first s P = record {
  exists = record { trees = (zero_follows (problem_for s Exists P).prefix s 0, tt); chain = tt };
  forall = record { trees = (zero_follows (problem_for s Forall P).prefix s 0, tt); chain = tt };
}

both_on : (s : Sort) (P : Problem) (B : ℕ) (st : State) (H : List Entry) → BothAre s P st → LegalFrom s P B st H → BothAre s P (replay_from st H)
both_on s P B st [] k l = k
both_on s P B st (e ∷ es) k l = both_on s P B (after st e) es (both_step s P B st e k l.1) l.2

pub side_versions : (s : Sort) (P : Problem) (side : Side) (st : State) → BothAre s P st → AreVersions s P side (of_side side st)
side_versions s P Exists st k = k.exists
side_versions s P Forall st k = k.forall

pub version_follows : (s : Sort) (P : Problem) (side : Side) (x : SideState) (v : ℕ) (U : Skeleton) → AreVersions s P side x → version x v ≡ Some U → IsTreeOf s P side U
version_follows s P side x v U k h = each_get (IsTreeOf s P side) (versions x) v U k.trees h

-- of a legal history
pub legal_versions : (s : Sort) (P : Problem) (B : ℕ) (H : List Entry) (side : Side) → Legal s P B H → AreVersions s P side (of_side side (replay s P H))
legal_versions s P B H side l = side_versions s P side (replay s P H) (both_on s P B (begin s P) H (both_at_first s P) l)
