-- Of the versions of a legal history each has every path of those before it, and few nodes; the reach names one that is beaten.
use Rattle.std.specs.Prelude.{ℕ, zero, suc, ◌≤◌, ◌≡◌, Some, slice_get, List, [], ◌∷◌, length}
use Rattle.std.proofs.Common.{arith, ◌∙◌, sym, subst}
use Rattle.lin_term.specs.declared.Sort.{Sort}
use Rattle.dom_core.specs.declared.Quant.{Quant}
use Rattle.dom_core.specs.declared.Side.{Side}
use Rattle.dom_core.specs.declared.Side.TheVariants.{Exists, Forall}
use Rattle.dom_core.specs.Game.{Problem, flip_all}
use Rattle.dom_core.specs.Sides.{other, problem_for}
use Rattle.dom_core.proofs.Duals.{length-flip}
use Rattle.game_tree.specs.Skeleton.{Skeleton, nodes, node_limit, zero_tree}
use Rattle.game_tree.proofs.Zeros.{zero_nodes}
use Rattle.game_play.specs.Beats.{Beats}
use Rattle.game_tree.specs.Among.{EachIs}
use Rattle.game_tree.specs.Union.{In}
use Rattle.game_history.specs.History.{Entry, added, held, spent, too_large, noted, won, found, SideState, State, begin, of_side, after, replay, replay_from, versions, version}
use Rattle.game_history.specs.Legal.{Fits, LegalFrom, Legal}
use Rattle.game_history.proofs.Lists.{each_push, each_get}
use Rattle.game_history.proofs.Versions.{IsChain, legal_versions}
use Rattle.game_history.proofs.Blocked.{Reaches, BothReach, reach_on, reach_at_first}

-- ---- each is in the later ones

same_some : (S T : Skeleton) → Some S ≡ Some T → S ≡ T
same_some S T e = cc

chain_from : (S : Skeleton) (xs : List Skeleton) (w : ℕ) (T : Skeleton) → IsChain (S ∷ xs) → slice_get (S ∷ xs) w ≡ Some T → In S T
chain_from S xs zero T c e = subst (λ (U : Skeleton). In S U) (same_some S T e) (λ p h. h)
chain_from S [] (suc w) T c e = absurd (cc)
chain_from S (R ∷ xs) (suc w) T c e = λ p h. chain_from R xs w T c.1 e p (c.0 p h)

chain_tail : (S : Skeleton) (xs : List Skeleton) → IsChain (S ∷ xs) → IsChain xs
chain_tail S [] c = tt
chain_tail S (R ∷ xs) c = c.1

pub chain_get : (xs : List Skeleton) (v w : ℕ) (S T : Skeleton) → IsChain xs → v ≤ w → slice_get xs v ≡ Some S → slice_get xs w ≡ Some T → In S T
chain_get [] v w S T c l a b = absurd (cc)
chain_get (R ∷ xs) zero w S T c l a b = subst (λ (U : Skeleton). In U T) (same_some R S a) (chain_from R xs w T c b)
chain_get (R ∷ xs) (suc v) zero S T c l a b = absurd (omega (arith, l))
chain_get (R ∷ xs) (suc v) (suc w) S T c l a b = chain_get xs v w S T (chain_tail R xs c) (omega (arith, l)) a b

pub later_has : (s : Sort) (P : Problem) (B : ℕ) (H : List Entry) (side : Side) (v w : ℕ) (S T : Skeleton) → Legal s P B H → v ≤ w → version (of_side side (replay s P H)) v ≡ Some S → version (of_side side (replay s P H)) w ≡ Some T → In S T
later_has s P B H side v w S T l h a b = chain_get (versions (of_side side (replay s P H))) v w S T (legal_versions s P B H side l).chain h a b

-- ---- few nodes

abbrev AreFew : SideState → Type 0
AreFew x = EachIs (λ S. nodes S ≤ node_limit) (versions x)

record BothFew (st : State) : Type 0 where
  exists : AreFew st.of_exists
  forall : AreFew st.of_forall

few_step : (s : Sort) (P : Problem) (B : ℕ) (st : State) (e : Entry) → BothFew st → Fits s P B st e → BothFew (after st e)
few_step s P B st (added Exists v C m) k f = record { exists = each_push (λ S. nodes S ≤ node_limit) (versions st.of_exists) _ k.exists f.3; forall = k.forall }
few_step s P B st (added Forall v C m) k f = record { exists = k.exists; forall = each_push (λ S. nodes S ≤ node_limit) (versions st.of_forall) _ k.forall f.3 }
few_step s P B st (held Exists v C) k f = record { exists = k.exists; forall = k.forall }
few_step s P B st (held Forall v C) k f = record { exists = k.exists; forall = k.forall }
few_step s P B st (spent x v C) k f = record { exists = k.exists; forall = k.forall }
few_step s P B st (too_large x v C n) k f = record { exists = k.exists; forall = k.forall }
few_step s P B st (noted Exists v why) k f = record { exists = k.exists; forall = k.forall }
few_step s P B st (noted Forall v why) k f = record { exists = k.exists; forall = k.forall }
few_step s P B st (won x v) k f = record { exists = k.exists; forall = k.forall }
few_step s P B st (found x S) k f = record { exists = k.exists; forall = k.forall }

few_on : (s : Sort) (P : Problem) (B : ℕ) (st : State) (H : List Entry) → BothFew st → LegalFrom s P B st H → BothFew (replay_from st H)
few_on s P B st [] k l = k
few_on s P B st (e ∷ es) k l = few_on s P B (after st e) es (few_step s P B st e k l.1) l.2

zero_few : (qs : List Quant) → length qs ≤ 1024 → nodes (zero_tree qs) ≤ node_limit
zero_few qs h = let n = zero_nodes qs in omega arith

few_side : (side : Side) (st : State) → BothFew st → AreFew (of_side side st)
few_side Exists st k = k.exists
few_side Forall st k = k.forall

pub few_nodes : (s : Sort) (P : Problem) (B : ℕ) (H : List Entry) (side : Side) (v : ℕ) (S : Skeleton) → length P.prefix ≤ 1024 → Legal s P B H → version (of_side side (replay s P H)) v ≡ Some S → nodes S ≤ node_limit
few_nodes s P B H side v S n l e =
    let at_first : BothFew (begin s P) = record { exists = (zero_few P.prefix n, tt); forall = (zero_few (flip_all P.prefix) (let f = length-flip P.prefix in omega arith), tt) } in
    each_get (λ S. nodes S ≤ node_limit) (versions (of_side side (replay s P H))) v S (few_side side (replay s P H) (few_on s P B (begin s P) H at_first l)) e

-- ---- the reach

reach_side : (s : Sort) (P : Problem) (side : Side) (st : State) → BothReach s P st → Reaches s P side (of_side side st) (of_side (other side) st)
reach_side s P Exists st k = k.exists
reach_side s P Forall st k = k.forall

pub reach_beats : (s : Sort) (P : Problem) (B : ℕ) (H : List Entry) (side : Side) (v : ℕ) (U : Skeleton) → Legal s P B H → (of_side side (replay s P H)).reach ≡ Some v → version (of_side (other side) (replay s P H)) v ≡ Some U → Beats s (problem_for s side P) (of_side side (replay s P H)).newest U
reach_beats s P B H side v U l e t =
    let k = reach_side s P side (replay s P H) (reach_on s P B (begin s P) H (reach_at_first s P) l) v e in
    subst (λ (T : Skeleton). Beats s (problem_for s side P) (of_side side (replay s P H)).newest T) (same_some k.tree U (sym k.there ∙ t)) k.beats
