-- Where one block is followed by a single last variable of the other player, a budget above twice the count of its terms is not spent.
use Rattle.std.specs.Prelude.{ℕ, zero, suc, ◌+◌, ◌*◌, ◌≤◌, ◌≡◌, ◌⊎◌, false, pos, Option, Some, None, List, [], ◌∷◌, ◌++◌, map, length}
use Rattle.std.proofs.Common.{arith, ap, ◌∙◌, sym, subst, refl, inl, inr, length-append}
use Rattle.lin_term.specs.declared.Sort.{Sort}
use Rattle.lin_term.specs.Move.{Move}
use Rattle.dom_core.specs.declared.Quant.{Quant}
use Rattle.dom_core.specs.declared.Quant.TheVariants as quant
use Rattle.dom_core.specs.declared.Side.{Side}
use Rattle.dom_core.specs.declared.Side.TheVariants.{Exists, Forall}
use Rattle.dom_core.specs.Game.{Problem}
use Rattle.game_tree.specs.Skeleton.{Skeleton, end, theirs, mine, Branches, no_more, branch, paths, branch_paths, zero_tree, Follows, EachFollows}
use Rattle.game_tree.specs.Among.{IsAmong}
use Rattle.game_tree.specs.Union.{union}
use Rattle.dom_core.specs.Pick.{constant_move}
use Rattle.dom_core.specs.Sides.{other, problem_for}
use Rattle.term_select.specs.Selected.{Selected}
use Rattle.game_history.specs.History.{Entry, added, held, spent, too_large, noted, won, found, SideState, State, begin, first_state, of_side, after, replay_from, version, versions, add_version, reach_to}
use Rattle.game_history.specs.Legal.{HasNewPath, IsAbove, Fits, LegalFrom}
use Rattle.round_bounds.specs.Terms.{HasTerms}
use Rattle.round_bounds.specs.Bounds.{AreAll}
use Rattle.round_bounds.proofs.Unspent.{Unspent}
use Rattle.game_history.proofs.Lists.{get_below, Without, taken_out}
use Rattle.game_tree.proofs.Unions.{among_each, union_contains, union_adds, union_follows}
use Rattle.game_tree.proofs.Zeros.{zero_follows}
use Rattle.game_history.proofs.Versions.{IsTreeOf, BothAre, both_step, both_at_first, version_follows}

abbrev Path : Type 0
Path = List (Option Move)

-- the path with this move behind n variables of the other player
abbrev pub ends : ℕ → Move → Path
ends zero m = Some m ∷ []
ends (suc n) m = None ∷ ends n m

abbrev pub zero_move : Move
zero_move = constant_move (pos 0)

-- a path with its last move
record EndsIn (n : ℕ) (p : Path) : Type 0 where
  move : Move
  is : p ≡ ends n move

one_move : (m : Move) (S : Skeleton) (s : Sort) (k : ℕ) (p : Path) → Follows S s [] k → IsAmong p (map (λ path. Some m ∷ path) (paths S)) → p ≡ Some m ∷ []
one_move m end s k p f (inl h) = h
one_move m end s k p f (inr h) = absurd h
one_move m (theirs S) s k p f h = absurd f
one_move m (mine bs) s k p f h = absurd f

branch_ends : (bs : Branches) (s : Sort) (k : ℕ) (p : Path) → EachFollows bs s [] k → IsAmong p (branch_paths bs) → EndsIn zero p
branch_ends no_more s k p f h = absurd h
branch_ends (branch m S bs) s k p f h =
    among_each p (map (λ path. Some m ∷ path) (paths S)) (branch_paths bs) (EndsIn zero p)
    (λ a. record { move = m; is = one_move m S s (suc k) p f.2 a })
    (λ a. branch_ends bs s k p f.3 a) h

behind_none : (ps : List Path) (n : ℕ) (p : Path) → ((q : Path) → IsAmong q ps → EndsIn n q) → IsAmong p (map (λ path. None ∷ path) ps) → EndsIn (suc n) p
behind_none [] n p k h = absurd h
behind_none (q ∷ ps) n p k (inl h) = let e = k q (inl refl) in record { move = e.move; is = h ∙ ap (λ (t : Path). None ∷ t) e.is }
behind_none (q ∷ ps) n p k (inr h) = behind_none ps n p (λ t a. k t (inr a)) h

-- each path of a skeleton with one last variable
last_path : (block : List Quant) (s : Sort) (S : Skeleton) (k : ℕ) → AreAll quant.Forall block → Follows S s (block ++ quant.Exists ∷ []) k → (p : Path) → IsAmong p (paths S) → EndsIn (length block) p
last_path [] s end k a f p h = absurd f
last_path [] s (theirs S) k a f p h = absurd f
last_path [] s (mine bs) k a f p h = branch_ends bs s k p f.1 h
last_path (quant.Exists ∷ block) s S k a f p h = absurd (let e = a.0 in cc)
last_path (quant.Forall ∷ block) s end k a f p h = absurd f
last_path (quant.Forall ∷ block) s (mine bs) k a f p h = absurd f
last_path (quant.Forall ∷ block) s (theirs S) k a f p h = behind_none (paths S) (length block) p (last_path block s S (suc k) a.1 f) h

zero_last : (block : List Quant) → AreAll quant.Forall block → IsAmong (ends (length block) zero_move) (paths (zero_tree (block ++ quant.Exists ∷ [])))
zero_last [] a = inl refl
zero_last (quant.Exists ∷ block) a = absurd (let e = a.0 in cc)
zero_last (quant.Forall ∷ block) a = first (paths (zero_tree (block ++ quant.Exists ∷ []))) (zero_last block a.1)
  where
    first : (ps : List Path) → IsAmong (ends (length block) zero_move) ps → IsAmong (None ∷ ends (length block) zero_move) (map (λ path. None ∷ path) ps)
    first [] h = absurd h
    first (q ∷ ps) (inl h) = inl (ap (λ (t : Path). None ∷ t) h)
    first (q ∷ ps) (inr h) = inr (first ps h)

-- ---- counting

-- 1 above the reach
abbrev next : Option ℕ → ℕ
next None = 0
next (Some v) = suc v

above_next : (v : ℕ) (reach : Option ℕ) → IsAbove v reach → next reach ≤ v
above_next v None a = omega arith
above_next v (Some r) a = omega arith

-- own is the of_side of the player of the last variable, n its position, T the terms
record Few (s : Sort) (qs : List Quant) (T : List Move) (n : ℕ) (own rival : SideState) (rounds : ℕ) : Type 0 where
  follows : Follows own.newest s qs 0
  has_zero : IsAmong (ends n zero_move) (paths own.newest)
  left : List Move
  covers : (t : Move) → IsAmong t T → IsAmong t left ⊎ IsAmong (ends n t) (paths own.newest)
  few : length own.older + length left ≤ length T
  tally : rounds ≡ length rival.older + length own.older
  climbs : length rival.older ≤ next rival.reach
  low : next rival.reach ≤ suc (length own.older)

-- the last moves of a counter are terms, or 0
abbrev ArePicked : List Move → ℕ → Skeleton → Type 0
ArePicked T n C = (m : Move) → IsAmong (ends n m) (paths C) → (m ≡ zero_move) ⊎ IsAmong m T

-- a new path ends in a term that is left
new_left : (s : Sort) (qs : List Quant) (T : List Move) (n : ℕ) (own rival : SideState) (rounds : ℕ) (C : Skeleton) (k : Few s qs T n own rival rounds) → ArePicked T n C → (h : HasNewPath C own.newest) (e : EndsIn n h.path) → IsAmong e.move k.left
new_left s qs T n own rival rounds C k a h e = by (a e.move (subst (λ (t : Path). IsAmong t (paths C)) e.is h.own))
  where
    is_new : IsAmong (ends n e.move) (paths own.newest) → ⊥
    is_new i = h.new (subst (λ (t : Path). IsAmong t (paths own.newest)) (sym e.is) i)

    still : IsAmong e.move k.left ⊎ IsAmong (ends n e.move) (paths own.newest) → IsAmong e.move k.left
    still (inl i) = i
    still (inr i) = absurd (is_new i)

    by : (e.move ≡ zero_move) ⊎ IsAmong e.move T → IsAmong e.move k.left
    by (inl z) = absurd (is_new (subst (λ (m : Move). IsAmong (ends n m) (paths own.newest)) (sym z) k.has_zero))
    by (inr i) = still (k.covers e.move i)

own_adds : (s : Sort) (qs : List Quant) (T : List Move) (n : ℕ) (own rival : SideState) (rounds v : ℕ) (C : Skeleton) → Few s qs T n own rival rounds → Follows C s qs 0 → ArePicked T n C → (h : HasNewPath C own.newest) → EndsIn n h.path → Few s qs T n (add_version C v own) rival (suc rounds)
own_adds s qs T n own rival rounds v C k f a h e =
    let w = taken_out e.move k.left (new_left s qs T n own rival rounds C k a h e) in
    let l = length-append own.older (own.newest ∷ []) in
    let i = k.few in
    let j = w.one in
    let t = k.tally in
    let o = k.low in
    record {
      follows = union_follows own.newest C s qs 0 k.follows f;
      has_zero = union_contains own.newest C (ends n zero_move) k.has_zero;
      left = w.rest;
      covers = λ m x. by m w (k.covers m x);
      few = omega arith;
      tally = omega arith;
      climbs = k.climbs;
      low = omega arith;
    }
  where
    in_union : IsAmong (ends n e.move) (paths (union own.newest C))
    in_union = union_adds own.newest C s qs 0 k.follows f (ends n e.move) (subst (λ (t : Path). IsAmong t (paths C)) e.is h.own)

    split : (m : Move) (w : Without e.move k.left) → (m ≡ e.move) ⊎ IsAmong m w.rest → IsAmong m w.rest ⊎ IsAmong (ends n m) (paths (union own.newest C))
    split m w (inl y) = inr (subst (λ (x : Move). IsAmong (ends n x) (paths (union own.newest C))) (sym y) in_union)
    split m w (inr y) = inl y

    by : (m : Move) (w : Without e.move k.left) → IsAmong m k.left ⊎ IsAmong (ends n m) (paths own.newest) → IsAmong m w.rest ⊎ IsAmong (ends n m) (paths (union own.newest C))
    by m w (inl x) = split m w (w.others m x)
    by m w (inr x) = inr (union_contains own.newest C (ends n m) x)

own_spends : (s : Sort) (qs : List Quant) (T : List Move) (n : ℕ) (own rival : SideState) (rounds B : ℕ) (C : Skeleton) → Few s qs T n own rival rounds → ArePicked T n C → (h : HasNewPath C own.newest) → EndsIn n h.path → rounds ≡ B → 2 * length T + 1 ≤ B → ⊥
own_spends s qs T n own rival rounds B C k a h e r b =
    let w = taken_out e.move k.left (new_left s qs T n own rival rounds C k a h e) in
    let i = k.few in
    let j = w.one in
    let t = k.tally in
    let c = k.climbs in
    let o = k.low in
    omega arith

rival_adds : (s : Sort) (qs : List Quant) (T : List Move) (n : ℕ) (own rival : SideState) (rounds v : ℕ) (C U : Skeleton) → Few s qs T n own rival rounds → version own v ≡ Some U → IsAbove v rival.reach → Few s qs T n own (add_version C v rival) (suc rounds)
rival_adds s qs T n own rival rounds v C U k h a =
    let l = length-append rival.older (rival.newest ∷ []) in
    let m = length-append own.older (own.newest ∷ []) in
    let b = get_below (versions own) v U h in
    let x = above_next v rival.reach a in
    let c = k.climbs in
    let t = k.tally in
    record {
      follows = k.follows;
      has_zero = k.has_zero;
      left = k.left;
      covers = k.covers;
      few = k.few;
      tally = omega arith;
      climbs = omega arith;
      low = omega arith;
    }

rival_holds : (s : Sort) (qs : List Quant) (T : List Move) (n : ℕ) (own rival : SideState) (rounds v : ℕ) (U : Skeleton) → Few s qs T n own rival rounds → version own v ≡ Some U → IsAbove v rival.reach → Few s qs T n own (reach_to v rival) rounds
rival_holds s qs T n own rival rounds v U k h a =
    let m = length-append own.older (own.newest ∷ []) in
    let b = get_below (versions own) v U h in
    let x = above_next v rival.reach a in
    let c = k.climbs in
    record {
      follows = k.follows;
      has_zero = k.has_zero;
      left = k.left;
      covers = k.covers;
      few = k.few;
      tally = k.tally;
      climbs = omega arith;
      low = omega arith;
    }

rival_spends : (s : Sort) (qs : List Quant) (T : List Move) (n : ℕ) (own rival : SideState) (rounds B v : ℕ) (U : Skeleton) → Few s qs T n own rival rounds → version own v ≡ Some U → IsAbove v rival.reach → rounds ≡ B → 2 * length T + 1 ≤ B → ⊥
rival_spends s qs T n own rival rounds B v U k h a r b =
    let m = length-append own.older (own.newest ∷ []) in
    let g = get_below (versions own) v U h in
    let x = above_next v rival.reach a in
    let c = k.climbs in
    let t = k.tally in
    let i = k.few in
    omega arith

-- ---- a legal history, entry by entry

-- what is selected for the side ends in 0 or in a term
abbrev pub Picks : Sort → Problem → Side → List Move → ℕ → Type 0
Picks s P side T n = (U C : Skeleton) → IsTreeOf s P (other side) U → Selected s (problem_for s side P) U C → ArePicked T n C

record Running (s : Sort) (P : Problem) (side : Side) (T : List Move) (n : ℕ) (st : State) : Type 0 where
  few : Few s (problem_for s side P).prefix T n (of_side side st) (of_side (other side) st) st.rounds
  both : BothAre s P st
  unspent : st.is_spent ≡ false

record Given (s : Sort) (P : Problem) (side : Side) (T : List Move) (n B : ℕ) : Type 0 where
  picks : Picks s P side T n
  ends_in : (S : Skeleton) (p : Path) → IsTreeOf s P side S → IsAmong p (paths S) → EndsIn n p
  rounds : 2 * length T + 1 ≤ B

few_after : (s : Sort) (P : Problem) (side : Side) (T : List Move) (n B : ℕ) (st : State) (e : Entry) → Given s P side T n B → Running s P side T n st → Fits s P B st e → Few s (problem_for s side P).prefix T n (of_side side (after st e)) (of_side (other side) (after st e)) (after st e).rounds
few_after s P Exists T n B st (added Exists v C m) g k f =
    own_adds s (problem_for s Exists P).prefix T n st.of_exists st.of_forall st.rounds v C k.few f.0.follows
    (g.picks f.0.attacked C (version_follows s P Forall st.of_forall v f.0.attacked k.both.forall f.0.there) f.0.selected) f.1 (g.ends_in C f.1.path f.0.follows f.1.own)
few_after s P Exists T n B st (added Forall v C m) g k f = rival_adds s (problem_for s Exists P).prefix T n st.of_exists st.of_forall st.rounds v C f.0.attacked k.few f.0.there f.0.above
few_after s P Exists T n B st (held Exists v C) g k f = record { follows = k.few.follows; has_zero = k.few.has_zero; left = k.few.left; covers = k.few.covers; few = k.few.few; tally = k.few.tally; climbs = k.few.climbs; low = k.few.low }
few_after s P Exists T n B st (held Forall v C) g k f = rival_holds s (problem_for s Exists P).prefix T n st.of_exists st.of_forall st.rounds v f.0.attacked k.few f.0.there f.0.above
few_after s P Exists T n B st (spent x v C) g k f = k.few
few_after s P Exists T n B st (too_large x v C z) g k f = k.few
few_after s P Exists T n B st (noted Exists v why) g k f = record { follows = k.few.follows; has_zero = k.few.has_zero; left = k.few.left; covers = k.few.covers; few = k.few.few; tally = k.few.tally; climbs = k.few.climbs; low = k.few.low }
few_after s P Exists T n B st (noted Forall v why) g k f = record { follows = k.few.follows; has_zero = k.few.has_zero; left = k.few.left; covers = k.few.covers; few = k.few.few; tally = k.few.tally; climbs = k.few.climbs; low = k.few.low }
few_after s P Exists T n B st (won x v) g k f = k.few
few_after s P Exists T n B st (found x S) g k f = k.few
few_after s P Forall T n B st (added Forall v C m) g k f =
    own_adds s (problem_for s Forall P).prefix T n st.of_forall st.of_exists st.rounds v C k.few f.0.follows
    (g.picks f.0.attacked C (version_follows s P Exists st.of_exists v f.0.attacked k.both.exists f.0.there) f.0.selected) f.1 (g.ends_in C f.1.path f.0.follows f.1.own)
few_after s P Forall T n B st (added Exists v C m) g k f = rival_adds s (problem_for s Forall P).prefix T n st.of_forall st.of_exists st.rounds v C f.0.attacked k.few f.0.there f.0.above
few_after s P Forall T n B st (held Forall v C) g k f = record { follows = k.few.follows; has_zero = k.few.has_zero; left = k.few.left; covers = k.few.covers; few = k.few.few; tally = k.few.tally; climbs = k.few.climbs; low = k.few.low }
few_after s P Forall T n B st (held Exists v C) g k f = rival_holds s (problem_for s Forall P).prefix T n st.of_forall st.of_exists st.rounds v f.0.attacked k.few f.0.there f.0.above
few_after s P Forall T n B st (spent x v C) g k f = k.few
few_after s P Forall T n B st (too_large x v C z) g k f = k.few
few_after s P Forall T n B st (noted Exists v why) g k f = record { follows = k.few.follows; has_zero = k.few.has_zero; left = k.few.left; covers = k.few.covers; few = k.few.few; tally = k.few.tally; climbs = k.few.climbs; low = k.few.low }
few_after s P Forall T n B st (noted Forall v why) g k f = record { follows = k.few.follows; has_zero = k.few.has_zero; left = k.few.left; covers = k.few.covers; few = k.few.few; tally = k.few.tally; climbs = k.few.climbs; low = k.few.low }
few_after s P Forall T n B st (won x v) g k f = k.few
few_after s P Forall T n B st (found x S) g k f = k.few

not_spent : (s : Sort) (P : Problem) (side x : Side) (T : List Move) (n B : ℕ) (st : State) (v : ℕ) (C : Skeleton) → Given s P side T n B → Running s P side T n st → Fits s P B st (spent x v C) → ⊥
not_spent s P Exists Exists T n B st v C g k f =
    own_spends s (problem_for s Exists P).prefix T n st.of_exists st.of_forall st.rounds B C k.few
    (g.picks f.0.attacked C (version_follows s P Forall st.of_forall v f.0.attacked k.both.forall f.0.there) f.0.selected) f.1 (g.ends_in C f.1.path f.0.follows f.1.own) f.2 g.rounds
not_spent s P Exists Forall T n B st v C g k f = rival_spends s (problem_for s Exists P).prefix T n st.of_exists st.of_forall st.rounds B v f.0.attacked k.few f.0.there f.0.above f.2 g.rounds
not_spent s P Forall Forall T n B st v C g k f =
    own_spends s (problem_for s Forall P).prefix T n st.of_forall st.of_exists st.rounds B C k.few
    (g.picks f.0.attacked C (version_follows s P Exists st.of_exists v f.0.attacked k.both.exists f.0.there) f.0.selected) f.1 (g.ends_in C f.1.path f.0.follows f.1.own) f.2 g.rounds
not_spent s P Forall Exists T n B st v C g k f = rival_spends s (problem_for s Forall P).prefix T n st.of_forall st.of_exists st.rounds B v f.0.attacked k.few f.0.there f.0.above f.2 g.rounds

unspent_after : (s : Sort) (P : Problem) (side : Side) (T : List Move) (n B : ℕ) (st : State) (e : Entry) → Given s P side T n B → Running s P side T n st → Fits s P B st e → (after st e).is_spent ≡ false
unspent_after s P side T n B st (added Exists v C m) g k f = k.unspent
unspent_after s P side T n B st (added Forall v C m) g k f = k.unspent
unspent_after s P side T n B st (held Exists v C) g k f = k.unspent
unspent_after s P side T n B st (held Forall v C) g k f = k.unspent
unspent_after s P side T n B st (spent x v C) g k f = absurd (not_spent s P side x T n B st v C g k f)
unspent_after s P side T n B st (too_large x v C z) g k f = k.unspent
unspent_after s P side T n B st (noted Exists v why) g k f = k.unspent
unspent_after s P side T n B st (noted Forall v why) g k f = k.unspent
unspent_after s P side T n B st (won x v) g k f = k.unspent
unspent_after s P side T n B st (found x S) g k f = k.unspent

running_on : (s : Sort) (P : Problem) (side : Side) (T : List Move) (n B : ℕ) (st : State) (H : List Entry) → Given s P side T n B → Running s P side T n st → LegalFrom s P B st H → Running s P side T n (replay_from st H)
running_on s P side T n B st [] g k l = k
running_on s P side T n B st (e ∷ es) g k l =
    running_on s P side T n B (after st e) es g
    (record { few = few_after s P side T n B st e g k l.1; both = both_step s P B st e k.both l.1; unspent = unspent_after s P side T n B st e g k l.1 }) l.2

few_at_first : (s : Sort) (P : Problem) (side : Side) (block : List Quant) (T : List Move) → AreAll quant.Forall block → (problem_for s side P).prefix ≡ block ++ quant.Exists ∷ [] → Few s (problem_for s side P).prefix T (length block) (first_state (problem_for s side P)) (first_state (problem_for s (other side) P)) 0
few_at_first s P side block T a e = record {
  follows = zero_follows (problem_for s side P).prefix s 0;
  has_zero = subst (λ (qs : List Quant). IsAmong (ends (length block) zero_move) (paths (zero_tree qs))) (sym e) (zero_last block a);
  left = T;
  covers = λ t i. inl i;
  few = omega arith;
  tally = refl;
  climbs = omega arith;
  low = omega arith;
}

running_at_first : (s : Sort) (P : Problem) (side : Side) (block : List Quant) (T : List Move) → AreAll quant.Forall block → (problem_for s side P).prefix ≡ block ++ quant.Exists ∷ [] → Running s P side T (length block) (begin s P)
running_at_first s P Exists block T a e = record { few = few_at_first s P Exists block T a e; both = both_at_first s P; unspent = refl }
running_at_first s P Forall block T a e = record { few = few_at_first s P Forall block T a e; both = both_at_first s P; unspent = refl }

-- in the side's own game one block of the other player, then its last variable; T has each move that can be selected for it, and
-- there are more rounds than twice as many
pub record EndsWith (s : Sort) (P : Problem) (B : ℕ) (side : Side) : Type 0 where
  pub block : List Quant
  pub theirs_all : AreAll quant.Forall block
  pub prefix : (problem_for s side P).prefix ≡ block ++ quant.Exists ∷ []
  pub terms : List Move
  pub every : HasTerms s (problem_for s side P) (length block) terms
  pub rounds : 2 * length terms + 1 ≤ B

-- where what is selected ends in terms
pub last_variable_unspent : (s : Sort) (P : Problem) (B : ℕ) (side : Side) (h : EndsWith s P B side) → Picks s P side h.terms (length h.block) → Unspent s P B
last_variable_unspent s P B side h picks H l =
    let g : Given s P side h.terms (length h.block) B = record {
      picks = picks;
      ends_in = λ S p f i. last_path h.block s S 0 h.theirs_all (subst (λ (qs : List Quant). Follows S s qs 0) h.prefix f) p i;
      rounds = h.rounds;
    } in
    (running_on s P side h.terms (length h.block) B (begin s P) H g (running_at_first s P side h.block h.terms h.theirs_all h.prefix) l).unspent
