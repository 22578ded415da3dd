-- What the rounds and the newest version of Exists are after a history.
use Rattle.std.specs.Prelude.{ℕ, zero, suc, ◌+◌, ◌<◌, ◌≤◌, ◌≡◌, Some, slice_get, List, [], ◌∷◌, ◌++◌, length, replicate, take, get_or}
use Rattle.std.proofs.Common.{arith, ap, ◌∙◌, sym, subst, refl, append_assoc}
use Rattle.std.proofs.lemmas.List.{append-nil}
use Rattle.lin_term.specs.declared.Sort.TheVariants.{Rat}
use Rattle.dom_core.specs.declared.Quant.{Quant}
use Rattle.dom_core.specs.declared.Quant.TheVariants as quant
use Rattle.dom_core.specs.declared.Side.TheVariants.{Exists, Forall}
use Rattle.game_tree.specs.Skeleton.{Skeleton, Follows, nodes, node_limit, zero_tree}
use Rattle.game_tree.specs.Union.{union_all}
use Rattle.game_tree.specs.View.{skeleton_of}
use Rattle.game_tree.specs.Written.{FollowsPrefix}
use Rattle.game_tree.specs.declared.Tree.{Tree}
use Rattle.game_history.specs.History.{Entry, added, held, spent, too_large, noted, won, found, SideState, State, begin, after, replay, replay_from}
use Rattle.game_history.specs.Legal.{Legal}
use Rattle.game_history.proofs.Lists.{each_last}
use Rattle.game_history.proofs.Versions.{IsTreeOf, legal_versions}
use Rattle.game_history.proofs.Chains.{few_nodes}
use Rattle.game_board.specs.declared.Entry.{Entry as Written}
use Rattle.game_board.specs.Entries.{entry_of, entries_of}
use Rattle.solve_texts.specs.Generated.{generated}
use Rattle.solve_texts.specs.Tally.{added_by, added_in, paths_by, paths_in}
use Rattle.solve_texts.proofs.Making.{short_prefix}

next_is : (i : ℕ) → suc i + 1 ≡ suc (i + 1)
next_is i = omega arith

-- ---- the rounds

added_more : {D : Type 0} → (es : List (Written D)) (i : ℕ) (e : Written D) → i < length es → e ≡ get_or es i e → added_in (entries_of (take (i + 1) es)) ≡ added_in (entries_of (take i es)) + added_by (entry_of e)
added_more {D} [] i e l q = absurd (omega (arith, l))
added_more {D} (x ∷ es) zero e l q = ap (λ (y : Written D). added_by (entry_of y) + 0) (sym q) ∙ (let n : added_by (entry_of e) + 0 ≡ 0 + added_by (entry_of e) = omega arith in n)
added_more {D} (x ∷ es) (suc i) e l q =
    let h = added_more es i e (omega (arith, l)) q in
    ap (λ j. added_in (entries_of (take j (x ∷ es)))) (next_is i) ∙ (let n : added_by (entry_of x) + added_in (entries_of (take (i + 1) es)) ≡ (added_by (entry_of x) + added_in (entries_of (take i es))) + added_by (entry_of e) = omega (arith, h) in n)

same_rounds : (n : ℕ) → n ≡ n + 0
same_rounds n = omega arith

one_more : (n : ℕ) → suc n ≡ n + 1
one_more n = omega arith

rounds_step : (st : State) (e : Entry) → (after st e).rounds ≡ st.rounds + added_by e
rounds_step st (added Exists v C m) = one_more st.rounds
rounds_step st (added Forall v C m) = one_more st.rounds
rounds_step st (held Exists v C) = same_rounds st.rounds
rounds_step st (held Forall v C) = same_rounds st.rounds
rounds_step st (spent x v C) = same_rounds st.rounds
rounds_step st (too_large x v C n) = same_rounds st.rounds
rounds_step st (noted Exists v y) = same_rounds st.rounds
rounds_step st (noted Forall v y) = same_rounds st.rounds
rounds_step st (won x v) = same_rounds st.rounds
rounds_step st (found x S) = same_rounds st.rounds

rounds_from : (st : State) (H : List Entry) → (replay_from st H).rounds ≡ st.rounds + added_in H
rounds_from st [] = same_rounds st.rounds
rounds_from st (e ∷ H) =
    let a = rounds_from (after st e) H in
    let b = rounds_step st e in
    omega (arith, a, b)

pub rounds_are : (n : ℕ) (H : List Entry) → (replay Rat (generated n) H).rounds ≡ added_in H
rounds_are n H = let e = rounds_from (begin Rat (generated n)) H in omega (arith, e)

-- of one entry more
pub rounds_more : {D : Type 0} → (es : List (Written D)) (i r k now : ℕ) (e : Written D) → i < length es → e ≡ get_or es i e → r ≡ added_in (entries_of (take i es)) → k ≡ added_by (entry_of e) → now ≡ r + k → now ≡ added_in (entries_of (take (i + 1) es))
rounds_more {D} es i r k now e l q h a n =
    let m = added_more es i e l q in
    omega (arith, h, a, n, m)

-- ---- the newest version of Exists

newest_step : (st : State) (e : Entry) (Ts : List Skeleton) → union_all (after st e).of_exists.newest Ts ≡ union_all st.of_exists.newest (paths_by e ++ Ts)
newest_step st (added Exists v C m) Ts = refl
newest_step st (added Forall v C m) Ts = refl
newest_step st (held Exists v C) Ts = refl
newest_step st (held Forall v C) Ts = refl
newest_step st (spent x v C) Ts = refl
newest_step st (too_large x v C n) Ts = refl
newest_step st (noted Exists v y) Ts = refl
newest_step st (noted Forall v y) Ts = refl
newest_step st (won x v) Ts = refl
newest_step st (found x S) Ts = refl

newest_from : (st : State) (H : List Entry) → (replay_from st H).of_exists.newest ≡ union_all st.of_exists.newest (paths_in H)
newest_from st [] = refl
newest_from st (e ∷ H) = newest_from (after st e) H ∙ newest_step st e (paths_in H)

paths_after : {D : Type 0} → (es : List (Written D)) (i : ℕ) (e : Written D) → i < length es → e ≡ get_or es i e → paths_in (entries_of (take (i + 1) es)) ≡ paths_in (entries_of (take i es)) ++ paths_by (entry_of e)
paths_after {D} [] i e l q = absurd (omega (arith, l))
paths_after {D} (x ∷ es) zero e l q = append-nil (paths_by (entry_of x)) ∙ ap (λ (y : Written D). paths_by (entry_of y)) (sym q)
paths_after {D} (x ∷ es) (suc i) e l q =
    ap (λ j. paths_in (entries_of (take j (x ∷ es)))) (next_is i)
    ∙ ap (λ (y : List Skeleton). paths_by (entry_of x) ++ y) (paths_after es i e (omega (arith, l)) q)
    ∙ sym (append_assoc (paths_by (entry_of x)) (paths_in (entries_of (take i es))) (paths_by (entry_of e)))

-- of one entry more
pub paths_more : {D : Type 0} → (es : List (Written D)) (i : ℕ) (e : Written D) (old now : List Skeleton) → i < length es → e ≡ get_or es i e → old ≡ paths_in (entries_of (take i es)) → now ≡ old ++ paths_by (entry_of e) → now ≡ paths_in (entries_of (take (i + 1) es))
paths_more {D} es i e old now l q h n = n ∙ ap (λ (y : List Skeleton). y ++ paths_by (entry_of e)) h ∙ sym (paths_after es i e l q)

abbrev made_prefix : ℕ → List Quant
made_prefix n = replicate n quant.Forall ++ replicate n quant.Exists

newest_tree_is : (n : ℕ) (H : List Entry) (qs : List Quant) (t : Tree) → qs ≡ made_prefix n → skeleton_of t ≡ union_all (zero_tree qs) (paths_in H) → skeleton_of t ≡ (replay Rat (generated n) H).of_exists.newest
newest_tree_is n H qs t e h = h ∙ ap (λ (ps : List Quant). union_all (zero_tree ps) (paths_in H)) e ∙ sym (newest_from (begin Rat (generated n)) H)

pub newest_is : (n : ℕ) (H : List Entry) (qs : List Quant) (t : Tree) → qs ≡ made_prefix n → skeleton_of t ≡ union_all (zero_tree qs) (paths_in H) → nodes (skeleton_of t) ≡ nodes (replay Rat (generated n) H).of_exists.newest
newest_is n H qs t e h = ap nodes (newest_tree_is n H qs t e h)

get_end : (xs : List Skeleton) (S : Skeleton) → slice_get (xs ++ S ∷ []) (length xs) ≡ Some S
get_end [] S = refl
get_end (x ∷ xs) S = get_end xs S

-- it follows the prefix
pub newest_written : (n B : ℕ) (H : List Entry) (qs : List Quant) (t : Tree) → n ≤ 512 → Legal Rat (generated n) B H → qs ≡ made_prefix n → skeleton_of t ≡ union_all (zero_tree qs) (paths_in H) → FollowsPrefix Rat (record { prefix = qs; tree = t })
newest_written n B H qs t l k e h =
    let x : SideState = (replay Rat (generated n) H).of_exists in
    let is = newest_tree_is n H qs t e h in
    let follows : Follows x.newest Rat (made_prefix n) 0 = each_last (IsTreeOf Rat (generated n) Exists) x.older x.newest (legal_versions Rat (generated n) B H Exists k).trees in
    let few : nodes x.newest ≤ node_limit = few_nodes Rat (generated n) B H Exists (length x.older) x.newest (short_prefix n (made_prefix n) l refl) k (get_end x.older x.newest) in
    let same : nodes (skeleton_of t) ≡ nodes x.newest = ap nodes is in
    record {
      short = short_prefix n qs l e;
      follows = subst (λ (S : Skeleton). Follows S Rat qs 0) (sym is) (subst (λ (ps : List Quant). Follows x.newest Rat ps 0) (sym e) follows);
      countable = omega (arith, few, same);
    }
