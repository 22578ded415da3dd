-- One branch goes below its move, or behind the others.
use Rattle.std.specs.Prelude.{ℕ, zero, suc, ◌+◌, ◌<◌, ◌≡◌, nat_le, Bool, true, false, not, IsTrue, ⊤, if◌then◌else◌, Option, Some, None, List, [], ◌∷◌, ◌++◌, map, length, get_or, set, drop}
use Rattle.std.specs.Option.{option_map}
use Rattle.std.specs.List.{list_all}
use Rattle.std.proofs.Common.{arith, ap, ap₂, ◌∙◌, sym, subst, refl}
use Rattle.std.proofs.lemmas.Bool.{and_parts, le-leb, lt-leb}
use Rattle.std.proofs.lemmas.List.{length-set, length-append, map-set, map-append, set-get_or, set-set, get_or-map}
use Rattle.lin_term.specs.Move.{Move}
use Rattle.lin_term.specs.Same.{same_move}
use Rattle.lin_term.proofs.Comparing.{move_decides}
use Rattle.dom_core.specs.declared.Quant.{Quant}
use Rattle.dom_core.specs.declared.Quant.TheVariants.{Exists, Forall}
use Rattle.game_tree.specs.declared.Tree.{Tree}
use Rattle.game_tree.specs.declared.Branch.{Branch}
use Rattle.game_tree.specs.declared.Tree.TheVariants as trees
use Rattle.game_tree.specs.Skeleton.{Skeleton, end, theirs, mine, Branches, no_more, branch, IsNew}
use Rattle.game_tree.specs.View.{skeleton_of, branches_of}
use Rattle.game_tree.specs.Union.{put_branch, with_paths, with_branches}
use Rattle.game_tree.specs.Gather.{place}
use Rattle.game_tree.proofs.Views.{branches_at, seen_end, seen_theirs, seen_mine, seen_branches}
use Rattle.grown_tree.specs.declared.marks.Mark.{Mark}
use Rattle.grown_tree.specs.declared.node.Node.{Node}
use Rattle.grown_tree.specs.declared.node.Node.TheVariants as variants
use Rattle.grown_tree.specs.Fitting.{Fits, EachFits}
use Rattle.grown_tree.specs.Shown.{visible, shown, all_shown, is_sound, are_sound, terms_of}
use Rattle.grown_tree.proofs.Nodes.{sound_parts, parts_sound, all_at, all_set, all_push, rising_push, shown_mine, shown_end, shown_nil, shown_forall}

-- ---- the branches that the newest version shows

abbrev pub zipped : List Move → List Skeleton → Branches
zipped [] Ss = no_more
zipped (m ∷ ms) [] = no_more
zipped (m ∷ ms) (S ∷ Ss) = branch m S (zipped ms Ss)

all_visible : (v : ℕ) (ms : List Mark) (ts : List Tree) → list_all (λ m. nat_le m.since v) ms ≡ true → branches_of (visible v ms ts) ≡ zipped (terms_of ms) (map skeleton_of ts)
all_visible v [] ts h = refl
all_visible v (m ∷ ms) [] h = refl
all_visible v (m ∷ ms) (t ∷ ts) h =
    let a = and_parts (nat_le m.since v) (list_all (λ k. nat_le k.since v) ms) h in
    let b : Branch = record { term = m.term; rest = t } in
    ap (λ (c : Bool). branches_of (if c then b ∷ visible v ms ts else visible v ms ts)) a.0
    ∙ seen_branches b (visible v ms ts) ∙ ap (λ (x : Branches). branch m.term (skeleton_of t) x) (all_visible v ms ts a.1)

-- ---- the move is there

some_same : (j k : ℕ) → Some j ≡ Some k → j ≡ k
some_same j k q = cc

none_some : (j : ℕ) → None ≡ Some j → ⊥
none_some j q = cc

some_none : (j : ℕ) → Some j ≡ None → ⊥
some_none j q = cc

none_inside : (o : Option ℕ) → option_map (λ i. suc i) o ≡ None → o ≡ None
none_inside None q = refl
none_inside (Some i) q = absurd (some_none (suc i) q)

-- what is put at place j, where the first move is the one that is put or not
abbrev IsPut : Move → (Skeleton → Skeleton) → Skeleton → Skeleton → Move → Skeleton → List Move → List Skeleton → Bool → ℕ → Type 0
IsPut m f T S n U ms Ss b j = zipped (n ∷ ms) (set (U ∷ Ss) j (f (get_or (U ∷ Ss) j S))) ≡ (if b then branch n (f U) (zipped ms Ss) else branch n U (put_branch m f T (zipped ms Ss)))

put_there : (m : Move) (f : Skeleton → Skeleton) (T S : Skeleton) (ms : List Move) (Ss : List Skeleton) (i : ℕ) → length ms ≡ length Ss → place m ms ≡ Some i → zipped ms (set Ss i (f (get_or Ss i S))) ≡ put_branch m f T (zipped ms Ss)
put_there m f T S [] Ss i e p = absurd (none_some i p)
put_there m f T S (n ∷ ms) [] i e p = absurd (omega (arith, e))
put_there m f T S (n ∷ ms) (U ∷ Ss) i e p = by (same_move n m) (λ j q. put_there m f T S ms Ss j (omega (arith, e)) q) p
  where
    inner : ((j : ℕ) → place m ms ≡ Some j → zipped ms (set Ss j (f (get_or Ss j S))) ≡ put_branch m f T (zipped ms Ss)) → (o : Option ℕ) → place m ms ≡ o → option_map (λ j. suc j) o ≡ Some i → IsPut m f T S n U ms Ss false i
    inner rec None q k = absurd (none_some i k)
    inner rec (Some j) q k = subst (λ (x : ℕ). IsPut m f T S n U ms Ss false x) (some_same (suc j) i k) (ap (λ (x : Branches). branch n U x) (rec j q))

    by : (b : Bool) → ((j : ℕ) → place m ms ≡ Some j → zipped ms (set Ss j (f (get_or Ss j S))) ≡ put_branch m f T (zipped ms Ss)) → (if b then Some 0 else option_map (λ j. suc j) (place m ms)) ≡ Some i → IsPut m f T S n U ms Ss b i
    by true rec k = subst (λ (x : ℕ). IsPut m f T S n U ms Ss true x) (some_same 0 i k) refl
    by false rec k = inner rec (place m ms) refl k

-- ---- the move is new

put_behind : (m : Move) (f : Skeleton → Skeleton) (T : Skeleton) (ms : List Move) (Ss : List Skeleton) → length ms ≡ length Ss → place m ms ≡ None → zipped (ms ++ m ∷ []) (Ss ++ T ∷ []) ≡ put_branch m f T (zipped ms Ss)
put_behind m f T [] [] e p = refl
put_behind m f T [] (U ∷ Ss) e p = absurd (omega (arith, e))
put_behind m f T (n ∷ ms) [] e p = absurd (omega (arith, e))
put_behind m f T (n ∷ ms) (U ∷ Ss) e p = by (same_move n m) (λ q. put_behind m f T ms Ss (omega (arith, e)) q) p
  where
    by : (b : Bool) → (place m ms ≡ None → zipped (ms ++ m ∷ []) (Ss ++ T ∷ []) ≡ put_branch m f T (zipped ms Ss)) → (if b then Some 0 else option_map (λ j. suc j) (place m ms)) ≡ None
        → branch n U (zipped (ms ++ m ∷ []) (Ss ++ T ∷ [])) ≡ (if b then branch n (f U) (zipped ms Ss) else branch n U (put_branch m f T (zipped ms Ss)))
    by true rec k = absurd (some_none 0 k)
    by false rec k = ap (λ (x : Branches). branch n U x) (rec (none_inside (place m ms) k))

-- ---- the branch of an old move

pub found_sound : (n : ℕ) (ms : List Mark) (ns : List Node) (i : ℕ) (new : Node) → IsTrue (are_sound n ms ns) → IsTrue (is_sound n new) → IsTrue (are_sound n ms (set ns i new))
found_sound n ms ns i new h k =
    let s = sound_parts n ms ns h in
    parts_sound n ms (set ns i new) (record { bounded = s.bounded; rising = s.rising; same = s.same ∙ sym (length-set ns i new); below = all_set (is_sound n) ns i new s.below k })

pub found_old : (v : ℕ) (ns : List Node) (i : ℕ) (old new : Node) (qs : List Quant) → i < length ns → old ≡ get_or ns i old → shown v new qs ≡ shown v old qs → all_shown v (set ns i new) qs ≡ all_shown v ns qs
found_old v ns i old new qs l e h =
    map-set (λ n. shown v n qs) ns i new
    ∙ ap (λ (t : Tree). set (all_shown v ns qs) i t) (h ∙ ap (λ (n : Node). shown v n qs) e ∙ sym (get_or-map (λ n. shown v n qs) ns i old (shown v old qs) l))
    ∙ set-get_or (all_shown v ns qs) i (shown v old qs)

skeletons_set : (v : ℕ) (ns : List Node) (i : ℕ) (new : Node) (qs : List Quant) → map skeleton_of (all_shown v (set ns i new) qs) ≡ set (map skeleton_of (all_shown v ns qs)) i (skeleton_of (shown v new qs))
skeletons_set v ns i new qs = ap (map skeleton_of) (map-set (λ n. shown v n qs) ns i new) ∙ map-set skeleton_of (all_shown v ns qs) i (shown v new qs)

skeleton_at : (v : ℕ) (ns : List Node) (i : ℕ) (old : Node) (qs : List Quant) → i < length ns → old ≡ get_or ns i old → skeleton_of (shown v old qs) ≡ get_or (map skeleton_of (all_shown v ns qs)) i (skeleton_of (shown v old qs))
skeleton_at v [] i old qs l e = absurd (omega (arith, l))
skeleton_at v (n ∷ ns) zero old qs l e = ap (λ (x : Node). skeleton_of (shown v x qs)) e
skeleton_at v (n ∷ ns) (suc i) old qs l e = skeleton_at v ns i old qs (omega (arith, l)) e

length_skeletons : (v : ℕ) (ns : List Node) (qs : List Quant) → length (map skeleton_of (all_shown v ns qs)) ≡ length ns
length_skeletons v [] qs = refl
length_skeletons v (n ∷ ns) qs = ap (λ (z : ℕ). suc z) (length_skeletons v ns qs)

length_terms : (ms : List Mark) → length (terms_of ms) ≡ length ms
length_terms [] = refl
length_terms (m ∷ ms) = ap (λ (z : ℕ). suc z) (length_terms ms)

pub found_new : (v : ℕ) (ms : List Mark) (ns : List Node) (i : ℕ) (old new : Node) (qs : List Quant) (m : Move) (T : Skeleton) → IsTrue (are_sound v ms ns) → IsTrue (are_sound v ms (set ns i new)) → i < length ns → old ≡ get_or ns i old
    → Some i ≡ place m (terms_of ms) → skeleton_of (shown v new qs) ≡ with_paths T (skeleton_of (shown v old qs))
    → branches_of (visible v ms (all_shown v (set ns i new) qs)) ≡ put_branch m (λ S. with_paths T S) T (branches_of (visible v ms (all_shown v ns qs)))
found_new v ms ns i old new qs m T h k l e p u =
    let s = sound_parts v ms ns h in
    let Ss = map skeleton_of (all_shown v ns qs) in
    let S = skeleton_of (shown v old qs) in
    all_visible v ms (all_shown v (set ns i new) qs) s.bounded
    ∙ ap (λ (xs : List Skeleton). zipped (terms_of ms) xs) (skeletons_set v ns i new qs ∙ ap (λ (X : Skeleton). set Ss i X) (u ∙ ap (λ (X : Skeleton). with_paths T X) (skeleton_at v ns i old qs l e)))
    ∙ put_there m (λ S. with_paths T S) T S (terms_of ms) Ss i (length_terms ms ∙ s.same ∙ sym (length_skeletons v ns qs)) (sym p)
    ∙ ap (λ (x : Branches). put_branch m (λ S. with_paths T S) T x) (sym (all_visible v ms (all_shown v ns qs) s.bounded))

-- ---- the branch of a new move

pub new_sound : (n : ℕ) (ms : List Mark) (ns : List Node) (m : Mark) (new : Node) → IsTrue (are_sound n ms ns) → m.since ≡ n → IsTrue (is_sound n new) → IsTrue (are_sound n (ms ++ m ∷ []) (ns ++ new ∷ []))
new_sound n ms ns m new h e k =
    let s = sound_parts n ms ns h in
    parts_sound n (ms ++ m ∷ []) (ns ++ new ∷ []) (record {
      bounded = all_push (λ x. nat_le x.since n) ms m s.bounded (le-leb m.since n (omega (arith, e)));
      rising = rising_push ms m s.rising (subst (λ (x : ℕ). list_all (λ y. nat_le y.since x) ms ≡ true) (sym e) s.bounded);
      same = (let a = length-append ms (m ∷ []) in let b = length-append ns (new ∷ []) in omega (arith, a, b, s.same));
      below = all_push (is_sound n) ns new s.below k;
    })

later_hidden : (v : ℕ) (ms : List Mark) (ts : List Tree) (m : Mark) (t : Tree) → v < m.since → length ms ≡ length ts → visible v (ms ++ m ∷ []) (ts ++ t ∷ []) ≡ visible v ms ts
later_hidden v [] [] m t l e = ap (λ (c : Bool). let b : Branch = record { term = m.term; rest = t } in if c then b ∷ [] else []) (lt-leb m.since v l)
later_hidden v [] (x ∷ ts) m t l e = absurd (omega (arith, e))
later_hidden v (k ∷ ms) [] m t l e = absurd (omega (arith, e))
later_hidden v (k ∷ ms) (x ∷ ts) m t l e =
    ap (λ (bs : List Branch). let b : Branch = record { term = k.term; rest = x } in if nat_le k.since v then b ∷ bs else bs) (later_hidden v ms ts m t l (omega (arith, e)))

length_shown : (v : ℕ) (ns : List Node) (qs : List Quant) → length (all_shown v ns qs) ≡ length ns
length_shown v [] qs = refl
length_shown v (n ∷ ns) qs = ap (λ (z : ℕ). suc z) (length_shown v ns qs)

pub new_old : (n v : ℕ) (ms : List Mark) (ns : List Node) (m : Mark) (new : Node) (qs : List Quant) → IsTrue (are_sound n ms ns) → m.since ≡ n → v < n → visible v (ms ++ m ∷ []) (all_shown v (ns ++ new ∷ []) qs) ≡ visible v ms (all_shown v ns qs)
new_old n v ms ns m new qs h e l =
    let s = sound_parts n ms ns h in
    ap (λ (ts : List Tree). visible v (ms ++ m ∷ []) ts) (map-append (λ x. shown v x qs) ns (new ∷ []))
    ∙ later_hidden v ms (all_shown v ns qs) m (shown v new qs) (omega (arith, l, e)) (s.same ∙ sym (length_shown v ns qs))

pub new_new : (v : ℕ) (ms : List Mark) (ns : List Node) (k : Mark) (new : Node) (qs : List Quant) (m : Move) (T : Skeleton) → IsTrue (are_sound v ms ns) → k ≡ record { term = m; since = v } → None ≡ place m (terms_of ms) → skeleton_of (shown v new qs) ≡ T
    → branches_of (visible v (ms ++ k ∷ []) (all_shown v (ns ++ new ∷ []) qs)) ≡ put_branch m (λ S. with_paths T S) T (branches_of (visible v ms (all_shown v ns qs)))
new_new v ms ns k new qs m T h e p u =
    let s = sound_parts v ms ns h in
    let Ss = map skeleton_of (all_shown v ns qs) in
    all_visible v (ms ++ k ∷ []) (all_shown v (ns ++ new ∷ []) qs) (all_push (λ x. nat_le x.since v) ms k s.bounded (ap (λ (x : Mark). nat_le x.since v) e ∙ le-leb v v (omega arith)))
    ∙ ap₂ (λ (xs : List Move) (ys : List Skeleton). zipped xs ys)
    (map-append (λ (x : Mark). x.term) ms (k ∷ []) ∙ ap (λ (x : Mark). terms_of ms ++ x.term ∷ []) e)
    (ap (map skeleton_of) (map-append (λ x. shown v x qs) ns (new ∷ [])) ∙ map-append skeleton_of (all_shown v ns qs) (shown v new qs ∷ []) ∙ ap (λ (X : Skeleton). Ss ++ X ∷ []) u)
    ∙ put_behind m (λ S. with_paths T S) T (terms_of ms) Ss (length_terms ms ∙ s.same ∙ sym (length_skeletons v ns qs)) (sym p)
    ∙ ap (λ (x : Branches). put_branch m (λ S. with_paths T S) T x) (sym (all_visible v ms (all_shown v ns qs) s.bounded))

-- ---- a tree grown from nothing is that tree

-- the branches behind others
abbrev joined : Branches → Branches → Branches
joined no_more cs = cs
joined (branch m S bs) cs = branch m S (joined bs cs)

abbrev AllNew : Branches → Branches → Type 0
AllNew no_more bs = ⊤
AllNew (branch m S cs) bs = IsNew m bs × AllNew cs bs

put_new : (m : Move) (f : Skeleton → Skeleton) (T : Skeleton) (bs : Branches) → IsNew m bs → put_branch m f T bs ≡ joined bs (branch m T no_more)
put_new m f T no_more h = refl
put_new m f T (branch n S bs) h = by (same_move n m) refl (put_new m f T bs h.1)
  where
    by : (b : Bool) → same_move n m ≡ b → put_branch m f T bs ≡ joined bs (branch m T no_more) → (if b then branch n (f S) bs else branch n S (put_branch m f T bs)) ≡ branch n S (joined bs (branch m T no_more))
    by true e k = absurd (h.0 (sym ((move_decides n m).0 e)))
    by false e k = ap (λ (x : Branches). branch n S x) k

new_joined : (m n : Move) (T : Skeleton) (bs : Branches) → ¬ (m ≡ n) → IsNew m bs → IsNew m (joined bs (branch n T no_more))
new_joined m n T no_more d h = (d, tt)
new_joined m n T (branch o S bs) d h = (h.0, new_joined m n T bs d h.1)

all_new_joined : (cs : Branches) (n : Move) (T : Skeleton) (bs : Branches) → IsNew n cs → AllNew cs bs → AllNew cs (joined bs (branch n T no_more))
all_new_joined no_more n T bs d h = tt
all_new_joined (branch m S cs) n T bs d h = (new_joined m n T bs (λ e. d.0 (sym e)) h.0, all_new_joined cs n T bs d.1 h.1)

joined_more : (m : Move) (T : Skeleton) (bs cs : Branches) → joined (joined bs (branch m T no_more)) cs ≡ joined bs (branch m T cs)
joined_more m T no_more cs = refl
joined_more m T (branch n S bs) cs = ap (λ (x : Branches). branch n S x) (joined_more m T bs cs)

joined_nil : (xs : Branches) → xs ≡ joined xs no_more
joined_nil no_more = refl
joined_nil (branch m S xs) = ap (λ (y : Branches). branch m S y) (joined_nil xs)

all_put : (cs bs : Branches) (qs : List Quant) → EachFits cs qs → AllNew cs bs → with_branches cs bs ≡ joined bs cs
all_put no_more bs qs f h = joined_nil bs
all_put (branch m T cs) bs qs f h =
    ap (λ (x : Branches). with_branches cs x) (put_new m (λ S. with_paths T S) T bs h.0)
    ∙ all_put cs (joined bs (branch m T no_more)) qs f.2 (all_new_joined cs m T bs f.0 h.1) ∙ joined_more m T bs cs

none_old : (cs : Branches) → AllNew cs no_more
none_old no_more = tt
none_old (branch m S cs) = (tt, none_old cs)

pub from_nothing : (v : ℕ) (qs : List Quant) (T : Skeleton) → Fits T qs → with_paths T (skeleton_of (shown v variants.End qs)) ≡ T
from_nothing v [] end f = ap (λ (t : Tree). skeleton_of t) (shown_nil v variants.End) ∙ seen_end
from_nothing v [] (theirs T) f = absurd f
from_nothing v [] (mine cs) f = absurd f
from_nothing v (Forall ∷ qs) end f = absurd f
from_nothing v (Forall ∷ qs) (mine cs) f = absurd f
from_nothing v (Forall ∷ qs) (theirs T) f =
    ap (λ (S : Skeleton). with_paths (theirs T) S) (ap skeleton_of (shown_forall v variants.End qs) ∙ seen_theirs (shown v variants.End qs)) ∙ ap theirs (from_nothing v qs T f)
from_nothing v (Exists ∷ qs) end f = absurd f
from_nothing v (Exists ∷ qs) (theirs T) f = absurd f
from_nothing v (Exists ∷ qs) (mine cs) f =
    ap (λ (S : Skeleton). with_paths (mine cs) S) (ap skeleton_of (shown_end v qs) ∙ seen_mine []) ∙ ap mine (all_put cs no_more qs f (none_old cs))

-- ---- the same for what the code has in hand

abbrev pub mark_of : Move → ℕ → Mark
mark_of m n = record { term = m; since = n }

pub set_twice : (ns one two : List Node) (i : ℕ) (x new : Node) → one ≡ set ns i x → two ≡ set one i new → two ≡ set ns i new
set_twice ns one two i x new e f = f ∙ ap (λ (xs : List Node). set xs i new) e ∙ set-set ns i x new

pub found_sound_so : (n : ℕ) (ms : List Mark) (ns two : List Node) (i : ℕ) (new : Node) → two ≡ set ns i new → IsTrue (are_sound n ms ns) → IsTrue (is_sound n new) → IsTrue (are_sound n ms two)
found_sound_so n ms ns two i new e h k = subst (λ (xs : List Node). IsTrue (are_sound n ms xs)) (sym e) (found_sound n ms ns i new h k)

pub found_old_so : (v : ℕ) (ms : List Mark) (ns two : List Node) (i : ℕ) (old new : Node) (qs : List Quant) → two ≡ set ns i new → i < length ns → old ≡ get_or ns i old → shown v new qs ≡ shown v old qs
    → visible v ms (all_shown v two qs) ≡ visible v ms (all_shown v ns qs)
found_old_so v ms ns two i old new qs e l o h =
    ap (λ (ts : List Tree). visible v ms ts) (ap (λ (xs : List Node). all_shown v xs qs) e ∙ found_old v ns i old new qs l o h)

pub found_new_so : (v : ℕ) (ms : List Mark) (ns two : List Node) (i : ℕ) (old new : Node) (qs : List Quant) (m : Move) (T : Skeleton) → two ≡ set ns i new → IsTrue (are_sound v ms ns) → IsTrue (is_sound v new) → i < length ns → old ≡ get_or ns i old
    → Some i ≡ place m (terms_of ms) → skeleton_of (shown v new qs) ≡ with_paths T (skeleton_of (shown v old qs))
    → branches_of (visible v ms (all_shown v two qs)) ≡ put_branch m (λ S. with_paths T S) T (branches_of (visible v ms (all_shown v ns qs)))
found_new_so v ms ns two i old new qs m T e h k l o p u =
    ap (λ (xs : List Node). branches_of (visible v ms (all_shown v xs qs))) e ∙ found_new v ms ns i old new qs m T h (found_sound v ms ns i new h k) l o p u

-- a sound node has as many nodes below it as moves
pub within_below : (n : ℕ) (ms : List Mark) (ns : List Node) (i : ℕ) → IsTrue (are_sound n ms ns) → i < length ms → i < length ns
within_below n ms ns i h l = let s = sound_parts n ms ns h in omega (arith, l, s.same)

pub sound_below : (n : ℕ) (ms : List Mark) (ns : List Node) (i : ℕ) (old : Node) → IsTrue (are_sound n ms ns) → i < length ms → old ≡ get_or ns i old → IsTrue (is_sound n old)
sound_below n ms ns i old h l o = let s = sound_parts n ms ns h in ap (is_sound n) o ∙ all_at (is_sound n) ns i old (omega (arith, l, s.same)) s.below

either : {P : Type 0} → (r : Bool) → (IsTrue r → P) → (IsTrue (not r) → P) → P
either {P} true f g = f refl
either {P} false f g = g refl

pub new_sound_so : (r : Bool) (n : ℕ) (ms two : List Mark) (ns more : List Node) (m : Move) (new : Node) → (IsTrue r → two ≡ ms ++ mark_of m n ∷ []) → (IsTrue r → more ≡ ns ++ new ∷ []) → (IsTrue (not r) → two ≡ ms) → (IsTrue (not r) → more ≡ ns)
    → IsTrue (are_sound n ms ns) → IsTrue (is_sound n new) → IsTrue (are_sound n two more)
new_sound_so r n ms two ns more m new a b c d h k =
    either r
    (λ q. subst (λ (xs : List Mark). IsTrue (are_sound n xs more)) (sym (a q)) (subst (λ (xs : List Node). IsTrue (are_sound n (ms ++ mark_of m n ∷ []) xs)) (sym (b q)) (new_sound n ms ns (mark_of m n) new h refl k)))
    (λ q. subst (λ (xs : List Mark). IsTrue (are_sound n xs more)) (sym (c q)) (subst (λ (xs : List Node). IsTrue (are_sound n ms xs)) (sym (d q)) h))

pub new_old_so : (r : Bool) (n v : ℕ) (ms two : List Mark) (ns more : List Node) (m : Move) (new : Node) (qs : List Quant) → (IsTrue r → two ≡ ms ++ mark_of m n ∷ []) → (IsTrue r → more ≡ ns ++ new ∷ []) → (IsTrue (not r) → two ≡ ms) → (IsTrue (not r) → more ≡ ns)
    → IsTrue (are_sound n ms ns) → v < n → visible v two (all_shown v more qs) ≡ visible v ms (all_shown v ns qs)
new_old_so r n v ms two ns more m new qs a b c d h l =
    either r
    (λ q. ap₂ (λ (xs : List Mark) (ys : List Node). visible v xs (all_shown v ys qs)) (a q) (b q) ∙ new_old n v ms ns (mark_of m n) new qs h refl l)
    (λ q. ap₂ (λ (xs : List Mark) (ys : List Node). visible v xs (all_shown v ys qs)) (c q) (d q))

pub new_new_so : (r : Bool) (v : ℕ) (ms two : List Mark) (ns more : List Node) (new start : Node) (qs : List Quant) (m : Move) (T : Skeleton) → (IsTrue r → two ≡ ms ++ mark_of m v ∷ []) → (IsTrue r → more ≡ ns ++ new ∷ [])
    → IsTrue (are_sound v ms ns) → None ≡ place m (terms_of ms) → start ≡ variants.End → Fits T qs → skeleton_of (shown v new qs) ≡ with_paths T (skeleton_of (shown v start qs)) → IsTrue r
    → branches_of (visible v two (all_shown v more qs)) ≡ put_branch m (λ S. with_paths T S) T (branches_of (visible v ms (all_shown v ns qs)))
new_new_so r v ms two ns more new start qs m T a b h p s f u q =
    ap₂ (λ (xs : List Mark) (ys : List Node). branches_of (visible v xs (all_shown v ys qs))) (a q) (b q)
    ∙ new_new v ms ns (mark_of m v) new qs m T h refl p (u ∙ ap (λ (n : Node). with_paths T (skeleton_of (shown v n qs))) s ∙ from_nothing v qs T f)

-- ---- trees by their cases

pub fits_theirs : (t : Tree) (b : Tree) (qs : List Quant) → t ≡ trees.Theirs b → Fits (skeleton_of t) (Forall ∷ qs) → Fits (skeleton_of b) qs
fits_theirs t b qs e f = subst (λ (S : Skeleton). Fits S (Forall ∷ qs)) (ap skeleton_of e ∙ seen_theirs b) f

pub fits_mine : (t : Tree) (bs : List Branch) (qs : List Quant) → t ≡ trees.Mine bs → Fits (skeleton_of t) (Exists ∷ qs) → EachFits (branches_of bs) qs
fits_mine t bs qs e f = subst (λ (S : Skeleton). Fits S (Exists ∷ qs)) (ap skeleton_of e ∙ seen_mine bs) f

onto_end : (T : Skeleton) → with_paths T end ≡ end
onto_end end = refl
onto_end (theirs T) = refl
onto_end (mine cs) = refl

-- at the end of a prefix nothing is added
pub at_end : (v : ℕ) (n : Node) (T : Skeleton) → skeleton_of (shown v n []) ≡ with_paths T (skeleton_of (shown v n []))
at_end v n T =
    let e = ap skeleton_of (shown_nil v n) ∙ seen_end in
    e ∙ sym (onto_end T) ∙ ap (λ (S : Skeleton). with_paths T S) (sym e)

pub below_theirs : (v : ℕ) (n new : Node) (t b : Tree) (qs : List Quant) → t ≡ trees.Theirs b → skeleton_of (shown v new qs) ≡ with_paths (skeleton_of b) (skeleton_of (shown v n qs))
    → skeleton_of (shown v new (Forall ∷ qs)) ≡ with_paths (skeleton_of t) (skeleton_of (shown v n (Forall ∷ qs)))
below_theirs v n new t b qs e h =
    ap skeleton_of (shown_forall v new qs) ∙ seen_theirs (shown v new qs) ∙ ap theirs h
    ∙ ap₂ (λ (T S : Skeleton). with_paths T S) (sym (ap skeleton_of e ∙ seen_theirs b)) (sym (ap skeleton_of (shown_forall v n qs) ∙ seen_theirs (shown v n qs)))

pub below_old : (v : ℕ) (n new : Node) (qs : List Quant) → shown v new qs ≡ shown v n qs → shown v new (Forall ∷ qs) ≡ shown v n (Forall ∷ qs)
below_old v n new qs h = shown_forall v new qs ∙ ap trees.Theirs h ∙ sym (shown_forall v n qs)

pub below_mine : (v : ℕ) (n new : Node) (t : Tree) (bs : List Branch) (qs : List Quant) → t ≡ trees.Mine bs → skeleton_of (shown v new (Exists ∷ qs)) ≡ with_paths (mine (branches_of bs)) (skeleton_of (shown v n (Exists ∷ qs)))
    → skeleton_of (shown v new (Exists ∷ qs)) ≡ with_paths (skeleton_of t) (skeleton_of (shown v n (Exists ∷ qs)))
below_mine v n new t bs qs e h = h ∙ ap (λ (T : Skeleton). with_paths T (skeleton_of (shown v n (Exists ∷ qs)))) (sym (ap skeleton_of e ∙ seen_mine bs))

-- ---- all branches of a node

pub node_old : (v : ℕ) (n : Node) (ms first : List Mark) (ns start : List Node) (qs : List Quant) → shown v n (Exists ∷ qs) ≡ trees.Mine (visible v first (all_shown v start qs)) → visible v ms (all_shown v ns qs) ≡ visible v first (all_shown v start qs)
    → shown v (variants.Mine ms ns) (Exists ∷ qs) ≡ shown v n (Exists ∷ qs)
node_old v n ms first ns start qs e h = shown_mine v ms ns qs ∙ ap trees.Mine h ∙ sym e

pub node_new : (v : ℕ) (n : Node) (ms first : List Mark) (ns start : List Node) (bs left : List Branch) (qs : List Quant) → shown v n (Exists ∷ qs) ≡ trees.Mine (visible v first (all_shown v start qs)) → left ≡ []
    → with_branches (branches_of left) (branches_of (visible v ms (all_shown v ns qs))) ≡ with_branches (branches_of bs) (branches_of (visible v first (all_shown v start qs)))
    → skeleton_of (shown v (variants.Mine ms ns) (Exists ∷ qs)) ≡ with_paths (mine (branches_of bs)) (skeleton_of (shown v n (Exists ∷ qs)))
node_new v n ms first ns start bs left qs e l h =
    ap skeleton_of (shown_mine v ms ns qs) ∙ seen_mine (visible v ms (all_shown v ns qs))
    ∙ ap mine (ap (λ (xs : List Branch). with_branches (branches_of xs) (branches_of (visible v ms (all_shown v ns qs)))) (sym l) ∙ h)
    ∙ ap (λ (S : Skeleton). with_paths (mine (branches_of bs)) S) (sym (ap skeleton_of e ∙ seen_mine (visible v first (all_shown v start qs))))

-- one branch more
pub one_put : (v : ℕ) (ms two : List Mark) (ns more : List Node) (bs : List Branch) (i : ℕ) (b : Branch) (qs : List Quant) (whole : Branches) → i < length bs → b ≡ get_or bs i b
    → branches_of (visible v two (all_shown v more qs)) ≡ put_branch b.term (λ S. with_paths (skeleton_of b.rest) S) (skeleton_of b.rest) (branches_of (visible v ms (all_shown v ns qs)))
    → with_branches (branches_of (drop i bs)) (branches_of (visible v ms (all_shown v ns qs))) ≡ whole
    → with_branches (branches_of (drop (i + 1) bs)) (branches_of (visible v two (all_shown v more qs))) ≡ whole
one_put v ms two ns more bs i b qs whole l e p h =
    ap (λ (x : Branches). with_branches (branches_of (drop (i + 1) bs)) x) p
    ∙ sym (ap (λ (x : Branches). with_branches x (branches_of (visible v ms (all_shown v ns qs)))) (branches_at bs i b l e)) ∙ h

pub fits_first : (bs : List Branch) (i : ℕ) (b : Branch) (qs : List Quant) → i < length bs → b ≡ get_or bs i b → EachFits (branches_of (drop i bs)) qs → Fits (skeleton_of b.rest) qs × EachFits (branches_of (drop (i + 1) bs)) qs
fits_first bs i b qs l e f = let g = subst (λ (x : Branches). EachFits x qs) (branches_at bs i b l e) f in (g.1, g.2)
