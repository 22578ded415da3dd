-- The list of versions, and what each keeps.
use Rattle.std.specs.Prelude.{ℕ, zero, suc, ◌+◌, ◌<◌, ◌≤◌, ◌≡◌, ◌⊎◌, IsTrue, Some, None, List, [], ◌∷◌, ◌++◌, length, slice_get}
use Rattle.std.proofs.Common.{arith, ap, ap₂, ◌∙◌, sym, subst, refl, inl, inr}
use Rattle.lin_term.specs.declared.Sort.{Sort}
use Rattle.dom_core.specs.declared.Quant.{Quant}
use Rattle.game_tree.specs.declared.Tree.{Tree}
use Rattle.dom_core.specs.declared.Quant.TheVariants.{Exists, Forall}
use Rattle.game_tree.specs.Skeleton.{Skeleton, end, theirs, mine, Branches, no_more, branch, nodes, node_limit, Follows, EachFollows}
use Rattle.game_tree.specs.View.{skeleton_of}
use Rattle.game_tree.specs.Written.{WrittenSkeleton, FollowsPrefix, count_limit}
use Rattle.game_tree.specs.Union.{union, with_paths}
use Rattle.game_tree.proofs.Sizes.{union_nodes}
use Rattle.game_tree.proofs.Unions.{union_follows}
use Rattle.grown_tree.specs.declared.node.Node.{Node}
use Rattle.grown_tree.specs.Fitting.{Fits, EachFits}
use Rattle.grown_tree.specs.Shown.{shown, is_sound}
use Rattle.grown_tree.specs.Versions.{Versions, newest, Grows, IsLent, up_to, IsGrown}
use Rattle.grown_tree.proofs.Later.{later_same}

-- ---- lists of versions

length_last : (xs : List Tree) (t : Tree) → length (xs ++ t ∷ []) ≡ suc (length xs)
length_last [] t = refl
length_last (x ∷ xs) t = ap (λ (n : ℕ). suc n) (length_last xs t)

pub up_to_length : (r : Node) (qs : List Quant) (n : ℕ) → length (up_to r qs n) ≡ n + 1
up_to_length r qs zero = omega arith
up_to_length r qs (suc n) = let h = up_to_length r qs n in let k = length_last (up_to r qs n) (shown (suc n) r qs) in omega arith

newest_last : (xs : List Tree) (t : Tree) → newest (xs ++ t ∷ []) ≡ t
newest_last [] t = refl
newest_last (x ∷ []) t = refl
newest_last (x ∷ y ∷ xs) t = newest_last (y ∷ xs) t

pub up_to_newest : (r : Node) (qs : List Quant) (n : ℕ) → newest (up_to r qs n) ≡ shown n r qs
up_to_newest r qs zero = refl
up_to_newest r qs (suc n) = newest_last (up_to r qs n) (shown (suc n) r qs)

get_before : (xs : List Tree) (t u : Tree) (i : ℕ) → slice_get xs i ≡ Some u → slice_get (xs ++ t ∷ []) i ≡ Some u
get_before [] t u i h = absurd (none_some h)
  where
    none_some : None ≡ Some u → ⊥
    none_some e = cc
get_before (x ∷ xs) t u zero h = h
get_before (x ∷ xs) t u (suc i) h = get_before xs t u i h

get_last : (xs : List Tree) (t : Tree) → slice_get (xs ++ t ∷ []) (length xs) ≡ Some t
get_last [] t = refl
get_last (x ∷ xs) t = get_last xs t

at_most_more : (x k : ℕ) → (x ≤ k) ⊎ (x ≡ suc k) → (suc x ≤ suc k) ⊎ (suc x ≡ suc (suc k))
at_most_more x k (inl a) = inl (omega (arith, a))
at_most_more x k (inr a) = inr (ap (λ (z : ℕ). suc z) a)

at_most : (x k : ℕ) → x ≤ suc k → (x ≤ k) ⊎ (x ≡ suc k)
at_most zero k h = inl (omega arith)
at_most (suc x) zero h = inr (omega (arith, h))
at_most (suc x) (suc k) h = at_most_more x k (at_most x k (omega (arith, h)))

pub up_to_get : (r : Node) (qs : List Quant) (n v : ℕ) → v ≤ n → slice_get (up_to r qs n) v ≡ Some (shown v r qs)
up_to_get r qs zero v l = subst (λ (x : ℕ). slice_get (up_to r qs zero) x ≡ Some (shown x r qs)) (let o : 0 ≡ v = omega (arith, l) in o) refl
up_to_get r qs (suc n) v l = by (λ h. up_to_get r qs n v h) (at_most v n l)
  where
    by : (v ≤ n → slice_get (up_to r qs n) v ≡ Some (shown v r qs)) → (v ≤ n) ⊎ (v ≡ suc n) → slice_get (up_to r qs n ++ shown (suc n) r qs ∷ []) v ≡ Some (shown v r qs)
    by rec (inl h) = get_before (up_to r qs n) (shown (suc n) r qs) (shown v r qs) v (rec h)
    by rec (inr e) =
        subst (λ (x : ℕ). slice_get (up_to r qs n ++ shown (suc n) r qs ∷ []) x ≡ Some (shown x r qs)) (sym e)
        (ap (λ (i : ℕ). slice_get (up_to r qs n ++ shown (suc n) r qs ∷ []) i) (let o : suc n ≡ length (up_to r qs n) = (let h = up_to_length r qs n in omega arith) in o) ∙ get_last (up_to r qs n) (shown (suc n) r qs))

pub up_to_same : (a b : Node) (qs : List Quant) (n : ℕ) → ((v : ℕ) → v ≤ n → shown v a qs ≡ shown v b qs) → up_to a qs n ≡ up_to b qs n
up_to_same a b qs zero h = ap (λ (t : Tree). t ∷ []) (h 0 (omega arith))
up_to_same a b qs (suc n) h = ap₂ (λ (ts : List Tree) (t : Tree). ts ++ t ∷ []) (up_to_same a b qs n (λ v l. h v (omega (arith, l)))) (h (suc n) (omega arith))

-- ---- what each version keeps

-- what is lent is decided by the skeleton
pub lent_as : (s : Sort) (qs : List Quant) (t : Tree) (S : WrittenSkeleton) → skeleton_of t ≡ skeleton_of S.tree → qs ≡ S.prefix → IsLent s S → IsLent s (record { prefix = qs; tree = t })
lent_as s qs t S e p h = record {
  follows = record {
    short = subst (λ (xs : List Quant). length xs ≤ 1024) (sym p) h.follows.short;
    follows = subst (λ (X : Skeleton). Follows X s qs 0) (sym e) (subst (λ (xs : List Quant). Follows (skeleton_of S.tree) s xs 0) (sym p) h.follows.follows);
    countable = subst (λ (X : Skeleton). nodes X ≤ count_limit) (sym e) h.follows.countable;
  };
  few = subst (λ (X : Skeleton). nodes X ≤ node_limit) (sym e) h.few;
}

pub lent_union : (s : Sort) (qs : List Quant) (t : Tree) (A B : WrittenSkeleton) → skeleton_of t ≡ union (skeleton_of A.tree) (skeleton_of B.tree) → qs ≡ A.prefix → A.prefix ≡ B.prefix → FollowsPrefix s A → FollowsPrefix s B → nodes (skeleton_of t) ≤ node_limit → IsLent s (record { prefix = qs; tree = t })
lent_union s qs t A B e p q f g n = record {
  follows = record {
    short = subst (λ (xs : List Quant). length xs ≤ 1024) (sym p) f.short;
    follows =
        subst (λ (X : Skeleton). Follows X s qs 0) (sym e)
        (union_follows (skeleton_of A.tree) (skeleton_of B.tree) s qs 0 (subst (λ (xs : List Quant). Follows (skeleton_of A.tree) s xs 0) (sym p) f.follows)
        (subst (λ (xs : List Quant). Follows (skeleton_of B.tree) s xs 0) (sym (p ∙ q)) g.follows));
    countable = omega (arith, n);
  };
  few = n;
}

pub begun : (s : Sort) (qs : List Quant) (r : Node) (S : WrittenSkeleton) (b : ℕ) → IsTrue (is_sound 0 r) → skeleton_of (shown 0 r qs) ≡ skeleton_of S.tree → qs ≡ S.prefix → IsLent s S → b ≡ nodes (skeleton_of S.tree) → IsGrown s qs r 0 b
begun s qs r S b h e p l c = record {
  sound = h;
  lent = λ v k. subst (λ (x : ℕ). IsLent s (record { prefix = qs; tree = shown x r qs })) (let o : 0 ≡ v = omega (arith, k) in o) (lent_as s qs (shown 0 r qs) S e p l);
  counted = let k = ap nodes e in omega (arith, c, k);
  within = let k = l.few in omega (arith, c, k);
}

-- ---- one version more

pub same_newest : (n : ℕ) (r : Node) (qs : List Quant) → IsTrue (is_sound n r) → shown (suc n) r qs ≡ shown n r qs
same_newest n r qs h = later_same r n (suc n) n qs h (omega arith) (omega arith)

pub grown_once : (s : Sort) (qs : List Quant) (old new : Node) (n a b : ℕ) (C : WrittenSkeleton) → IsGrown s qs old n a → IsTrue (is_sound (suc n) new) → ((v : ℕ) → v < suc n → shown v new qs ≡ shown v old qs)
    → skeleton_of (shown (suc n) new qs) ≡ with_paths (skeleton_of C.tree) (skeleton_of (shown (suc n) old qs)) → qs ≡ C.prefix → FollowsPrefix s C → nodes (skeleton_of (shown (suc n) new qs)) ≤ b → b ≤ node_limit → IsGrown s qs new (suc n) b
grown_once s qs old new n a b C g h o u p f k m = record {
  sound = h;
  lent = λ v l. by v (at_most v n l);
  counted = k;
  within = m;
}
  where
    by : (v : ℕ) → (v ≤ n) ⊎ (v ≡ suc n) → IsLent s (record { prefix = qs; tree = shown v new qs })
    by v (inl l) = subst (λ (t : Tree). IsLent s (record { prefix = qs; tree = t })) (sym (o v (omega (arith, l)))) (g.lent v l)
    by v (inr e) =
        subst (λ (x : ℕ). IsLent s (record { prefix = qs; tree = shown x new qs })) (sym e)
        (lent_union s qs (shown (suc n) new qs) (record { prefix = qs; tree = shown n old qs }) C (u ∙ ap (λ (t : Tree). with_paths (skeleton_of C.tree) (skeleton_of t)) (same_newest n old qs g.sound)) refl p (g.lent n (omega arith)).follows f (omega (arith, k, m)))

-- the next version is the union of the newest one and a skeleton
pub next_union : (n : ℕ) (old new : Node) (qs : List Quant) (C : Skeleton) → IsTrue (is_sound n old) → skeleton_of (shown (suc n) new qs) ≡ with_paths C (skeleton_of (shown (suc n) old qs)) → skeleton_of (shown (suc n) new qs) ≡ union (skeleton_of (newest (up_to old qs n))) C
next_union n old new qs C h u = u ∙ ap (λ (t : Tree). with_paths C (skeleton_of t)) (same_newest n old qs h ∙ sym (up_to_newest old qs n))

pub next_nodes : (n : ℕ) (old new : Node) (qs : List Quant) (C : Skeleton) → IsTrue (is_sound n old) → skeleton_of (shown (suc n) new qs) ≡ with_paths C (skeleton_of (shown (suc n) old qs)) → nodes (skeleton_of (shown (suc n) new qs)) ≤ nodes (skeleton_of (shown n old qs)) + nodes C
next_nodes n old new qs C h u =
    subst (λ (S : Skeleton). nodes S ≤ nodes (skeleton_of (shown n old qs)) + nodes C) (sym (u ∙ ap (λ (t : Tree). with_paths C (skeleton_of t)) (same_newest n old qs h)))
    (union_nodes (skeleton_of (shown n old qs)) C)

pub grown_list : (qs : List Quant) (old new : Node) (n : ℕ) (C : Skeleton) → IsTrue (is_sound n old) → ((v : ℕ) → v < suc n → shown v new qs ≡ shown v old qs) → skeleton_of (shown (suc n) new qs) ≡ with_paths C (skeleton_of (shown (suc n) old qs)) → Grows (up_to old qs n) C (up_to new qs (suc n))
grown_list qs old new n C h o u = record {
  tree = shown (suc n) new qs;
  appended = ap (λ (ts : List Tree). ts ++ shown (suc n) new qs ∷ []) (up_to_same new old qs n (λ v l. o v (omega (arith, l))));
  is_union = next_union n old new qs C h u;
}

-- what shows the same versions keeps the same
pub kept_grown : (s : Sort) (qs : List Quant) (old new : Node) (n b : ℕ) → IsGrown s qs old n b → IsTrue (is_sound n new) → ((v : ℕ) → v ≤ n → shown v new qs ≡ shown v old qs) → IsGrown s qs new n b
kept_grown s qs old new n b g h o = record {
  sound = h;
  lent = λ v l. subst (λ (t : Tree). IsLent s (record { prefix = qs; tree = t })) (sym (o v l)) (g.lent v l);
  counted = subst (λ (t : Tree). nodes (skeleton_of t) ≤ b) (sym (o n (omega arith))) g.counted;
  within = g.within;
}

-- what follows a prefix fits it
mutual
  pub follows_fits : (S : Skeleton) (s : Sort) (qs : List Quant) (k : ℕ) → Follows S s qs k → Fits S qs
  follows_fits end s [] k f = tt
  follows_fits end s (q ∷ qs) k f = absurd f
  follows_fits (theirs S) s [] k f = absurd f
  follows_fits (theirs S) s (Exists ∷ qs) k f = absurd f
  follows_fits (theirs S) s (Forall ∷ qs) k f = follows_fits S s qs (suc k) f
  follows_fits (mine bs) s [] k f = absurd f
  follows_fits (mine bs) s (Forall ∷ qs) k f = absurd f
  follows_fits (mine bs) s (Exists ∷ qs) k f = branches_fit bs s qs k f.1

  branches_fit : (bs : Branches) (s : Sort) (qs : List Quant) (k : ℕ) → EachFollows bs s qs k → EachFits bs qs
  branches_fit no_more s qs k f = tt
  branches_fit (branch m S bs) s qs k f = (f.1, follows_fits S s qs (suc k) f.2, branches_fit bs s qs k f.3)

pub fits_so : (t u : Tree) (s : Sort) (ps qs : List Quant) → t ≡ u → ps ≡ qs → Follows (skeleton_of u) s qs 0 → Fits (skeleton_of t) ps
fits_so t u s ps qs e p f =
    subst (λ (x : Tree). Fits (skeleton_of x) ps) (sym e) (subst (λ (xs : List Quant). Fits (skeleton_of u) xs) (sym p) (follows_fits (skeleton_of u) s qs 0 f))

-- ---- what the code has in hand behind an addition

-- sound at the next number, and all versions so far are shown as before
pub record IsLater (qs : List Quant) (old new : Node) (n : ℕ) : Type 0 where
  pub sound : IsTrue (is_sound (suc n) new)
  pub kept : (v : ℕ) → v < suc n → shown v new qs ≡ shown v old qs

next_number : (n : ℕ) → n + 1 ≡ suc n
next_number n = omega arith

pub later_so : (qs ps : List Quant) (r old new : Node) (n : ℕ) → ps ≡ qs → old ≡ r → IsTrue (is_sound (n + 1) new) → ((v : ℕ) → v < n + 1 → shown v new ps ≡ shown v old ps) → IsLater qs r new n
later_so qs ps r old new n p e h o = record {
  sound = subst (λ (k : ℕ). IsTrue (is_sound k new)) (next_number n) h;
  kept = λ v l. ap (λ (xs : List Quant). shown v new xs) (sym p) ∙ o v (omega (arith, l)) ∙ ap₂ (λ (x : Node) (xs : List Quant). shown v x xs) e p;
}

pub next_so : (qs ps : List Quant) (r old new : Node) (n : ℕ) (t u : Tree) → ps ≡ qs → old ≡ r → t ≡ u → skeleton_of (shown (n + 1) new ps) ≡ with_paths (skeleton_of t) (skeleton_of (shown (n + 1) old ps))
    → skeleton_of (shown (suc n) new qs) ≡ with_paths (skeleton_of u) (skeleton_of (shown (suc n) r qs))
next_so qs ps r old new n t u p e f h =
    ap₂ (λ (k : ℕ) (xs : List Quant). skeleton_of (shown k new xs)) (sym (next_number n)) (sym p) ∙ h
    ∙ ap (λ (x : Tree). with_paths (skeleton_of x) (skeleton_of (shown (n + 1) old ps))) f
    ∙ ap₂ (λ (k : ℕ) (xs : List Quant). with_paths (skeleton_of u) (skeleton_of (shown k old xs))) (next_number n) p
    ∙ ap (λ (x : Node). with_paths (skeleton_of u) (skeleton_of (shown (suc n) x qs))) e

pub stamp_nodes : (n : ℕ) (new : Node) (qs ps : List Quant) → ps ≡ qs → nodes (skeleton_of (shown (n + 1) new ps)) ≡ nodes (skeleton_of (shown (suc n) new qs))
stamp_nodes n new qs ps p = ap₂ (λ (k : ℕ) (xs : List Quant). nodes (skeleton_of (shown k new xs))) (next_number n) p

pub cut_grown : (s : Sort) (qs : List Quant) (r new cut : Node) (n b : ℕ) → IsGrown s qs r n b → IsLater qs r new n → ((k : ℕ) → IsTrue (is_sound k new) → IsTrue (is_sound n cut))
    → ((k v : ℕ) (xs : List Quant) → IsTrue (is_sound k new) → v ≤ n → shown v cut xs ≡ shown v new xs) → IsGrown s qs cut n b
cut_grown s qs r new cut n b g l f h = kept_grown s qs r cut n b g (f (suc n) l.sound) (λ v k. h (suc n) v qs l.sound k ∙ l.kept v (omega (arith, k)))

pub cut_versions : (qs : List Quant) (r new cut : Node) (n : ℕ) → IsLater qs r new n → ((k v : ℕ) (xs : List Quant) → IsTrue (is_sound k new) → v ≤ n → shown v cut xs ≡ shown v new xs)
    → (let g : Versions = record { prefix = qs; versions = up_to cut qs n } in g) ≡ record { prefix = qs; versions = up_to r qs n }
cut_versions qs r new cut n l h =
    ap (λ (ts : List Tree). let g : Versions = record { prefix = qs; versions = ts } in g) (up_to_same cut r qs n (λ v k. h (suc n) v qs l.sound k ∙ l.kept v (omega (arith, k))))

pub grown_at : (s : Sort) (qs : List Quant) (old new : Node) (n a b : ℕ) (C : WrittenSkeleton) → IsGrown s qs old n a → IsLater qs old new n → skeleton_of (shown (suc n) new qs) ≡ with_paths (skeleton_of C.tree) (skeleton_of (shown (suc n) old qs))
    → qs ≡ C.prefix → FollowsPrefix s C → nodes (skeleton_of (shown (suc n) new qs)) ≤ b → b ≤ node_limit → IsGrown s qs new (n + 1) b
grown_at s qs old new n a b C g l u p f k m = subst (λ (j : ℕ). IsGrown s qs new j b) (sym (next_number n)) (grown_once s qs old new n a b C g l.sound l.kept u p f k m)

pub list_at : (vs : List Tree) (qs : List Quant) (old new : Node) (n : ℕ) (C : Skeleton) → up_to old qs n ≡ vs → IsTrue (is_sound n old) → IsLater qs old new n → skeleton_of (shown (suc n) new qs) ≡ with_paths C (skeleton_of (shown (suc n) old qs)) → Grows vs C (up_to new qs (n + 1))
list_at vs qs old new n C e h l u =
    subst (λ (j : ℕ). Grows vs C (up_to new qs j)) (sym (next_number n)) (subst (λ (xs : List Tree). Grows xs C (up_to new qs (suc n))) e (grown_list qs old new n C h l.kept u))
