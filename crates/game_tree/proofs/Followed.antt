-- Whether a tree follows a prefix, branch by branch.
use Rattle.std.specs.Prelude.{ℕ, zero, suc, ◌+◌, ◌<◌, ◌≤◌, ◌≡◌, ◌≢◌, ◌↔◌, IsTrue, ℤ, Bool, true, false, List, [], ◌∷◌, get_or, drop, length, ⊤}
use Rattle.std.specs.Bool.{◌==◌}
use Rattle.std.proofs.Common.{arith, ap, ◌∙◌, sym, subst, refl}
use Rattle.std.proofs.lemmas.List.{drop_more, drop_all}
use Rattle.lin_term.specs.declared.Sort.{Sort}
use Rattle.lin_term.specs.Linear.{Below, BelowTerms}
use Rattle.lin_term.specs.Move.{Move, IsMove}
use Rattle.lin_term.specs.Definition.{IsKeptMove}
use Rattle.dom_core.specs.declared.Quant.{Quant}
use Rattle.game_tree.specs.declared.tree.Branch.{Branch}
use Rattle.game_tree.specs.Skeleton.{Skeleton, Branches, no_more, branch, IsMoveAt, IsNew, IsSomeBranch, Follows, EachFollows}
use Rattle.game_tree.specs.Distinct.{AreDistinct}
use Rattle.game_tree.specs.View.{skeleton_of, branches_of}
use Rattle.game_tree.proofs.Views.{branches_at, branches_done}

-- what a test that fails, and one that holds, says
pub fails : {P : Type 0} → ¬ P → IsTrue false ↔ P
fails h = (λ e. absurd (cc), λ p. absurd (h p))

pub holds : {P : Type 0} → P → IsTrue true ↔ P
holds p = (λ e. p, λ q. refl)

pub refuted : (r : Bool) (P : Type 0) → (IsTrue r ↔ P) → r ≡ false → ¬ P
refuted r P h e p = let u : r ≡ true = h.1 p in let v : true ≡ false = sym u ∙ e in absurd (cc)

-- ---- the variables of a move

below_at : (k : ℕ) (ts : List (ℕ × ℤ)) (i : ℕ) (d : ℕ × ℤ) → i < length ts → BelowTerms k ts → (get_or ts i d).0 < k
below_at k [] i d l h = absurd (omega arith)
below_at k (t ∷ ts) zero d l h = h.0
below_at k (t ∷ ts) (suc i) d l h = below_at k ts i d (omega arith) h.1

pub not_below : (k : ℕ) (ts : List (ℕ × ℤ)) (i : ℕ) (d : ℕ × ℤ) → i < length ts → k ≤ (get_or ts i d).0 → IsTrue false ↔ BelowTerms k ts
not_below k ts i d l h = fails (λ b. let a = below_at k ts i d l b in absurd (omega arith))

pub below_more : (k : ℕ) (ts : List (ℕ × ℤ)) (i : ℕ) (t : ℕ × ℤ) → i < length ts → t ≡ get_or ts i t → t.0 < k → (BelowTerms k (drop i ts) → BelowTerms k ts) → BelowTerms k (drop (i + 1) ts) → BelowTerms k ts
below_more k ts i t l e h f b =
    f (subst (λ (us : List (ℕ × ℤ)). BelowTerms k us) (sym (drop_more ts i t l ∙ ap (λ (u : ℕ × ℤ). u ∷ drop (i + 1) ts) (sym e))) (h, b))

pub below_all : (k : ℕ) (ts : List (ℕ × ℤ)) (i : ℕ) → length ts ≤ i → (BelowTerms k (drop i ts) → BelowTerms k ts) → IsTrue true ↔ BelowTerms k ts
below_all k ts i l f = holds (f (subst (λ (us : List (ℕ × ℤ)). BelowTerms k us) (sym (drop_all i ts l)) tt))

-- ---- one move

pub is_at : (s : Sort) (k : ℕ) (m : Move) (r : Bool) → IsMove m → Below k m.numer → (IsTrue r ↔ IsKeptMove s m) → IsTrue r ↔ IsMoveAt s k m
is_at s k m r w b h = (λ e. record { written = w; earlier = b; kept = h.0 e }, λ a. h.1 a.kept)

-- ---- a move and the branches behind it

new_drop : (m : Move) (bs : List Branch) (i : ℕ) → IsNew m (branches_of bs) → IsNew m (branches_of (drop i bs))
new_drop m [] zero h = h
new_drop m [] (suc i) h = h
new_drop m (b ∷ bs) zero h = h
new_drop m (b ∷ bs) (suc i) h = new_drop m bs i h.1

pub not_new : (m : Move) (bs : List Branch) (i : ℕ) (b : Branch) → i < length bs → b ≡ get_or bs i b → m ≡ b.term → IsTrue false ↔ IsNew m (branches_of bs)
not_new m bs i b l e q = fails (λ h. (subst (λ (x : Branches). IsNew m x) (branches_at bs i b l e) (new_drop m bs i h)).0 q)

pub new_more : (m : Move) (bs : List Branch) (i : ℕ) (b : Branch) → i < length bs → b ≡ get_or bs i b → m ≢ b.term → (IsNew m (branches_of (drop i bs)) → IsNew m (branches_of bs)) → IsNew m (branches_of (drop (i + 1) bs)) → IsNew m (branches_of bs)
new_more m bs i b l e q f h = f (subst (λ (x : Branches). IsNew m x) (sym (branches_at bs i b l e)) (q, h))

pub new_all : (m : Move) (bs : List Branch) (i : ℕ) → length bs ≤ i → (IsNew m (branches_of (drop i bs)) → IsNew m (branches_of bs)) → IsTrue true ↔ IsNew m (branches_of bs)
new_all m bs i l f = holds (f (subst (λ (x : Branches). IsNew m x) (sym (branches_done bs i l)) tt))

distinct_drop : (bs : List Branch) (i : ℕ) → AreDistinct (branches_of bs) → AreDistinct (branches_of (drop i bs))
distinct_drop [] zero h = h
distinct_drop [] (suc i) h = h
distinct_drop (b ∷ bs) zero h = h
distinct_drop (b ∷ bs) (suc i) h = distinct_drop bs i h.1

pub not_distinct : (bs : List Branch) (i : ℕ) (b : Branch) → i < length bs → b ≡ get_or bs i b → ¬ IsNew b.term (branches_of (drop (i + 1) bs)) → IsTrue false ↔ AreDistinct (branches_of bs)
not_distinct bs i b l e n = fails (λ h. n (subst AreDistinct (branches_at bs i b l e) (distinct_drop bs i h)).0)

pub distinct_more : (bs : List Branch) (i : ℕ) (b : Branch) → i < length bs → b ≡ get_or bs i b → IsNew b.term (branches_of (drop (i + 1) bs)) → (AreDistinct (branches_of (drop i bs)) → AreDistinct (branches_of bs)) → AreDistinct (branches_of (drop (i + 1) bs)) → AreDistinct (branches_of bs)
distinct_more bs i b l e n f h = f (subst AreDistinct (sym (branches_at bs i b l e)) (n, h))

pub distinct_all : (bs : List Branch) (i : ℕ) → length bs ≤ i → (AreDistinct (branches_of (drop i bs)) → AreDistinct (branches_of bs)) → IsTrue true ↔ AreDistinct (branches_of bs)
distinct_all bs i l f = holds (f (subst AreDistinct (sym (branches_done bs i l)) tt))

-- ---- the branches of a node

pub at_next : (r : Bool) (S : Skeleton) (s : Sort) (qs : List Quant) (k : ℕ) → (IsTrue r ↔ Follows S s qs (k + 1)) → IsTrue r ↔ Follows S s qs (suc k)
at_next r S s qs k h = subst (λ (n : ℕ). IsTrue r ↔ Follows S s qs n) (let o : k + 1 ≡ suc k = omega arith in o) h

-- each has a move for this position, and a tree that follows
abbrev pub EachPart : Branches → Sort → List Quant → ℕ → Type 0
EachPart no_more s qs k = ⊤
EachPart (branch m t bs) s qs k = IsMoveAt s k m × Follows t s qs (suc k) × EachPart bs s qs k

part_drop : (bs : List Branch) (i : ℕ) (s : Sort) (qs : List Quant) (k : ℕ) → EachFollows (branches_of bs) s qs k → EachFollows (branches_of (drop i bs)) s qs k
part_drop [] zero s qs k h = h
part_drop [] (suc i) s qs k h = h
part_drop (b ∷ bs) zero s qs k h = h
part_drop (b ∷ bs) (suc i) s qs k h = part_drop bs i s qs k h.3

some_at : (bs : List Branch) → length bs ≢ 0 → IsSomeBranch (branches_of bs)
some_at [] h = absurd (h refl)
some_at (b ∷ bs) h = tt

pub not_empty : (bs : List Branch) (r : Bool) → r ≡ (length bs == 0) → r ≡ false → length bs ≢ 0
not_empty [] r e f = let u : true ≡ false = sym e ∙ f in absurd (cc)
not_empty (b ∷ bs) r e f = λ q. absurd (omega (arith, q))

each_distinct : (bs : Branches) (s : Sort) (qs : List Quant) (k : ℕ) → EachFollows bs s qs k → AreDistinct bs
each_distinct no_more s qs k h = tt
each_distinct (branch m t bs) s qs k h = (h.1, each_distinct bs s qs k h.3)

each_of : (bs : Branches) (s : Sort) (qs : List Quant) (k : ℕ) → EachPart bs s qs k → AreDistinct bs → EachFollows bs s qs k
each_of no_more s qs k h d = tt
each_of (branch m t bs) s qs k h d = (h.0, d.0, h.1, each_of bs s qs k h.2 d.1)

abbrev pub NodeFollows : List Branch → Sort → List Quant → ℕ → Type 0
NodeFollows bs s qs k = IsSomeBranch (branches_of bs) × EachFollows (branches_of bs) s qs k

pub no_branch : (bs : List Branch) (s : Sort) (qs : List Quant) (k : ℕ) → length bs ≡ 0 → IsTrue false ↔ NodeFollows bs s qs k
no_branch [] s qs k e = fails (λ h. h.0)
no_branch (b ∷ bs) s qs k e = absurd (omega (arith, e))

pub twice : (bs : List Branch) (s : Sort) (qs : List Quant) (k : ℕ) → ¬ AreDistinct (branches_of bs) → IsTrue false ↔ NodeFollows bs s qs k
twice bs s qs k n = fails (λ h. n (each_distinct (branches_of bs) s qs k h.1))

pub bad_move : (bs : List Branch) (s : Sort) (qs : List Quant) (k i : ℕ) (b : Branch) → i < length bs → b ≡ get_or bs i b → ¬ IsMoveAt s k b.term → IsTrue false ↔ NodeFollows bs s qs k
bad_move bs s qs k i b l e n = fails (λ h. n (subst (λ (x : Branches). EachFollows x s qs k) (branches_at bs i b l e) (part_drop bs i s qs k h.1)).0)

pub bad_rest : (bs : List Branch) (s : Sort) (qs : List Quant) (k i : ℕ) (b : Branch) → i < length bs → b ≡ get_or bs i b → ¬ Follows (skeleton_of b.rest) s qs (suc k) → IsTrue false ↔ NodeFollows bs s qs k
bad_rest bs s qs k i b l e n = fails (λ h. n (subst (λ (x : Branches). EachFollows x s qs k) (branches_at bs i b l e) (part_drop bs i s qs k h.1)).2)

pub part_more : (bs : List Branch) (s : Sort) (qs : List Quant) (k i : ℕ) (b : Branch) → i < length bs → b ≡ get_or bs i b → IsMoveAt s k b.term → Follows (skeleton_of b.rest) s qs (suc k)
    → (EachPart (branches_of (drop i bs)) s qs k → EachPart (branches_of bs) s qs k) → EachPart (branches_of (drop (i + 1) bs)) s qs k → EachPart (branches_of bs) s qs k
part_more bs s qs k i b l e m t f h = f (subst (λ (x : Branches). EachPart x s qs k) (sym (branches_at bs i b l e)) (m, t, h))

pub node_follows : (bs : List Branch) (s : Sort) (qs : List Quant) (k i : ℕ) → length bs ≢ 0 → AreDistinct (branches_of bs) → length bs ≤ i
    → (EachPart (branches_of (drop i bs)) s qs k → EachPart (branches_of bs) s qs k) → IsTrue true ↔ NodeFollows bs s qs k
node_follows bs s qs k i n d l f =
    holds (some_at bs n, each_of (branches_of bs) s qs k (f (subst (λ (x : Branches). EachPart x s qs k) (sym (branches_done bs i l)) tt)) d)
