-- What a half of a board says of the state of its side.
use Rattle.std.specs.Prelude.{ℕ, zero, suc, ◌+◌, ◌≤◌, ◌≡◌, ◌↔◌, IsTrue, Bool, true, false, replicate, Some, None, option_map, slice_get, List, [], ◌∷◌, ◌++◌, map, length}
use Rattle.std.proofs.Common.{arith, ap, ap₂, ◌∙◌, sym, subst, refl, length-append}
use Rattle.std.proofs.lemmas.List.{map-append}
use Rattle.dom_core.specs.Problem.{WrittenProblem, problem_of}
use Rattle.game_tree.specs.declared.Tree.{Tree}
use Rattle.game_tree.specs.Skeleton.{Skeleton, nodes, node_limit, zero_tree}
use Rattle.game_tree.specs.View.{skeleton_of}
use Rattle.game_tree.specs.Union.{union, In}
use Rattle.game_tree.specs.Among.{IsAmong}
use Rattle.grown_tree.specs.Versions.{newest, Grows as HasNextVersion}
use Rattle.game_history.specs.History.{SideState, version, newest_number, first_state}
use Rattle.game_board.specs.declared.half.Half.{Half}
use Rattle.game_board.specs.Half.{IsTableOf, IsHalfOf, Grows, IsTooLarge}

fails : {P : Type 0} → ¬ P → IsTrue false ↔ P
fails h = (λ e. absurd (cc), λ p. absurd (h p))

-- ---- the first version

none_true : (n v : ℕ) → ¬ (slice_get (replicate n false) v ≡ Some true)
none_true zero v e = absurd (cc)
none_true (suc n) zero e = absurd (cc)
none_true (suc n) (suc v) e = none_true n v e

no_table : (n : ℕ) → IsTableOf (replicate n false) []
no_table n = record { noted = λ v h. absurd h; listed = λ v e. absurd (none_true n v e) }

one_version : (ts : List Tree) (S : Skeleton) → length ts ≡ 1 → skeleton_of (newest ts) ≡ S → map skeleton_of ts ≡ S ∷ []
one_version [] S l e = absurd (omega (arith, l))
one_version (t ∷ []) S l e = ap (λ (T : Skeleton). T ∷ []) e
one_version (t ∷ u ∷ ts) S l e = absurd (omega (arith, l))

pub begun : {D : Type 0} → (h : Half D) (n : ℕ) → h.grown.prefix ≡ h.problem.prefix → length h.grown.versions ≡ 1 → skeleton_of (newest h.grown.versions) ≡ zero_tree h.problem.prefix → h.reach ≡ None → h.noted ≡ replicate n false → IsHalfOf h (first_state (problem_of h.problem))
begun {D} h n e l z r t = record { prefix = e; versions_are = one_version h.grown.versions (zero_tree h.problem.prefix) l z; reach = r; notes = subst (λ (xs : List Bool). IsTableOf xs []) (sym t) (no_table n) }

-- ---- versions

map_length : (xs : List Tree) → length (map skeleton_of xs) ≡ length xs
map_length [] = refl
map_length (x ∷ xs) = ap suc (map_length xs)

map_get : (xs : List Tree) (i : ℕ) → slice_get (map skeleton_of xs) i ≡ option_map skeleton_of (slice_get xs i)
map_get [] i = refl
map_get (x ∷ xs) zero = refl
map_get (x ∷ xs) (suc i) = map_get xs i

count_is : {D : Type 0} → (h : Half D) (x : SideState) → IsHalfOf h x → length h.grown.versions ≡ suc (newest_number x)
count_is {D} h x k =
    let a = map_length h.grown.versions in
    let b = ap (λ (xs : List Skeleton). length xs) k.versions_are in
    let c = length-append x.older (x.newest ∷ []) in
    omega arith

pub number_is : {D : Type 0} → (h : Half D) (n : ℕ) → length h.grown.versions ≡ n + 1 → (x : SideState) → IsHalfOf h x → n ≡ newest_number x
number_is {D} h n e x k = let c = count_is h x k in omega arith

version_at : {D : Type 0} → (h : Half D) (x : SideState) (v : ℕ) → IsHalfOf h x → version x v ≡ option_map skeleton_of (slice_get h.grown.versions v)
version_at {D} h x v k = ap (λ (xs : List Skeleton). slice_get xs v) (sym k.versions_are) ∙ map_get h.grown.versions v

some_inner : (S T : Skeleton) → Some S ≡ Some T → S ≡ T
some_inner S T e = cc

pub version_is : {D : Type 0} → (h : Half D) (x : SideState) (v : ℕ) (t : Tree) → IsHalfOf h x → slice_get h.grown.versions v ≡ Some t → version x v ≡ Some (skeleton_of t)
version_is {D} h x v t k e = version_at h x v k ∙ ap (option_map skeleton_of) e

-- a version is absent past the last one
get_past : (xs : List Tree) (i : ℕ) → length xs ≤ i → slice_get xs i ≡ None
get_past [] i l = refl
get_past (x ∷ xs) zero l = absurd (omega (arith, l))
get_past (x ∷ xs) (suc i) l = get_past xs i (omega (arith, l))

pub no_version : {D : Type 0} → (h : Half D) (x : SideState) (v : ℕ) → IsHalfOf h x → length h.grown.versions ≤ v → version x v ≡ None
no_version {D} h x v k l = version_at h x v k ∙ ap (option_map skeleton_of) (get_past h.grown.versions v l)

pub version_says : {D : Type 0} → (h : Half D) (v : ℕ) (t u : Tree) (r : Bool) → slice_get h.grown.versions v ≡ Some t → (IsTrue r ↔ (skeleton_of t ≡ skeleton_of u)) → (x : SideState) → IsHalfOf h x → IsTrue r ↔ (version x v ≡ Some (skeleton_of u))
version_says {D} h v t u r e d x k =
    let q = version_is h x v t k e in
    (λ y. q ∙ ap (λ (S : Skeleton). Some S) (d.0 y), λ f. d.1 (some_inner (skeleton_of t) (skeleton_of u) (sym q ∙ f)))

pub lacks_version : {D : Type 0} → (h : Half D) (v : ℕ) (u : Tree) → length h.grown.versions ≤ v → (x : SideState) → IsHalfOf h x → IsTrue false ↔ (version x v ≡ Some (skeleton_of u))
lacks_version {D} h v u e x k = fails (λ f. let q = sym (no_version h x v k e) ∙ f in absurd (cc))

last_is : (ts : List Tree) (older : List Skeleton) (S : Skeleton) → map skeleton_of ts ≡ older ++ S ∷ [] → skeleton_of (newest ts) ≡ S
last_is [] [] S e = absurd (cc)
last_is [] (T ∷ older) S e = absurd (cc)
last_is (t ∷ []) [] S e = cc
last_is (t ∷ []) (T ∷ []) S e = absurd (cc)
last_is (t ∷ []) (T ∷ U ∷ older) S e = absurd (cc)
last_is (t ∷ u ∷ ts) [] S e = absurd (cc)
last_is (t ∷ u ∷ ts) (T ∷ older) S e = last_is (u ∷ ts) older S (cc)

-- the newest version is that of the state
newest_is : {D : Type 0} → (h : Half D) (x : SideState) → IsHalfOf h x → skeleton_of (newest h.grown.versions) ≡ x.newest
newest_is {D} h x k = last_is h.grown.versions x.older x.newest k.versions_are

pub newest_holds : {D : Type 0} → (h : Half D) (C : Skeleton) (r : Bool) → (IsTrue r ↔ In C (skeleton_of (newest h.grown.versions))) → (x : SideState) → IsHalfOf h x → IsTrue r ↔ In C x.newest
newest_holds {D} h C r d x k = subst (λ (S : Skeleton). IsTrue r ↔ In C S) (newest_is h x k) d

-- the union with the newest version of the state
pub too_large_is : {D : Type 0} → (h : Half D) (x : SideState) (C : Skeleton) (n : ℕ) → IsHalfOf h x → IsTooLarge C h n → n ≡ nodes (union x.newest C)
too_large_is {D} h x C n k l = l.0 ∙ ap (λ (S : Skeleton). nodes (union S C)) (newest_is h x k)

-- ---- notes

some_bool : (a b : Bool) → Some a ≡ Some b → a ≡ b
some_bool a b e = cc

pub noted_says : {D : Type 0} → (h : Half D) (v : ℕ) (b : Bool) → slice_get h.noted v ≡ Some b → (x : SideState) → IsHalfOf h x → IsTrue b ↔ IsAmong v x.notes
noted_says {D} h v b e x k = (λ y. k.notes.listed v (e ∙ ap (λ (c : Bool). Some c) y), λ i. some_bool b true (sym e ∙ k.notes.noted v i))

pub none_noted : {D : Type 0} → (h : Half D) (v : ℕ) → slice_get h.noted v ≡ None → (x : SideState) → IsHalfOf h x → IsTrue false ↔ IsAmong v x.notes
none_noted {D} h v e x k = fails (λ i. let q = sym e ∙ k.notes.noted v i in absurd (cc))

-- ---- one more version

one_more : (olds news : List Tree) (older : List Skeleton) (S C : Skeleton) → HasNextVersion olds C news → map skeleton_of olds ≡ older ++ S ∷ [] → map skeleton_of news ≡ (older ++ S ∷ []) ++ union S C ∷ []
one_more olds news older S C g e =
    ap (map skeleton_of) g.appended
    ∙ map-append skeleton_of olds (g.tree ∷ [])
    ∙ ap₂ (λ (xs : List Skeleton) (T : Skeleton). xs ++ T ∷ []) e (g.is_union ∙ ap (λ (T : Skeleton). union T C) (last_is olds older S e))

newest_of : (olds news : List Tree) (older : List Skeleton) (S C : Skeleton) → HasNextVersion olds C news → map skeleton_of olds ≡ older ++ S ∷ [] → skeleton_of (newest news) ≡ union S C
newest_of olds news older S C g e = last_is news (older ++ S ∷ []) (union S C) (one_more olds news older S C g e)

pub grew : {D : Type 0} → (h i : Half D) (C : Skeleton) (v m : ℕ) → i.problem ≡ h.problem → i.noted ≡ h.noted → i.reach ≡ Some v → HasNextVersion h.grown.versions C i.grown.versions → i.grown.prefix ≡ h.grown.prefix → nodes (skeleton_of (newest i.grown.versions)) ≤ node_limit → m ≡ length h.grown.versions → Grows C v m h i
grew {D} h i C v m p n r k q l e = record {
  problem = p;
  noted = n;
  number = λ x j. e ∙ count_is h x j;
  within = λ x j. subst (λ (T : Skeleton). nodes T ≤ node_limit) (newest_of h.grown.versions i.grown.versions x.older x.newest C k j.versions_are) l;
  state = λ x j. record {
    prefix = q ∙ (j.prefix ∙ ap (λ (P : WrittenProblem). P.prefix) (sym p));
    versions_are = one_more h.grown.versions i.grown.versions x.older x.newest C k j.versions_are;
    reach = r;
    notes = subst (λ (xs : List Bool). IsTableOf xs x.notes) (sym n) j.notes;
  };
}
