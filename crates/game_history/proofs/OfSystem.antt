-- Whether a literal is one of a losing system: of the definitions node by node, of the paths one by one.
use Rattle.std.specs.Prelude.{ℕ, zero, suc, ◌+◌, ◌<◌, ◌≤◌, ◌≡◌, ◌⊎◌, ◌↔◌, IsTrue, nat_eq, Bool, true, false, Option, Some, None, option_and_then, slice_get, get_or, drop, List, [], ◌∷◌, ◌++◌, length, ⊤}
use Rattle.std.proofs.Common.{arith, ap, ◌∙◌, sym, subst, refl, inl, inr, cond}
use Rattle.std.proofs.lemmas.Bool.{cases_lt}
use Rattle.std.proofs.lemmas.List.{at_drop_all}
use Rattle.lin_term.specs.declared.Sort.{Sort}
use Rattle.lin_term.specs.declared.Lit.{Lit}
use Rattle.lin_term.specs.Definition.{Definition, definition}
use Rattle.dom_core.specs.declared.Matrix.{Matrix as Written, fold-roll-Matrix}
use Rattle.dom_core.specs.declared.Matrix.TheVariants.{Lit as Leaf, And, Or, rolls-Lit, rolls-And, rolls-Or}
use Rattle.dom_core.specs.declared.Matrix.TheOpen.{Matrix-F}
use Rattle.dom_core.specs.Game.{Matrix, Matrices, lit, all, some}
use Rattle.dom_core.specs.View.{matrix_of, matrices_of, matrix_step}
use Rattle.dom_core.proofs.AddingLemmas.{split_at}
use Rattle.game_tree.specs.Skeleton.{Skeleton, end, theirs, mine, Branches, no_more, branch, nodes}
use Rattle.lose_system.specs.Losing.{definitions, branch_definitions, definition_at, literal_number}
use Rattle.lose_system.proofs.Found.{first_only, second_only, other_node, same_node, none_before, none_before_branches, none_after}
use Rattle.game_tree.specs.Among.{IsAmong, EachIs, SomeIs}
use Rattle.game_history.specs.Legal.{definition_literals, IsOfMatrix, IsOfSome}
use Rattle.game_history.specs.Literals.{IsLiteralOf}

fails : {P : Type 0} → ¬ P → IsTrue false ↔ P
fails h = (λ e. absurd (cc), λ p. absurd (h p))

holds : {P : Type 0} → P → IsTrue true ↔ P
holds p = (λ e. p, λ q. refl)

pub refuted : (r : Bool) (P : Type 0) → (IsTrue r ↔ P) → r ≡ false → ¬ P
refuted r P h e p = let u : r ≡ true = h.1 p in let v : true ≡ false = sym u ∙ e in absurd (cc)

-- ---- one node

pub no_definition : (o : Option Definition) (l : Lit) → None ≡ option_and_then (literal_number 0) o → IsTrue false ↔ IsLiteralOf o l
no_definition None l e = fails (λ h. h)
no_definition (Some d) l e = absurd (cc)

pub no_lower : (o : Option Definition) (l : Lit) → None ≡ option_and_then (literal_number 1) o → IsTrue false ↔ IsLiteralOf o l
no_lower None l e = fails (λ h. h)
no_lower (Some d) l e = absurd (cc)

pub is_upper : (o : Option Definition) (l u : Lit) → Some u ≡ option_and_then (literal_number 0) o → l ≡ u → IsTrue true ↔ IsLiteralOf o l
is_upper None l u e h = absurd (cc)
is_upper (Some d) l u e h = let c : u ≡ d.upper = cc in holds (inl (h ∙ c))

only_lower : (d : Definition) (l u : Lit) → u ≡ d.upper → ¬ (l ≡ u) → (l ≡ d.upper) ⊎ (l ≡ d.lower) → l ≡ d.lower
only_lower d l u c n (inl e) = absurd (n (e ∙ sym c))
only_lower d l u c n (inr e) = e

pub lower_says : (o : Option Definition) (l u w : Lit) (r : Bool) → Some u ≡ option_and_then (literal_number 0) o → Some w ≡ option_and_then (literal_number 1) o → ¬ (l ≡ u) → (IsTrue r ↔ (l ≡ w)) → IsTrue r ↔ IsLiteralOf o l
lower_says None l u w r e g n h = absurd (cc)
lower_says (Some d) l u w r e g n h =
    let c : u ≡ d.upper = cc in
    let b : w ≡ d.lower = cc in
    (λ q. inr (h.0 q ∙ b), λ x. h.1 (only_lower d l u c n x ∙ sym b))

-- ---- all nodes

-- the literal is not one of the definition
abbrev IsNotOf : Lit → Definition → Type 0
IsNotOf l d = ¬ ((l ≡ d.upper) ⊎ (l ≡ d.lower))

abbrev EachNot : List Definition → Lit → Type 0
EachNot [] l = ⊤
EachNot (d ∷ ds) l = IsNotOf l d × EachNot ds l

not-append : (ds es : List Definition) (l : Lit) → EachNot ds l → EachNot es l → EachNot (ds ++ es) l
not-append [] es l a b = b
not-append (d ∷ ds) es l a b = (a.0, not-append ds es l a.1 b)

not_at_none : (l : Lit) (o : Option Definition) → o ≡ None → ¬ IsLiteralOf o l
not_at_none l o e = subst (λ (x : Option Definition). ¬ IsLiteralOf x l) (sym e) (λ h. h)

mutual
  each_of_nodes : (S : Skeleton) (s : Sort) (names : List ℕ) (v : ℕ) (l : Lit) → ((w : ℕ) → ¬ IsLiteralOf (definition_at (definitions S s names v) w) l) → EachNot (definitions S s names v) l
  each_of_nodes end s names v l h = tt
  each_of_nodes (theirs S) s names v l h = each_of_nodes S s (names ++ v ∷ []) (suc v) l h
  each_of_nodes (mine bs) s names v l h = each_of_branches bs s names v l h

  each_of_branches : (bs : Branches) (s : Sort) (names : List ℕ) (v : ℕ) (l : Lit) → ((w : ℕ) → ¬ IsLiteralOf (definition_at (branch_definitions bs s names v) w) l) → EachNot (branch_definitions bs s names v) l
  each_of_branches no_more s names v l h = tt
  each_of_branches (branch m S bs) s names v l h =
      let d : Definition = definition s m names v in
      let ds : List Definition = definitions S s (names ++ v ∷ []) (suc v) in
      let es : List Definition = branch_definitions bs s names (suc v + nodes S) in (
        subst (λ (o : Option Definition). ¬ IsLiteralOf o l) (same_node d (ds ++ es) v refl) (h v),
        not-append ds es l
            (each_of_nodes S s (names ++ v ∷ []) (suc v) l
            (λ w. elim (cases_lt v w) [
              | inl less ↦ (elim (cases_lt w (suc v + nodes S)) [
                | inl inside ↦ subst (λ (o : Option Definition). ¬ IsLiteralOf o l) (other_node d (ds ++ es) w (λ q. omega arith) ∙ first_only ds es w (none_before_branches bs s names (suc v + nodes S) w inside)) (h w)
                | inr beyond ↦ not_at_none l (definition_at ds w) (none_after S s (names ++ v ∷ []) (suc v) w beyond)
              ])
              | inr late ↦ not_at_none l (definition_at ds w) (none_before S s (names ++ v ∷ []) (suc v) w (omega arith))
            ]))
            (each_of_branches bs s names (suc v + nodes S) l
            (λ w. elim (cases_lt w (suc v + nodes S)) [
              | inl inside ↦ not_at_none l (definition_at es w) (none_before_branches bs s names (suc v + nodes S) w inside)
              | inr beyond ↦ subst (λ (o : Option Definition). ¬ IsLiteralOf o l) (other_node d (ds ++ es) w (λ q. omega arith) ∙ second_only ds es w (none_after S s (names ++ v ∷ []) (suc v) w beyond)) (h w)
            ])),
      )

not_among : (ds : List Definition) (l : Lit) → EachNot ds l → ¬ IsAmong l (definition_literals ds)
not_among [] l n h = h
not_among (d ∷ ds) l n (inl e) = n.0 (inl e)
not_among (d ∷ ds) l n (inr (inl e)) = n.0 (inr e)
not_among (d ∷ ds) l n (inr (inr h)) = not_among ds l n.1 h

among_at : (ds : List Definition) (w : ℕ) (l : Lit) → IsLiteralOf (definition_at ds w) l → IsAmong l (definition_literals ds)
among_at [] w l h = absurd h
among_at (d ∷ ds) w l h = by (nat_eq d.node w) h (among_at ds w l)
  where
    here : (l ≡ d.upper) ⊎ (l ≡ d.lower) → IsAmong l (definition_literals (d ∷ ds))
    here (inl e) = inl e
    here (inr e) = inr (inl e)

    by : (b : Bool) → IsLiteralOf (cond b (Some d) (definition_at ds w)) l → (IsLiteralOf (definition_at ds w) l → IsAmong l (definition_literals ds)) → IsAmong l (definition_literals (d ∷ ds))
    by true k g = here k
    by false k g = inr (inr (g k))

-- none of the nodes before n has the literal
abbrev pub NoneBefore : List Definition → Lit → ℕ → Type 0
NoneBefore ds l n = (w : ℕ) → w < n → ¬ IsLiteralOf (definition_at ds w) l

pub none_yet : (ds : List Definition) (l : Lit) → NoneBefore ds l 0
none_yet ds l w h = absurd (omega arith)

pub none_more : (ds : List Definition) (l : Lit) (v : ℕ) → NoneBefore ds l v → ¬ IsLiteralOf (definition_at ds v) l → NoneBefore ds l (v + 1)
none_more ds l v h k w b = elim (cases_lt w v) [
  | inl less ↦ h w less
  | inr late ↦ let e : v ≡ w = omega arith in subst (λ (j : ℕ). ¬ IsLiteralOf (definition_at ds j) l) e k
]

pub found_at : (ds : List Definition) (l : Lit) (v : ℕ) → IsLiteralOf (definition_at ds v) l → IsTrue true ↔ IsAmong l (definition_literals ds)
found_at ds l v h = holds (among_at ds v l h)

pub none_at_all : (S : Skeleton) (s : Sort) (l : Lit) (n : ℕ) → nodes S ≤ n → NoneBefore (definitions S s [] 0) l n → IsTrue false ↔ IsAmong l (definition_literals (definitions S s [] 0))
none_at_all S s l n b h =
    fails (not_among (definitions S s [] 0) l (each_of_nodes S s [] 0 l (λ w. elim (cases_lt w n) [
      | inl inside ↦ h w inside
      | inr beyond ↦ not_at_none l (definition_at (definitions S s [] 0) w) (none_after S s [] 0 w (omega arith))
    ])))

-- ---- lists, one by one

-- none before k
abbrev pub NoneOf : {A : Type 0} → (A → Type 0) → List A → ℕ → Type 0
NoneOf {A} P xs k = (j : ℕ) (x : A) → j < k → slice_get xs j ≡ Some x → ¬ P x

pub none_of_yet : {A : Type 0} → (P : A → Type 0) (xs : List A) → NoneOf P xs 0
none_of_yet {A} P xs j x h e = absurd (omega arith)

some_inner : {A : Type 0} → (x y : A) → Some x ≡ Some y → x ≡ y
some_inner {A} x y e = cc

pub none_of_more : {A : Type 0} → (P : A → Type 0) (xs : List A) (k : ℕ) (y : A) → NoneOf P xs k → slice_get xs k ≡ Some y → ¬ P y → NoneOf P xs (k + 1)
none_of_more {A} P xs k y h g n j x b e = elim (cases_lt j k) [
  | inl less ↦ h j x less e
  | inr late ↦ let q : j ≡ k = omega arith in subst (λ (z : A). ¬ P z) (some_inner y x (sym g ∙ sym (ap (slice_get xs) q) ∙ e)) n
]

pub some_at : {A : Type 0} → (P : A → Type 0) (xs : List A) (k : ℕ) (y : A) → slice_get xs k ≡ Some y → P y → SomeIs P xs
some_at {A} P [] k y e p = absurd (cc)
some_at {A} P (x ∷ xs) zero y e p = inl (subst P (some_inner y x (sym e)) p)
some_at {A} P (x ∷ xs) (suc k) y e p = inr (some_at P xs k y e p)

none_of_tail : {A : Type 0} → (P : A → Type 0) (x : A) (xs : List A) (k : ℕ) → NoneOf P (x ∷ xs) (suc k) → NoneOf P xs k
none_of_tail {A} P x xs k h j y b e = h (suc j) y (omega (arith, b)) e

pub not_some : {A : Type 0} → (P : A → Type 0) (xs : List A) (k : ℕ) → length xs ≤ k → NoneOf P xs k → ¬ SomeIs P xs
not_some {A} P [] k b h s = s
not_some {A} P (x ∷ xs) zero b h s = absurd (omega (arith, b))
not_some {A} P (x ∷ xs) (suc k) b h (inl p) = h 0 x (omega arith) refl p
not_some {A} P (x ∷ xs) (suc k) b h (inr s) = not_some P xs k (omega (arith, b)) (none_of_tail P x xs k h) s

pub past_all : {A : Type 0} → (xs : List A) (k : ℕ) → slice_get xs k ≡ None → length xs ≤ k
past_all {A} [] k e = omega arith
past_all {A} (x ∷ xs) zero e = absurd (cc)
past_all {A} (x ∷ xs) (suc k) e = let h = past_all xs k e in omega arith

-- each before k
abbrev pub AllOf : {A : Type 0} → (A → Type 0) → List A → ℕ → Type 0
AllOf {A} P xs k = (j : ℕ) (x : A) → j < k → slice_get xs j ≡ Some x → P x

pub all_of_yet : {A : Type 0} → (P : A → Type 0) (xs : List A) → AllOf P xs 0
all_of_yet {A} P xs j x h e = absurd (omega arith)

pub all_of_more : {A : Type 0} → (P : A → Type 0) (xs : List A) (k : ℕ) (y : A) → AllOf P xs k → slice_get xs k ≡ Some y → P y → AllOf P xs (k + 1)
all_of_more {A} P xs k y h g n j x b e = elim (cases_lt j k) [
  | inl less ↦ h j x less e
  | inr late ↦ let q : j ≡ k = omega arith in subst P (some_inner y x (sym g ∙ sym (ap (slice_get xs) q) ∙ e)) n
]

all_of_tail : {A : Type 0} → (P : A → Type 0) (x : A) (xs : List A) (k : ℕ) → AllOf P (x ∷ xs) (suc k) → AllOf P xs k
all_of_tail {A} P x xs k h j y b e = h (suc j) y (omega (arith, b)) e

pub each_of : {A : Type 0} → (P : A → Type 0) (xs : List A) (k : ℕ) → length xs ≤ k → AllOf P xs k → EachIs P xs
each_of {A} P [] k b h = tt
each_of {A} P (x ∷ xs) zero b h = absurd (omega (arith, b))
each_of {A} P (x ∷ xs) (suc k) b h = (h 0 x (omega arith) refl, each_of P xs k (omega (arith, b)) (all_of_tail P x xs k h))

pub each_get : {A : Type 0} → (P : A → Type 0) (xs : List A) (k : ℕ) (y : A) → slice_get xs k ≡ Some y → EachIs P xs → P y
each_get {A} P [] k y e h = absurd (cc)
each_get {A} P (x ∷ xs) zero y e h = subst P (some_inner x y e) h.0
each_get {A} P (x ∷ xs) (suc k) y e h = each_get P xs k y e h.1

pub get_item : {A : Type 0} → (xs : List A) (i : ℕ) (x : A) → i < length xs → x ≡ get_or xs i x → slice_get xs i ≡ Some x
get_item {A} [] i x b e = absurd (omega (arith, b))
get_item {A} (y ∷ xs) zero x b e = ap Some (sym e)
get_item {A} (y ∷ xs) (suc i) x b e = get_item xs i x (omega (arith, b)) e

-- ---- matrices

pub seen_leaf : (l : Lit) → matrix_of (Leaf l) ≡ lit l
seen_leaf l = ap matrix_of (sym (rolls-Lit l)) ∙ fold-roll-Matrix Matrix matrix_step (Matrix-F.Lit l)

pub seen_and : (ts : List Written) → matrix_of (And ts) ≡ all (matrices_of ts)
seen_and ts = ap matrix_of (sym (rolls-And ts)) ∙ fold-roll-Matrix Matrix matrix_step (Matrix-F.And ts)

pub seen_or : (ts : List Written) → matrix_of (Or ts) ≡ some (matrices_of ts)
seen_or ts = ap matrix_of (sym (rolls-Or ts)) ∙ fold-roll-Matrix Matrix matrix_step (Matrix-F.Or ts)

-- if one of all has the literal, one from here on has
abbrev pub IsFrom : Lit → List Written → ℕ → Type 0
IsFrom l ts i = IsOfSome l (matrices_of ts) → IsOfSome l (matrices_of (drop i ts))

drop_in : (l : Lit) (ts : List Written) (i : ℕ) → IsOfSome l (matrices_of (drop i ts)) → IsOfSome l (matrices_of ts)
drop_in l [] zero h = h
drop_in l [] (suc i) h = h
drop_in l (t ∷ ts) zero h = h
drop_in l (t ∷ ts) (suc i) h = inr (drop_in l ts i h)

pub part_has : (l : Lit) (ts : List Written) (i : ℕ) (t : Written) → i < length ts → t ≡ get_or ts i t → IsOfMatrix l (matrix_of t) → IsTrue true ↔ IsOfSome l (matrices_of ts)
part_has l ts i t b e h = holds (drop_in l ts i (subst (λ (us : List Written). IsOfSome l (matrices_of us)) (sym (split_at ts i t b e)) (inl h)))

later_part : (l : Lit) (m : Matrix) (ms : Matrices) → ¬ IsOfMatrix l m → IsOfMatrix l m ⊎ IsOfSome l ms → IsOfSome l ms
later_part l m ms n (inl h) = absurd (n h)
later_part l m ms n (inr h) = h

pub part_lacks : (l : Lit) (ts : List Written) (i : ℕ) (t : Written) → i < length ts → t ≡ get_or ts i t → ¬ IsOfMatrix l (matrix_of t) → IsFrom l ts i → IsFrom l ts (i + 1)
part_lacks l ts i t b e n h k = later_part l (matrix_of t) (matrices_of (drop (i + 1) ts)) n (subst (λ (us : List Written). IsOfSome l (matrices_of us)) (split_at ts i t b e) (h k))

pub no_part : (l : Lit) (ts : List Written) (i : ℕ) → length ts ≤ i → IsFrom l ts i → IsTrue false ↔ IsOfSome l (matrices_of ts)
no_part l ts i b h = fails (λ k. subst (λ (ms : Matrices). IsOfSome l ms) (at_drop_all (λ (us : List Written). matrices_of us) ts i b) (h k))

-- ---- one or the other

pub first_says : {A B : Type 0} → A → IsTrue true ↔ (A ⊎ B)
first_says a = holds (inl a)

second_of : {A B : Type 0} → ¬ A → A ⊎ B → B
second_of n (inl a) = absurd (n a)
second_of n (inr b) = b

pub second_says : {A B : Type 0} → (r : Bool) → ¬ A → (IsTrue r ↔ B) → IsTrue r ↔ (A ⊎ B)
second_says r n h = (λ e. inr (h.0 e), λ x. h.1 (second_of n x))

pub one_fails : {A : Type 0} → (P : A → Type 0) (xs : List A) (k : ℕ) (y : A) → slice_get xs k ≡ Some y → ¬ P y → IsTrue false ↔ EachIs P xs
one_fails {A} P xs k y e n = fails (λ h. n (each_get P xs k y e h))

pub all_hold : {A : Type 0} → (P : A → Type 0) (xs : List A) (k : ℕ) → length xs ≤ k → AllOf P xs k → IsTrue true ↔ EachIs P xs
all_hold {A} P xs k b h = holds (each_of P xs k b h)

pub some_found : {A : Type 0} → (P : A → Type 0) (xs : List A) (k : ℕ) (y : A) → slice_get xs k ≡ Some y → P y → IsTrue true ↔ SomeIs P xs
some_found {A} P xs k y e p = holds (some_at P xs k y e p)

pub none_found : {A : Type 0} → (P : A → Type 0) (xs : List A) (k : ℕ) → length xs ≤ k → NoneOf P xs k → IsTrue false ↔ SomeIs P xs
none_found {A} P xs k b h = fails (not_some P xs k b h)
