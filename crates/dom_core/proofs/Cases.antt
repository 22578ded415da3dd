-- Lists of literals and lists of cubes, and which of them hold.
use Rattle.std.specs.Prelude.{ℕ, zero, suc, ◌+◌, ◌<◌, ◌≤◌, ◌≡◌, ◌⊎◌, Bool, true, false, ◌||◌, cond, List, [], ◌∷◌, ◌++◌, map, filter}
use Rattle.std.specs.List.{list_any, range_with_len, AllByRecursion}
use Rattle.std.proofs.Common.{arith, ◌∙◌, sym, subst, refl, inl, inr}
use Rattle.std.proofs.lemmas.Bool.{cases_lt}
use Rattle.lin_term.specs.declared.Lit.{Lit}
use Rattle.lin_term.specs.Linear.{Point}
use Rattle.dom_core.specs.Cube.{CubeHolds, SomeHolds}

-- some literal has it
abbrev pub SomeLit : (Lit → Type 0) → List Lit → Type 0
SomeLit F [] = ⊥
SomeLit F (l ∷ ls) = F l ⊎ SomeLit F ls

pub each_map : (F G : Lit → Type 0) (c : List Lit) → ((l : Lit) → F l → G l) → AllByRecursion F c → AllByRecursion G c
each_map F G [] k h = tt
each_map F G (l ∷ c) k h = (k l h.0, each_map F G c k h.1)

pub each_two : (F G H : Lit → Type 0) (c : List Lit) → ((l : Lit) → F l → G l → H l) → AllByRecursion F c → AllByRecursion G c → AllByRecursion H c
each_two F G H [] k h g = tt
each_two F G H (l ∷ c) k h g = (k l h.0 g.0, each_two F G H c k h.1 g.1)

pub each_four : (F G H J K : Lit → Type 0) (c : List Lit) → ((l : Lit) → F l → G l → H l → J l → K l) → AllByRecursion F c → AllByRecursion G c → AllByRecursion H c → AllByRecursion J c → AllByRecursion K c
each_four F G H J K [] k f g h j = tt
each_four F G H J K (l ∷ c) k f g h j = (k l f.0 g.0 h.0 j.0, each_four F G H J K c k f.1 g.1 h.1 j.1)

pub some_two : (F G H : Lit → Type 0) (c : List Lit) → ((l : Lit) → F l → G l → H l) → AllByRecursion F c → SomeLit G c → SomeLit H c
some_two F G H [] k h g = g
some_two F G H (l ∷ c) k h (inl g) = inl (k l h.0 g)
some_two F G H (l ∷ c) k h (inr g) = inr (some_two F G H c k h.1 g)

-- ---- the literals that pass a test

pub each_filter : (F G : Lit → Type 0) (p : Lit → Bool) (c : List Lit) → ((l : Lit) → p l ≡ true → F l → G l) → AllByRecursion F c → AllByRecursion G (filter p c)
each_filter F G p [] k h = tt
each_filter F G p (l ∷ c) k h = by (p l) refl (each_filter F G p c k h.1)
  where
    by : (b : Bool) → p l ≡ b → AllByRecursion G (filter p c) → AllByRecursion G (cond b (l ∷ filter p c) (filter p c))
    by true e r = (k l e h.0, r)
    by false e r = r

pub of_filter : (F : Lit → Type 0) (p : Lit → Bool) (c : List Lit) → AllByRecursion F (filter p c) → AllByRecursion (λ l. p l ≡ true → F l) c
of_filter F p [] h = tt
of_filter F p (l ∷ c) h = by (p l) refl h (λ r. of_filter F p c r)
  where
    by : (b : Bool) → p l ≡ b → AllByRecursion F (cond b (l ∷ filter p c) (filter p c)) → (AllByRecursion F (filter p c) → AllByRecursion (λ m. p m ≡ true → F m) c) → (p l ≡ true → F l) × AllByRecursion (λ m. p m ≡ true → F m) c
    by true e r k = (λ q. r.0, k r.1)
    by false e r k = (λ q. absurd (let u : false ≡ true = sym e ∙ q in cc), k r)

pub none_passes : (p : Lit → Bool) (c : List Lit) → list_any p c ≡ false → AllByRecursion (λ l. p l ≡ false) c
none_passes p [] e = tt
none_passes p (l ∷ c) e = by (p l) refl e (λ u. none_passes p c u)
  where
    by : (b : Bool) → p l ≡ b → (b || list_any p c) ≡ false → (list_any p c ≡ false → AllByRecursion (λ m. p m ≡ false) c) → (p l ≡ false) × AllByRecursion (λ m. p m ≡ false) c
    by true q e k = absurd (cc)
    by false q e k = (q, k e)

-- a literal that passes the test with the least measure
pub record Fewest (p : Lit → Bool) (g : Lit → ℕ) (c : List Lit) : Type 0 where
  pub least : ℕ
  pub each : AllByRecursion (λ l. p l ≡ true → least ≤ g l) c
  pub some : SomeLit (λ l. (p l ≡ true) × (g l ≡ least)) c

pub fewest : (p : Lit → Bool) (g : Lit → ℕ) (c : List Lit) → list_any p c ≡ true → Fewest p g c
fewest p g [] e = absurd (cc)
fewest p g (l ∷ c) e = by (p l) (list_any p c) refl refl e (λ u. fewest p g c u)
  where
    by : (a b : Bool) → p l ≡ a → list_any p c ≡ b → (a || b) ≡ true → (list_any p c ≡ true → Fewest p g c) → Fewest p g (l ∷ c)
    by true true q r e k =
        let f = k r in
        elim (cases_lt (g l) f.least) [
          | inl less ↦ record { least = g l; each = (λ t. omega arith, each_map (λ m. p m ≡ true → f.least ≤ g m) (λ m. p m ≡ true → g l ≤ g m) c (λ m j t. let u = j t in omega arith) f.each); some = inl (q, refl) }
          | inr more ↦ record { least = f.least; each = (λ t. more, f.each); some = inr f.some }
        ]
    by true false q r e k =
        record { least = g l; each = (λ t. omega arith, each_map (λ m. p m ≡ false) (λ m. p m ≡ true → g l ≤ g m) c (λ m j t. absurd (let u : false ≡ true = sym j ∙ t in cc)) (none_passes p c r)); some = inl (q, refl) }
    by false true q r e k =
        let f = k r in
        record { least = f.least; each = (λ t. absurd (let u : false ≡ true = sym q ∙ t in cc), f.each); some = inr f.some }
    by false false q r e k = absurd (cc)

-- ---- cubes in parts

pub cube_join : (c d : List Lit) (p : Point) → CubeHolds c p → CubeHolds d p → CubeHolds (c ++ d) p
cube_join [] d p h k = k
cube_join (l ∷ c) d p h k = (h.0, cube_join c d p h.1 k)

pub cube_split : (c d : List Lit) (p : Point) → CubeHolds (c ++ d) p → CubeHolds c p × CubeHolds d p
cube_split [] d p h = (tt, h)
cube_split (l ∷ c) d p h = let k = cube_split c d p h.1 in ((h.0, k.0), k.1)

-- ---- lists of cubes

pub some_left : (cs ds : List (List Lit)) (p : Point) → SomeHolds cs p → SomeHolds (cs ++ ds) p
some_left [] ds p h = absurd h
some_left (c ∷ cs) ds p (inl h) = inl h
some_left (c ∷ cs) ds p (inr h) = inr (some_left cs ds p h)

pub some_right : (cs ds : List (List Lit)) (p : Point) → SomeHolds ds p → SomeHolds (cs ++ ds) p
some_right [] ds p h = h
some_right (c ∷ cs) ds p h = inr (some_right cs ds p h)

pub some_parts : (cs ds : List (List Lit)) (p : Point) → SomeHolds (cs ++ ds) p → SomeHolds cs p ⊎ SomeHolds ds p
some_parts [] ds p h = inr h
some_parts (c ∷ cs) ds p (inl h) = inl (inl h)
some_parts (c ∷ cs) ds p (inr h) = elim (some_parts cs ds p h) [ inl k ↦ inl (inr k) | inr k ↦ inr k ]

-- one number of a range
pub some_at : (g : ℕ → List Lit) (a n k j : ℕ) (p : Point) → k < n → a + k ≡ j → CubeHolds (g j) p → SomeHolds (map g (range_with_len a n)) p
some_at g a zero k j p h e c = absurd (omega arith)
some_at g a (suc n) zero j p h e c = inl (subst (λ (i : ℕ). CubeHolds (g i) p) (let q : j ≡ a = omega arith in q) c)
some_at g a (suc n) (suc k) j p h e c = inr (some_at g (a + 1) n k j p (omega arith) (omega arith) c)

pub some_of : (g : ℕ → List Lit) (a n : ℕ) (p : Point) → SomeHolds (map g (range_with_len a n)) p → (k : ℕ) × CubeHolds (g k) p
some_of g a zero p h = absurd h
some_of g a (suc n) p (inl h) = (a, h)
some_of g a (suc n) p (inr h) = some_of g (a + 1) n p h
