-- Branches by their ways through the paths.
use Rattle.std.specs.Prelude.{ℕ, zero, suc, ◌≡◌, ◌⊎◌, Some, slice_get, List, [], ◌∷◌, ◌++◌, map}
use Rattle.std.proofs.Common.{ap, sym, subst, refl, inl, inr}
use Rattle.lin_term.specs.declared.Lit.{Lit}
use Rattle.lin_term.specs.Linear.{Point}
use Rattle.lin_term.specs.Literal.{Holds}
use Rattle.lin_term.specs.Definition.{Definition}
use Rattle.dom_core.specs.Game.{Matrix, lit, all, some, Matrices, none, more, HoldsIn, AllHold, AllFail}
use Rattle.dom_core.specs.Cube.{CubeHolds}
use Rattle.lose_system.specs.Losing.{System, AllDefined, AllLose}
use Rattle.cube_elim.specs.Among.{IsAmong}
use Rattle.clause_search.specs.Branches.{pairs, ways, ways_all, ways_some, path_ways, definition_literals, branches, EachIs, SomeIs}
use Rattle.clause_search.specs.Taken.{Meets, MeetsAll, MeetsSome, GoesThrough}

-- ---- lists

pub among_left : {A : Type 0} (x : A) (ys zs : List A) → IsAmong x ys → IsAmong x (ys ++ zs)
among_left {A} x [] zs h = absurd h
among_left {A} x (y ∷ ys) zs (inl e) = inl e
among_left {A} x (y ∷ ys) zs (inr h) = inr (among_left x ys zs h)

pub among_right : {A : Type 0} (x : A) (ys zs : List A) → IsAmong x zs → IsAmong x (ys ++ zs)
among_right {A} x [] zs h = h
among_right {A} x (y ∷ ys) zs h = inr (among_right x ys zs h)

pub among_either : {A : Type 0} (x : A) (ys zs : List A) → IsAmong x (ys ++ zs) → IsAmong x ys ⊎ IsAmong x zs
among_either {A} x [] zs h = inr h
among_either {A} x (y ∷ ys) zs (inl e) = inl (inl e)
among_either {A} x (y ∷ ys) zs (inr h) = later (among_either x ys zs h)
  where
    later : IsAmong x ys ⊎ IsAmong x zs → IsAmong x (y ∷ ys) ⊎ IsAmong x zs
    later (inl k) = inl (inr k)
    later (inr k) = inr k

pub among_map : {A B : Type 0} (f : A → B) (x : A) (xs : List A) → IsAmong x xs → IsAmong (f x) (map f xs)
among_map {A} {B} f x [] h = absurd h
among_map {A} {B} f x (y ∷ ys) (inl e) = inl (ap f e)
among_map {A} {B} f x (y ∷ ys) (inr h) = inr (among_map f x ys h)

pub of_map : {A B : Type 0} (f : A → B) (y : B) (xs : List A) → IsAmong y (map f xs) → (x : A) × IsAmong x xs × (y ≡ f x)
of_map {A} {B} f y [] h = absurd h
of_map {A} {B} f y (x ∷ xs) (inl e) = (x, inl refl, e)
of_map {A} {B} f y (x ∷ xs) (inr h) = let r = of_map f y xs h in (r.0, inr r.1, r.2)

pub each_is : {A : Type 0} (P : A → Type 0) (xs : List A) → ((x : A) → IsAmong x xs → P x) → EachIs P xs
each_is {A} P [] h = tt
each_is {A} P (x ∷ xs) h = (h x (inl refl), each_is P xs (λ y k. h y (inr k)))

pub some_is : {A : Type 0} (P : A → Type 0) (x : A) (xs : List A) → IsAmong x xs → P x → SomeIs P xs
some_is {A} P x [] h p = absurd h
some_is {A} P x (y ∷ ys) (inl e) p = inl (subst P e p)
some_is {A} P x (y ∷ ys) (inr h) p = inr (some_is P x ys h p)

-- ---- pairs

pub pair_among : (b c : List Lit) (bs cs : List (List Lit)) → IsAmong b bs → IsAmong c cs → IsAmong (b ++ c) (pairs bs cs)
pair_among b c [] cs h k = absurd h
pair_among b c (a ∷ bs) cs (inl e) k =
    among_left (b ++ c) (map (λ d. a ++ d) cs) (pairs bs cs)
    (subst (λ (x : List Lit). IsAmong (x ++ c) (map (λ d. a ++ d) cs)) (sym e) (among_map (λ d. a ++ d) c cs k))
pair_among b c (a ∷ bs) cs (inr h) k = among_right (b ++ c) (map (λ d. a ++ d) cs) (pairs bs cs) (pair_among b c bs cs h k)

pub of_pairs : (x : List Lit) (bs cs : List (List Lit)) → IsAmong x (pairs bs cs) → (b : List Lit) × (c : List Lit) × IsAmong b bs × IsAmong c cs × (x ≡ b ++ c)
of_pairs x [] cs h = absurd h
of_pairs x (b ∷ bs) cs h = by (among_either x (map (λ d. b ++ d) cs) (pairs bs cs) h) (λ k. of_pairs x bs cs k)
  where
    by : IsAmong x (map (λ d. b ++ d) cs) ⊎ IsAmong x (pairs bs cs) → (IsAmong x (pairs bs cs) → (a : List Lit) × (c : List Lit) × IsAmong a bs × IsAmong c cs × (x ≡ a ++ c)) → (a : List Lit) × (c : List Lit) × IsAmong a (b ∷ bs) × IsAmong c cs × (x ≡ a ++ c)
    by (inl k) f = let r = of_map (λ d. b ++ d) x cs k in (b, r.0, inl refl, r.1, r.2)
    by (inr k) f = let r = f k in (r.0, r.1, inr r.2, r.3, r.4)

-- ---- a way meets its matrix

mutual
  pub way_meets : (m : Matrix) (way b : List Lit) → IsAmong way (ways m) → ((l : Lit) → IsAmong l way → IsAmong l b) → Meets m b
  way_meets (lit l) way b (inl e) h = h l (subst (λ (x : List Lit). IsAmong l x) (sym e) (inl refl))
  way_meets (lit l) way b (inr k) h = absurd k
  way_meets (all ms) way b k h = ways_meet ms way b k h
  way_meets (some ms) way b k h = some_meets ms way b k h

  ways_meet : (ms : Matrices) (way b : List Lit) → IsAmong way (ways_all ms) → ((l : Lit) → IsAmong l way → IsAmong l b) → MeetsAll ms b
  ways_meet none way b k h = tt
  ways_meet (more m ms) way b k h =
      let r = of_pairs way (ways m) (ways_all ms) k in
      (way_meets m r.0 b r.2 (λ l j. h l (subst (λ (x : List Lit). IsAmong l x) (sym r.4) (among_left l r.0 r.1 j))), ways_meet ms r.1 b r.3 (λ l j. h l (subst (λ (x : List Lit). IsAmong l x) (sym r.4) (among_right l r.0 r.1 j))))

  some_meets : (ms : Matrices) (way b : List Lit) → IsAmong way (ways_some ms) → ((l : Lit) → IsAmong l way → IsAmong l b) → MeetsSome ms b
  some_meets none way b k h = absurd k
  some_meets (more m ms) way b k h = one (among_either way (ways m) (ways_some ms) k) (λ j. way_meets m way b j h) (λ j. some_meets ms way b j h)
    where
      one : IsAmong way (ways m) ⊎ IsAmong way (ways_some ms) → (IsAmong way (ways m) → Meets m b) → (IsAmong way (ways_some ms) → MeetsSome ms b) → MeetsSome (more m ms) b
      one (inl j) f g = inl (f j)
      one (inr j) f g = inr (g j)

paths_met : (ms : List Matrix) (way b : List Lit) → IsAmong way (path_ways ms) → ((l : Lit) → IsAmong l way → IsAmong l b) → (k : ℕ) (m : Matrix) → slice_get ms k ≡ Some m → Meets m b
paths_met [] way b h i k m e = absurd (cc)
paths_met (n ∷ ms) way b h i zero m e =
    let r = of_pairs way (ways n) (path_ways ms) h in
    subst (λ (x : Matrix). Meets x b) (same n m e)
    (way_meets n r.0 b r.2 (λ l j. i l (subst (λ (x : List Lit). IsAmong l x) (sym r.4) (among_left l r.0 r.1 j))))
  where
    same : (x y : Matrix) → Some x ≡ Some y → x ≡ y
    same x y e = cc
paths_met (n ∷ ms) way b h i (suc k) m e =
    let r = of_pairs way (ways n) (path_ways ms) h in
    paths_met ms r.1 b r.3 (λ l j. i l (subst (λ (x : List Lit). IsAmong l x) (sym r.4) (among_right l r.0 r.1 j))) k m e

-- a branch has all definition literals and goes through each path
pub branch_goes : (sys : System) (b : List Lit) → IsAmong b (branches sys) → GoesThrough sys b
branch_goes sys b h =
    let r = of_map (λ way. definition_literals sys.defs ++ way) b (path_ways sys.paths) h in
    record {
      defs = λ l k. subst (λ (x : List Lit). IsAmong l x) (sym r.2) (among_left l (definition_literals sys.defs) r.0 k);
      paths = paths_met sys.paths r.0 b r.1 (λ l k. subst (λ (x : List Lit). IsAmong l x) (sym r.2) (among_right l (definition_literals sys.defs) r.0 k));
    }

-- ---- what holds where all literals of a branch do

pub holds_among : (b : List Lit) (p : Point) (l : Lit) → CubeHolds b p → IsAmong l b → Holds l p
holds_among [] p l h k = absurd k
holds_among (x ∷ b) p l h (inl e) = subst (λ (y : Lit). Holds y p) (sym e) h.0
holds_among (x ∷ b) p l h (inr k) = holds_among b p l h.1 k

pub all_hold : (b : List Lit) (p : Point) → ((l : Lit) → IsAmong l b → Holds l p) → CubeHolds b p
all_hold [] p h = tt
all_hold (x ∷ b) p h = (h x (inl refl), all_hold b p (λ l k. h l (inr k)))

mutual
  met_holds : (m : Matrix) (b : List Lit) (p : Point) → CubeHolds b p → Meets m b → HoldsIn m p
  met_holds (lit l) b p h k = holds_among b p l h k
  met_holds (all ms) b p h k = all_met_hold ms b p h k
  met_holds (some ms) b p h k = λ f. some_met_holds ms b p h k f

  all_met_hold : (ms : Matrices) (b : List Lit) (p : Point) → CubeHolds b p → MeetsAll ms b → AllHold ms p
  all_met_hold none b p h k = tt
  all_met_hold (more m ms) b p h k = (met_holds m b p h k.0, all_met_hold ms b p h k.1)

  some_met_holds : (ms : Matrices) (b : List Lit) (p : Point) → CubeHolds b p → MeetsSome ms b → AllFail ms p → ⊥
  some_met_holds none b p h k f = k
  some_met_holds (more m ms) b p h (inl k) f = f.0 (met_holds m b p h k)
  some_met_holds (more m ms) b p h (inr k) f = some_met_holds ms b p h k f.1

pub paths_hold : (ms : List Matrix) (b : List Lit) (p : Point) → CubeHolds b p → ((k : ℕ) (m : Matrix) → slice_get ms k ≡ Some m → Meets m b) → AllLose ms p
paths_hold [] b p h k = tt
paths_hold (m ∷ ms) b p h k = (met_holds m b p h (k 0 m refl), paths_hold ms b p h (λ i n e. k (suc i) n e))

pub defined_holds : (ds : List Definition) (p : Point) (l : Lit) → AllDefined ds p → IsAmong l (definition_literals ds) → Holds l p
defined_holds [] p l h k = absurd k
defined_holds (d ∷ ds) p l h (inl e) = subst (λ (x : Lit). Holds x p) (sym e) h.0
defined_holds (d ∷ ds) p l h (inr (inl e)) = subst (λ (x : Lit). Holds x p) (sym e) h.1
defined_holds (d ∷ ds) p l h (inr (inr k)) = defined_holds ds p l h.2 k
