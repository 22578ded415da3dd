-- The literals of a branch are those of the system.
use Rattle.std.specs.Prelude.{ℕ, ◌+◌, ◌≤◌, ◌≡◌, ◌⊎◌, Bool, true, false, if◌then◌else◌, List, [], ◌∷◌, ◌++◌, map}
use Rattle.std.proofs.Common.{arith, subst, refl, inl, inr}
use Rattle.lin_term.specs.declared.Lit.{Lit}
use Rattle.lin_term.specs.Same.{same_literal}
use Rattle.lin_term.proofs.Comparing.{literal_decides}
use Rattle.dom_core.specs.Game.{Matrix, lit, all, some, Matrices, none, more}
use Rattle.lose_system.specs.Losing.{System}
use Rattle.cube_elim.specs.Among.{IsAmong as Has, times_among, IsTakenFrom}
use Rattle.clause_search.specs.Branches.{pairs, ways, ways_all, ways_some, path_ways, definition_literals, branches, SomeIs as Some_is}
use Rattle.game_tree.specs.Among.{IsAmong, EachIs, SomeIs}
use Rattle.game_history.specs.Legal.{IsOfMatrix, IsOfSome, IsOfSystem}

-- ---- lists of literals of which each literal has a property

abbrev Each : (Lit → Type 0) → List Lit → Type 0
Each Q ls = (l : Lit) → Has l ls → Q l

each_append : (Q : Lit → Type 0) (a b : List Lit) → Each Q a → Each Q b → Each Q (a ++ b)
each_append Q [] b f g l h = g l h
each_append Q (x ∷ a) b f g l (inl e) = f l (inl e)
each_append Q (x ∷ a) b f g l (inr h) = each_append Q a b (λ k j. f k (inr j)) g l h

-- of lists of lists
abbrev AllEach : (Lit → Type 0) → List (List Lit) → Type 0
AllEach Q bs = EachIs (Each Q) bs

all_append : (Q : Lit → Type 0) (bs cs : List (List Lit)) → AllEach Q bs → AllEach Q cs → AllEach Q (bs ++ cs)
all_append Q [] cs f g = g
all_append Q (b ∷ bs) cs f g = (f.0, all_append Q bs cs f.1 g)

all_map : (Q : Lit → Type 0) (b : List Lit) (cs : List (List Lit)) → Each Q b → AllEach Q cs → AllEach Q (map (λ c. b ++ c) cs)
all_map Q b [] f g = tt
all_map Q b (c ∷ cs) f g = (each_append Q b c f g.0, all_map Q b cs f g.1)

all_pairs : (Q : Lit → Type 0) (bs cs : List (List Lit)) → AllEach Q bs → AllEach Q cs → AllEach Q (pairs bs cs)
all_pairs Q [] cs f g = tt
all_pairs Q (b ∷ bs) cs f g = all_append Q (map (λ c. b ++ c) cs) (pairs bs cs) (all_map Q b cs f.0 g) (all_pairs Q bs cs f.1 g)

-- ---- ways

mutual
  ways_of : (Q : Lit → Type 0) (m : Matrix) → ((l : Lit) → IsOfMatrix l m → Q l) → AllEach Q (ways m)
  ways_of Q (lit k) f = (λ l h. one l h, tt)
    where
      one : (l : Lit) → (l ≡ k) ⊎ ⊥ → Q l
      one l (inl e) = f l e
      one l (inr h) = absurd h
  ways_of Q (all ms) f = all_of Q ms f
  ways_of Q (some ms) f = some_of Q ms f

  all_of : (Q : Lit → Type 0) (ms : Matrices) → ((l : Lit) → IsOfSome l ms → Q l) → AllEach Q (ways_all ms)
  all_of Q none f = (λ l h. absurd h, tt)
  all_of Q (more m ms) f = all_pairs Q (ways m) (ways_all ms) (ways_of Q m (λ l h. f l (inl h))) (all_of Q ms (λ l h. f l (inr h)))

  some_of : (Q : Lit → Type 0) (ms : Matrices) → ((l : Lit) → IsOfSome l ms → Q l) → AllEach Q (ways_some ms)
  some_of Q none f = tt
  some_of Q (more m ms) f = all_append Q (ways m) (ways_some ms) (ways_of Q m (λ l h. f l (inl h))) (some_of Q ms (λ l h. f l (inr h)))

paths_of : (Q : Lit → Type 0) (ms : List Matrix) → ((l : Lit) → SomeIs (IsOfMatrix l) ms → Q l) → AllEach Q (path_ways ms)
paths_of Q [] f = (λ l h. absurd h, tt)
paths_of Q (m ∷ ms) f = all_pairs Q (ways m) (path_ways ms) (ways_of Q m (λ l h. f l (inl h))) (paths_of Q ms (λ l h. f l (inr h)))

same_among : (l : Lit) (ls : List Lit) → Has l ls → IsAmong l ls
same_among l [] h = h
same_among l (k ∷ ls) (inl e) = inl e
same_among l (k ∷ ls) (inr h) = inr (same_among l ls h)

branches_of : (sys : System) → AllEach (IsOfSystem sys) (branches sys)
branches_of sys =
    all_map (IsOfSystem sys) (definition_literals sys.defs) (path_ways sys.paths)
    (λ l h. inl (same_among l (definition_literals sys.defs) h)) (paths_of (IsOfSystem sys) sys.paths (λ l h. inr h))

-- ---- what is taken from a branch

one_there : (l : Lit) (b : List Lit) → Has l b → 1 ≤ times_among l b
one_there l [] h = absurd h
one_there l (k ∷ b) (inl e) =
    let d = literal_decides l k in
    counted (same_literal l k) (times_among l b) (d.1 e)
  where
    counted : (t : Bool) (n : ℕ) → t ≡ true → 1 ≤ (if t then 1 else 0) + n
    counted true n e = omega arith
    counted false n e = absurd (cc)
one_there l (k ∷ b) (inr h) = let r = one_there l b h in more (if same_literal l k then 1 else 0) (times_among l b) r
  where
    more : (m n : ℕ) → 1 ≤ n → 1 ≤ m + n
    more m n h = omega arith

is_there : (l : Lit) (b : List Lit) → 1 ≤ times_among l b → Has l b
is_there l [] h = absurd (omega arith)
is_there l (k ∷ b) h = by (same_literal l k) refl (λ j. is_there l b j)
  where
    drop_zero : (n : ℕ) → 1 ≤ 0 + n → 1 ≤ n
    drop_zero n h = omega arith

    by : (t : Bool) → same_literal l k ≡ t → (1 ≤ times_among l b → Has l b) → Has l (k ∷ b)
    by true e f = let d = literal_decides l k in inl (d.0 e)
    by false e f = inr (f (drop_zero (times_among l b) (subst (λ (t : Bool). 1 ≤ (if t then 1 else 0) + times_among l b) e h)))

taken_has : (c b : List Lit) (l : Lit) → IsTakenFrom c b → Has l c → Has l b
taken_has c b l h j = let m = one_there l c j in let n = h l in is_there l b (omega (arith, m, n))

each_is : (Q : Lit → Type 0) (c : List Lit) → Each Q c → EachIs Q c
each_is Q [] f = tt
each_is Q (l ∷ c) f = (f l (inl refl), each_is Q c (λ k h. f k (inr h)))

taken_each : (Q : Lit → Type 0) (c : List Lit) (bs : List (List Lit)) → AllEach Q bs → Some_is (IsTakenFrom c) bs → EachIs Q c
taken_each Q c [] f h = absurd h
taken_each Q c (b ∷ bs) f (inl t) = each_is Q c (λ l j. f.0 l (taken_has c b l t j))
taken_each Q c (b ∷ bs) f (inr h) = taken_each Q c bs f.1 h

-- a cube of literals of a branch is one of literals of the system
pub cube_of_system : (sys : System) (c : List Lit) → Some_is (IsTakenFrom c) (branches sys) → EachIs (IsOfSystem sys) c
cube_of_system sys c h = taken_each (IsOfSystem sys) c (branches sys) (branches_of sys) h
