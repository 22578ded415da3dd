-- Branches that stop.
use Rattle.std.specs.Prelude.{ℕ, zero, suc, ◌+◌, ◌≤◌, ◌≡◌, ◌⊎◌, ℤ, Bool, true, false, if◌then◌else◌, Some, slice_get, List, [], ◌∷◌, ◌++◌}
use Rattle.std.proofs.Common.{arith, sym, subst, refl, inl, inr}
use Rattle.lin_term.specs.declared.Sort.{Sort}
use Rattle.lin_term.specs.declared.Lit.{Lit}
use Rattle.lin_term.specs.Same.{same_literal}
use Rattle.lin_term.proofs.Comparing.{literal_decides}
use Rattle.dom_core.specs.Cube.{IsCube}
use Rattle.dom_core.specs.Game.{Matrix}
use Rattle.lose_system.specs.Losing.{System}
use Rattle.cube_rules.specs.declared.Step.{Step}
use Rattle.cube_rules.specs.Bare.{ClosesBare}
use Rattle.cube_rules.proofs.Lifting.{bare_is_empty}
use Rattle.cube_elim.specs.Among.{IsAmong, times_among, IsTakenFrom}
use Rattle.cube_elim.specs.Determined.{WideAt}
use Rattle.clause_search.specs.Branches.{definition_literals, branches, Stops, EachStops, SomeIs}
use Rattle.clause_search.specs.Chosen.{OnceEach}
use Rattle.clause_search.specs.Taken.{StopsBehind, AreWays, Completes}
use Rattle.clause_search.proofs.Ways.{each_is, some_is, branch_goes, holds_among, all_hold}

abbrev pub Within : List Lit → List Lit → Type 0
Within c b = (l : Lit) → IsAmong l c → IsAmong l b

-- lines close a cube of literals of the branch
pub refuted_stops : (s : Sort) (n : ℕ) (c b : List Lit) (steps : List Step) → ClosesBare s n c steps → IsCube s c → Within c b → Stops s b
refuted_stops s n c b steps k o h =
    inl (λ p i u. bare_is_empty s n c steps k o p i (all_hold c p (λ l j. holds_among b p l u (h l j))))

-- ---- how often a literal is there

one_if : Bool → ℕ
one_if true = 1
one_if false = 0

same_self : (l : Lit) → same_literal l l ≡ true
same_self l = let d = literal_decides l l in d.1 refl

there : (l : Lit) (b : List Lit) → IsAmong l b → 1 ≤ times_among l b
there l [] h = absurd h
there l (k ∷ b) (inl e) =
    let q = subst (λ (x : Lit). same_literal l x ≡ true) e (same_self l) in
    counted (same_literal l k) (times_among l b) q
  where
    counted : (t : Bool) (n : ℕ) → t ≡ true → 1 ≤ (if t then 1 else 0) + n
    counted true n e = omega arith
    counted false n e = absurd (cc)
there l (k ∷ b) (inr h) = let r = there l b h in more (if same_literal l k then 1 else 0) (times_among l b) r
  where
    more : (m n : ℕ) → 1 ≤ n → 1 ≤ m + n
    more m n h = omega arith

is_there : (l : Lit) (b : List Lit) → 1 ≤ times_among l b → IsAmong l b
is_there l [] h = absurd (omega arith)
is_there l (k ∷ b) h = by (same_literal l k) refl (λ j. is_there l b j)
  where
    drop_zero : (n : ℕ) → 1 ≤ 0 + n → 1 ≤ n
    drop_zero n h = omega arith

    by : (t : Bool) → same_literal l k ≡ t → (1 ≤ times_among l b → IsAmong l b) → IsAmong l (k ∷ b)
    by true e f = let d = literal_decides l k in inl (d.0 e)
    by false e f = inr (f (drop_zero (times_among l b) (subst (λ (t : Bool). 1 ≤ (if t then 1 else 0) + times_among l b) e h)))

-- what is taken from a cube without repetition is taken from a branch that has its literals
pub taken_from_branch : (x c b : List Lit) → IsTakenFrom x c → OnceEach c → Within c b → IsTakenFrom x b
taken_from_branch x c b h o w l = by (times_among l c) refl (h l) (o l)
  where
    by : (n : ℕ) → times_among l c ≡ n → times_among l x ≤ times_among l c → times_among l c ≤ 1 → times_among l x ≤ times_among l b
    by zero e f g = let q = subst (λ (n : ℕ). times_among l x ≤ n) e f in small (times_among l x) (times_among l b) q
      where
        small : (m n : ℕ) → m ≤ 0 → m ≤ n
        small m n h = omega arith
    by (suc n) e f g =
        let q = there l b (w l (is_there l c (subst (λ (m : ℕ). 1 ≤ m) (sym e) (positive n)))) in
        below (times_among l x) (times_among l c) (times_among l b) f g q
      where
        positive : (n : ℕ) → 1 ≤ suc n
        positive n = omega arith

        below : (m k n : ℕ) → m ≤ k → k ≤ 1 → 1 ≤ n → m ≤ n
        below m k n h i j = omega arith

pub wide_stops : (s : Sort) (x c b : List Lit) (z : ℤ) → IsTakenFrom x c → WideAt s x z → OnceEach c → Within c b → Stops s b
wide_stops s x c b z h v o w = inr (record { cube = x; taken = taken_from_branch x c b h o w; number = z; wide = v })

-- ---- one more literal

pub once_more : (c : List Lit) (l : Lit) → OnceEach c → ¬ IsAmong l c → OnceEach (c ++ l ∷ [])
once_more c l o h k = by (same_literal k l) refl
  where
    split : (k : Lit) (c d : List Lit) → times_among k (c ++ d) ≡ times_among k c + times_among k d
    split k [] d = zero_add (times_among k d)
      where
        zero_add : (n : ℕ) → n ≡ 0 + n
        zero_add n = omega arith
    split k (x ∷ c) d = add (if same_literal k x then 1 else 0) (times_among k (c ++ d)) (times_among k c) (times_among k d) (split k c d)
      where
        add : (a m n p : ℕ) → m ≡ n + p → a + m ≡ (a + n) + p
        add a m n p e = omega arith

    by : (t : Bool) → same_literal k l ≡ t → times_among k (c ++ l ∷ []) ≤ 1
    by false e =
        let q = subst (λ (t : Bool). times_among k (l ∷ []) ≡ (if t then 1 else 0) + 0) e refl in
        sum (times_among k (c ++ l ∷ [])) (times_among k c) (times_among k (l ∷ [])) (split k c (l ∷ [])) (o k) q
      where
        sum : (m n p : ℕ) → m ≡ n + p → n ≤ 1 → p ≡ 0 + 0 → m ≤ 1
        sum m n p e h f = omega arith
    by true e =
        let d = literal_decides k l in
        let q = subst (λ (t : Bool). times_among k (l ∷ []) ≡ (if t then 1 else 0) + 0) e refl in
        sum (times_among k (c ++ l ∷ [])) (times_among k c) (times_among k (l ∷ [])) (split k c (l ∷ [])) (missing k (d.0 e) (times_among k c) refl) q
      where
        missing : (k : Lit) → k ≡ l → (n : ℕ) → times_among k c ≡ n → n ≤ 0
        missing k e zero f = omega arith
        missing k e (suc n) f =
            absurd (h (subst (λ (x : Lit). IsAmong x c) e (is_there k c (subst (λ (m : ℕ). 1 ≤ m) (sym f) (positive n)))))
          where
            positive : (n : ℕ) → 1 ≤ suc n
            positive n = omega arith

        sum : (m n p : ℕ) → m ≡ n + p → n ≤ 0 → p ≡ 1 + 0 → m ≤ 1
        sum m n p e h f = omega arith

-- ---- all branches

pub all_stop : (s : Sort) (sys : System) → StopsBehind s sys [] → EachStops s sys
all_stop s sys h =
    each_is (Stops s) (branches sys) (λ b k. h b (branch_goes sys b k) (λ i m e. absurd (none_there i m e)))
  where
    none_there : (i : ℕ) (m : Matrix) → slice_get [] i ≡ Some m → ⊥
    none_there i m e = cc

-- a wide cube of what is taken is one of a branch, where what is left has ways
pub on_branch : (s : Sort) (sys : System) (x c t : List Lit) (left : List Matrix) (ws : List (List Lit)) → IsTakenFrom x c → OnceEach c → ((l : Lit) → IsAmong l c → IsAmong l (definition_literals sys.defs) ⊎ IsAmong l t) → Completes sys t left → AreWays left ws → SomeIs (IsTakenFrom x) (branches sys)
on_branch s sys x c t left ws h o w k a =
    let r = k ws a in
    some_is (IsTakenFrom x) r.0 (branches sys) (r.1).branch (taken_from_branch x c r.0 h o (λ l j. by l (w l j)))
  where
    by : (l : Lit) → IsAmong l (definition_literals sys.defs) ⊎ IsAmong l t → IsAmong l ((k ws a).0)
    by l (inl j) = let r = k ws a in (branch_goes sys r.0 (r.1).branch).defs l j
    by l (inr j) = let r = k ws a in (r.1).has l (inl j)
