-- The implicant of a matrix that holds: literals of the matrix that hold, and make it true wherever they hold.
use Rattle.std.specs.Prelude.{ℕ, ◌*◌, ◌%◌, ◌≤◌, ◌≡◌, ◌⊎◌, negsuc, nat_abs, nat_eq, Bool, true, false, not, ◌&&◌, ◌||◌, if◌then◌else◌, List, length}
use Rattle.std.proofs.Common.{arith, refl, inl, inr, eqb-true}
use Rattle.std.proofs.lemmas.Int.{ints}
use Rattle.std.proofs.lemmas.Bool.{eqb-false, and_parts}
use Rattle.lin_term.specs.declared.Sort.{Sort}
use Rattle.lin_term.specs.declared.Lit.{Lit}
use Rattle.lin_term.specs.declared.Lit.TheVariants.{AtLeast, Above, Divides, NotDivides}
use Rattle.lin_term.specs.Linear.{Point, IsPoint, dot, constant_form}
use Rattle.lin_term.specs.Literal.{Holds}
use Rattle.dom_core.specs.Game.{Matrix, lit, all, some, Matrices, none, more, HoldsIn, AllHold, AllFail, IsMatrix, AreMatrices, rename_matrix, rename_matrices}
use Rattle.dom_core.specs.Cube.{CubeHolds}
use Rattle.lin_term.proofs.Dots.{Agree, dot-constant_form}
use Rattle.lin_term.proofs.Holding.{one_den, from_names}
use Rattle.std.specs.List.{AllByRecursion}
use Rattle.term_select.specs.Guided.{holds_at, true_at, all_true, some_true, implicant, implicants, first_implicant}
use Rattle.dom_core.proofs.PutMoves.{new_each, new_holds, new_back}
use Rattle.dom_core.proofs.Cases.{each_map}

-- the literal is one of the matrix
abbrev mutual
  pub IsOfMatrix : Lit → Matrix → Type 0
  IsOfMatrix l (lit k) = l ≡ k
  IsOfMatrix l (all ms) = IsOfSome l ms
  IsOfMatrix l (some ms) = IsOfSome l ms

  pub IsOfSome : Lit → Matrices → Type 0
  IsOfSome l none = ⊥
  IsOfSome l (more m ms) = IsOfMatrix l m ⊎ IsOfSome l ms

-- ---- tests at a point

or_parts : (b c : Bool) → (b || c) ≡ false → (b ≡ false) × (c ≡ false)
or_parts true c e = absurd (cc)
or_parts false c e = (refl, e)

or_by : (b c : Bool) → (b || c) ≡ true → (A : Type 0) → (b ≡ true → A) → (c ≡ true → A) → A
or_by true c e A k j = k refl
or_by false c e A k j = j e

and_by : (b c : Bool) → (b && c) ≡ false → (b ≡ false → ⊥) → (c ≡ false → ⊥) → ⊥
and_by true c e k j = j e
and_by false c e k j = k refl

pub now_holds : (l : Lit) (p : Point) → holds_at l p ≡ true → Holds l p
now_holds (AtLeast f) p e = omega (arith, ints)
now_holds (Above f) p e = omega (arith, ints)
now_holds (Divides d f) p e = eqb-true (nat_abs (dot f p) % (d * p.den)) 0 e
now_holds (NotDivides d f) p e = eqb-false (nat_abs (dot f p) % (d * p.den)) 0 (by (nat_eq (nat_abs (dot f p) % (d * p.den)) 0) e)
  where
    by : (b : Bool) → not b ≡ true → b ≡ false
    by true u = absurd (cc)
    by false u = refl

pub now_fails : (l : Lit) (p : Point) → holds_at l p ≡ false → ¬ Holds l p
now_fails (AtLeast f) p e h = omega (arith, ints)
now_fails (Above f) p e h = omega (arith, ints)
now_fails (Divides d f) p e h = eqb-false (nat_abs (dot f p) % (d * p.den)) 0 e h
now_fails (NotDivides d f) p e h = h (eqb-true (nat_abs (dot f p) % (d * p.den)) 0 (by (nat_eq (nat_abs (dot f p) % (d * p.den)) 0) e))
  where
    by : (b : Bool) → not b ≡ false → b ≡ true
    by true u = refl
    by false u = absurd (cc)

mutual
  pub true_holds : (m : Matrix) (p : Point) → true_at m p ≡ true → HoldsIn m p
  true_holds (lit l) p e = now_holds l p e
  true_holds (all ms) p e = all_true_hold ms p e
  true_holds (some ms) p e = λ f. some_true_holds ms p e f

  all_true_hold : (ms : Matrices) (p : Point) → all_true ms p ≡ true → AllHold ms p
  all_true_hold none p e = tt
  all_true_hold (more m ms) p e = let k = and_parts (true_at m p) (all_true ms p) e in (true_holds m p k.0, all_true_hold ms p k.1)

  some_true_holds : (ms : Matrices) (p : Point) → some_true ms p ≡ true → AllFail ms p → ⊥
  some_true_holds none p e f = absurd (cc)
  some_true_holds (more m ms) p e f = or_by (true_at m p) (some_true ms p) e ⊥ (λ u. f.0 (true_holds m p u)) (λ u. some_true_holds ms p u f.1)

mutual
  pub false_fails : (m : Matrix) (p : Point) → true_at m p ≡ false → HoldsIn m p → ⊥
  false_fails (lit l) p e h = now_fails l p e h
  false_fails (all ms) p e h = all_false_fail ms p e h
  false_fails (some ms) p e h = h (some_false_fails ms p e)

  all_false_fail : (ms : Matrices) (p : Point) → all_true ms p ≡ false → AllHold ms p → ⊥
  all_false_fail none p e h = absurd (cc)
  all_false_fail (more m ms) p e h = and_by (true_at m p) (all_true ms p) e (λ u. false_fails m p u h.0) (λ u. all_false_fail ms p u h.1)

  some_false_fails : (ms : Matrices) (p : Point) → some_true ms p ≡ false → AllFail ms p
  some_false_fails none p e = tt
  some_false_fails (more m ms) p e =
      let k = or_parts (true_at m p) (some_true ms p) e in (λ h. false_fails m p k.0 h, some_false_fails ms p k.1)

-- ---- the implicant

first_of_two : (m : Matrix) (ms : Matrices) (p : Point) (A : List Lit → Type 0) → (true_at m p ≡ true → A (implicant m p)) → (true_at m p ≡ false → A (first_implicant ms p)) → A (first_implicant (more m ms) p)
first_of_two m ms p A k j = by (true_at m p) refl
  where
    by : (b : Bool) → true_at m p ≡ b → A (if b then implicant m p else first_implicant ms p)
    by true u = k u
    by false u = j u

mutual
  pub implicant_holds : (m : Matrix) (p : Point) → HoldsIn m p → CubeHolds (implicant m p) p
  implicant_holds (lit l) p h = (h, tt)
  implicant_holds (all ms) p h = implicants_hold ms p h
  implicant_holds (some ms) p h = first_holds ms p h

  implicants_hold : (ms : Matrices) (p : Point) → AllHold ms p → CubeHolds (implicants ms p) p
  implicants_hold none p h = tt
  implicants_hold (more m ms) p h = new_holds (implicant m p) (implicants ms p) p (implicant_holds m p h.0) (implicants_hold ms p h.1)

  first_holds : (ms : Matrices) (p : Point) → (AllFail ms p → ⊥) → CubeHolds (first_implicant ms p) p
  first_holds none p h = absurd (h tt)
  first_holds (more m ms) p h =
      first_of_two m ms p (λ c. CubeHolds c p) (λ u. implicant_holds m p (true_holds m p u)) (λ u. first_holds ms p (λ f. h (λ k. false_fails m p u k, f)))

-- at a point where the matrix holds, the literals are those of the matrix
mutual
  pub implicant_of : (m : Matrix) (p : Point) → HoldsIn m p → AllByRecursion (λ l. IsOfMatrix l m) (implicant m p)
  implicant_of (lit l) p h = (refl, tt)
  implicant_of (all ms) p h = implicants_of ms p h
  implicant_of (some ms) p h = first_of ms p h

  implicants_of : (ms : Matrices) (p : Point) → AllHold ms p → AllByRecursion (λ l. IsOfSome l ms) (implicants ms p)
  implicants_of none p h = tt
  implicants_of (more m ms) p h =
      new_each (λ l. IsOfSome l (more m ms)) (implicant m p) (implicants ms p)
      (each_map (λ l. IsOfMatrix l m) (λ l. IsOfSome l (more m ms)) (implicant m p) (λ l i. inl i) (implicant_of m p h.0))
      (each_map (λ l. IsOfSome l ms) (λ l. IsOfSome l (more m ms)) (implicants ms p) (λ l i. inr i) (implicants_of ms p h.1))

  first_of : (ms : Matrices) (p : Point) → (AllFail ms p → ⊥) → AllByRecursion (λ l. IsOfSome l ms) (first_implicant ms p)
  first_of none p h = absurd (h tt)
  first_of (more m ms) p h =
      first_of_two m ms p (λ c. AllByRecursion (λ l. IsOfSome l (more m ms)) c)
      (λ u. each_map (λ l. IsOfMatrix l m) (λ l. IsOfSome l (more m ms)) (implicant m p) (λ l i. inl i) (implicant_of m p (true_holds m p u)))
      (λ u. each_map (λ l. IsOfSome l ms) (λ l. IsOfSome l (more m ms)) (first_implicant ms p) (λ l i. inr i) (first_of ms p (λ f. h (λ k. false_fails m p u k, f))))

minus_one_fails : (p : Point) → 1 ≤ p.den → Holds (AtLeast (constant_form (negsuc 0))) p → ⊥
minus_one_fails p o h = let d = dot-constant_form (negsuc 0) p in omega (arith, ints)

one_of : (b : Bool) (c d : List Lit) (p : Point) → CubeHolds (if b then c else d) p → (CubeHolds c p → ⊥) → (CubeHolds d p → ⊥) → ⊥
one_of true c d p h k j = k h
one_of false c d p h k j = j h

-- wherever the implicant holds, the matrix does
mutual
  pub implicant_implies : (m : Matrix) (s : Sort) (e p : Point) → IsPoint s p → CubeHolds (implicant m e) p → HoldsIn m p
  implicant_implies (lit l) s e p i h = h.0
  implicant_implies (all ms) s e p i h = implicants_imply ms s e p i h
  implicant_implies (some ms) s e p i h = λ f. first_implies ms s e p i h f

  implicants_imply : (ms : Matrices) (s : Sort) (e p : Point) → IsPoint s p → CubeHolds (implicants ms e) p → AllHold ms p
  implicants_imply none s e p i h = tt
  implicants_imply (more m ms) s e p i h =
      let k = new_back (λ l. Holds l p) (implicant m e) (implicants ms e) h in
      (implicant_implies m s e p i k.0, implicants_imply ms s e p i k.1)

  first_implies : (ms : Matrices) (s : Sort) (e p : Point) → IsPoint s p → CubeHolds (first_implicant ms e) p → AllFail ms p → ⊥
  first_implies none s e p i h f = minus_one_fails p (one_den s p i) h.0
  first_implies (more m ms) s e p i h f =
      one_of (true_at m e) (implicant m e) (first_implicant ms e) p h (λ k. f.0 (implicant_implies m s e p i k)) (λ k. first_implies ms s e p i k f.1)

-- ---- a renamed matrix that holds

mutual
  pub matrix_from_names : (m : Matrix) (s : Sort) (names : List ℕ) (e p : Point) → IsPoint s e → IsPoint s p → Agree names e p → IsMatrix m s (length names) → HoldsIn (rename_matrix m names) p → HoldsIn m e
  matrix_from_names (lit l) s names e p ie ip a o h = from_names s names e p ie ip a l o.0 o.1 h
  matrix_from_names (all ms) s names e p ie ip a o h = all_from_names ms s names e p ie ip a o h
  matrix_from_names (some ms) s names e p ie ip a o h = λ f. h (fail_to_names ms s names e p ie ip a o f)

  all_from_names : (ms : Matrices) (s : Sort) (names : List ℕ) (e p : Point) → IsPoint s e → IsPoint s p → Agree names e p → AreMatrices ms s (length names) → AllHold (rename_matrices ms names) p → AllHold ms e
  all_from_names none s names e p ie ip a o h = tt
  all_from_names (more m ms) s names e p ie ip a o h =
      (matrix_from_names m s names e p ie ip a o.0 h.0, all_from_names ms s names e p ie ip a o.1 h.1)

  fail_to_names : (ms : Matrices) (s : Sort) (names : List ℕ) (e p : Point) → IsPoint s e → IsPoint s p → Agree names e p → AreMatrices ms s (length names) → AllFail ms e → AllFail (rename_matrices ms names) p
  fail_to_names none s names e p ie ip a o f = tt
  fail_to_names (more m ms) s names e p ie ip a o f =
      (λ h. f.0 (matrix_from_names m s names e p ie ip a o.0 h), fail_to_names ms s names e p ie ip a o.1 f.1)
