-- The problem that is made by itself: its pairs, their conjunction, and that it is a problem.
use Rattle.std.specs.Prelude.{ℕ, zero, suc, ◌+◌, ◌<◌, ◌≤◌, ◌≡◌, ◌≢◌, ℤ, pos, negsuc, ◌+ℤ◌, Bool, true, false, nat_eq, nat_lt, if◌then◌else◌, List, [], ◌∷◌, ◌++◌, length, replicate}
use Rattle.std.specs.List.{range_with_len}
use Rattle.std.proofs.Common.{arith, ap, ap₂, ◌∙◌, sym, subst, refl}
use Rattle.std.proofs.lemmas.Bool.{eqb-true, ltb-true, ltb-false}
use Rattle.std.proofs.lemmas.List.{length-append, length-replicate}
use Rattle.lin_term.specs.declared.Sort.{Sort}
use Rattle.lin_term.specs.declared.Sort.TheVariants.{Rat}
use Rattle.lin_term.specs.declared.Lit.TheVariants.{Above}
use Rattle.lin_term.specs.Form.{Form}
use Rattle.lin_term.specs.Literal.{gcd}
use Rattle.lin_term.specs.Linear.{put, put_front}
use Rattle.lin_term.specs.PutIn.{without}
use Rattle.lin_term.specs.Replaced.{replaced}
use Rattle.dom_core.specs.declared.Quant.{Quant}
use Rattle.dom_core.specs.declared.Quant.TheVariants.{Exists, Forall}
use Rattle.dom_core.specs.declared.Matrix.{Matrix as Written}
use Rattle.dom_core.specs.declared.Matrix.TheVariants.{Lit as Leaf, And}
use Rattle.dom_core.specs.Game.{Matrix, lit, all, Matrices, none, more, IsMatrix, AreMatrices}
use Rattle.dom_core.specs.View.{matrix_of, matrices_of}
use Rattle.dom_core.specs.Problem.{problem_of, IsProblem, HasNegations, HaveNegations}
use Rattle.dom_core.proofs.Views.{push_part, matrices_push}
use Rattle.game_history.proofs.OfSystem.{seen_leaf, seen_and}
use Rattle.solve_texts.specs.Generated.{less_pair, less_pairs, conjunction, generated}

-- ---- a pair

abbrev zero_form : Form
zero_form = record { terms = []; constant = pos 0 }

abbrev pair_form : ℕ → ℕ → Form
pair_form n i = record { terms = (i, negsuc 0) ∷ (i + n, pos 1) ∷ []; constant = pos 0 }

other_variable : (n i : ℕ) → i < n → without ((i, negsuc 0) ∷ []) (i + n) ≡ (i, negsuc 0) ∷ []
other_variable n i l = by (nat_eq i (i + n)) refl
  where
    by : (b : Bool) → nat_eq i (i + n) ≡ b → if◌then◌else◌ {A = List (ℕ × ℤ)} b [] ((i, negsuc 0) ∷ []) ≡ (i, negsuc 0) ∷ []
    by true e = absurd (let same = eqb-true i (i + n) e in omega (arith, l, same))
    by false e = refl

later_variable : (n i : ℕ) → i < n → put (i + n) (pos 1) ((i, negsuc 0) ∷ []) ≡ (i, negsuc 0) ∷ (i + n, pos 1) ∷ []
later_variable n i l = by (nat_lt (i + n) i) (nat_lt i (i + n)) refl refl
  where
    by : (b c : Bool) → nat_lt (i + n) i ≡ b → nat_lt i (i + n) ≡ c
        → if◌then◌else◌ {A = List (ℕ × ℤ)} b (put_front (i + n) (pos 1) ((i, negsuc 0) ∷ [])) (if◌then◌else◌ {A = List (ℕ × ℤ)} c ((i, negsuc 0) ∷ put (i + n) (pos 1) []) (put_front (i + n) (pos 1 +ℤ negsuc 0) [])) ≡ (i, negsuc 0) ∷ (i + n, pos 1) ∷ []
    by true c e f = absurd (let less = ltb-true (i + n) i e in omega (arith, less))
    by false true e f = refl
    by false false e f = absurd (let more = ltb-false i (i + n) f in omega (arith, l, more))

pair_row : (n i : ℕ) → i < n → replaced (replaced zero_form i (negsuc 0)) (i + n) (pos 1) ≡ pair_form n i
pair_row n i l = ap (λ (ts : List (ℕ × ℤ)). record { terms = ts; constant = pos 0 }) (ap (put (i + n) (pos 1)) (other_variable n i l) ∙ later_variable n i l)

-- what two coefficients make of the row 0
pub pair_seen : (n i : ℕ) (r : Form) → i < n → r ≡ replaced (replaced zero_form i (negsuc 0)) (i + n) (pos 1) → matrix_of (Leaf (Above r)) ≡ less_pair n i
pair_seen n i r l e = seen_leaf (Above r) ∙ ap (λ (f : Form). lit (Above f)) (e ∙ pair_row n i l)

-- ---- the pairs in order

next_is : (i : ℕ) → suc i + 1 ≡ suc (i + 1)
next_is i = omega arith

last_pair : (n a i : ℕ) → less_pairs n (range_with_len a (i + 1)) ≡ push_part (less_pairs n (range_with_len a i)) (less_pair n (a + i))
last_pair n a zero = ap (λ j. more (less_pair n j) none) (let e : a ≡ a + 0 = omega arith in e)
last_pair n a (suc i) =
    ap (λ j. less_pairs n (range_with_len a j)) (next_is i)
    ∙ ap (more (less_pair n a)) (last_pair n (a + 1) i ∙ ap (λ j. push_part (less_pairs n (range_with_len (a + 1) i)) (less_pair n j)) (let e : a + 1 + i ≡ a + suc i = omega arith in e))

pub pairs_more : (n i : ℕ) (ms now : List Written) (m : Written) → now ≡ ms ++ m ∷ [] → matrices_of ms ≡ less_pairs n (range_with_len 0 i) → matrix_of m ≡ less_pair n i → matrices_of now ≡ less_pairs n (range_with_len 0 (i + 1))
pairs_more n i ms now m q h k = ap matrices_of q ∙ matrices_push ms m ∙ ap₂ push_part h (k ∙ ap (less_pair n) (let e : i ≡ 0 + i = omega arith in e)) ∙ sym (last_pair n 0 i)

-- ---- the conjunction

pub one_alone : (n : ℕ) (m : Matrix) → n ≡ 1 → m ≡ less_pair 1 0 → m ≡ conjunction (less_pairs n (range_with_len 0 n))
one_alone n m e h = h ∙ ap (λ j. conjunction (less_pairs j (range_with_len 0 j))) (sym e)

many : (n k : ℕ) → k ≢ 1 → conjunction (less_pairs n (range_with_len 0 k)) ≡ all (less_pairs n (range_with_len 0 k))
many n zero d = refl
many n (suc zero) d = absurd (d refl)
many n (suc (suc k)) d = refl

pub all_seen : (n : ℕ) (ms : List Written) → n ≢ 1 → matrices_of ms ≡ less_pairs n (range_with_len 0 n) → matrix_of (And ms) ≡ conjunction (less_pairs n (range_with_len 0 n))
all_seen n ms d h = seen_and ms ∙ ap all h ∙ sym (many n n d)

-- ---- that it is a problem

pairs_over : (n a k : ℕ) → a + k ≤ n → AreMatrices (less_pairs n (range_with_len a k)) Rat (n + n)
pairs_over n a zero l = tt
pairs_over n a (suc k) l = ((tt, (omega (arith, l), (omega (arith, l), tt))), pairs_over n (a + 1) k (omega (arith, l)))

pair_negated : (n i : ℕ) → HasNegations (less_pair n i) Rat
unfolding gcd
pair_negated n i = (refl, refl)

pairs_negated : (n a k : ℕ) → HaveNegations (less_pairs n (range_with_len a k)) Rat
pairs_negated n a zero = tt
pairs_negated n a (suc k) = (pair_negated n a, pairs_negated n (a + 1) k)

over_all : (ms : Matrices) (s : Sort) (k : ℕ) → AreMatrices ms s k → IsMatrix (conjunction ms) s k
over_all none s k h = tt
over_all (more m none) s k h = h.0
over_all (more m (more o ms)) s k h = h

negated_all : (ms : Matrices) (s : Sort) → HaveNegations ms s → HasNegations (conjunction ms) s
negated_all none s h = tt
negated_all (more m none) s h = h.0
negated_all (more m (more o ms)) s h = h

twice : (n : ℕ) → length (replicate n Forall ++ replicate n Exists) ≡ n + n
twice n = length-append (replicate n Forall) (replicate n Exists) ∙ ap₂ (λ (i j : ℕ). i + j) (length-replicate n Forall) (length-replicate n Exists)

pub short_prefix : (n : ℕ) (qs : List Quant) → n ≤ 512 → qs ≡ replicate n Forall ++ replicate n Exists → length qs ≤ 1024
short_prefix n qs l e = let k : length qs ≡ n + n = ap length e ∙ twice n in omega (arith, l, k)

generated_is_problem : (n k : ℕ) (m : Matrix) → k ≡ n + n → m ≡ conjunction (less_pairs n (range_with_len 0 n)) → IsMatrix m Rat k × HasNegations m Rat
generated_is_problem n k m e h = (
  subst (λ (x : Matrix). IsMatrix x Rat k) (sym h) (subst (IsMatrix (conjunction (less_pairs n (range_with_len 0 n))) Rat) (sym e) (over_all (less_pairs n (range_with_len 0 n)) Rat (n + n) (pairs_over n 0 n (omega arith)))),
  subst (λ (x : Matrix). HasNegations x Rat) (sym h) (negated_all (less_pairs n (range_with_len 0 n)) Rat (pairs_negated n 0 n)),
)

pub made_is_problem : (n : ℕ) (qs : List Quant) (m : Written) → n ≤ 512 → qs ≡ replicate n Forall ++ replicate n Exists → matrix_of m ≡ conjunction (less_pairs n (range_with_len 0 n)) → IsProblem Rat (record { prefix = qs; matrix = m })
made_is_problem n qs m l e h =
    let both = generated_is_problem n (length qs) (matrix_of m) (ap length e ∙ twice n) h in
    (short_prefix n qs l e, both.0, both.1)

pub made_is : (n : ℕ) (qs : List Quant) (m : Written) → qs ≡ replicate n Forall ++ replicate n Exists → matrix_of m ≡ conjunction (less_pairs n (range_with_len 0 n)) → problem_of (record { prefix = qs; matrix = m }) ≡ generated n
made_is n qs m e h = ap₂ (λ (ps : List Quant) (x : Matrix). record { prefix = ps; matrix = x }) e h
