-- What is known of a node as a constant term.
use Rattle.std.proofs.Common.{◌≡◌, ℕ, zero, suc, ◌<◌, ◌≤◌, ◌==◌, min, Bool, true, false, ◌&&◌, List, [], ◌∷◌, ◌++◌, map, get_or, Some, None, refl, sym, ap, ◌∙◌, arith}
use Rattle.std.specs.Prelude.{nat_le, if◌then◌else◌, IfOk, Result, Ok, Err}
use Rattle.lin_term.specs.Linear.{Value}
use Rattle.lin_truth.specs.declared.term.VarSort.{VarSort}
use Rattle.lin_truth.specs.Term.{Term, Terms, yes, no, amount, variable, negative, absolute, negated, divisible, minus, quotient_of, div_of, mod_of, less, at_most, greater, at_least, equal, xor_of, implies, ite, plus_of, times_of, and_of, or_of, forall_of, exists_of, no_term, term_and}
use Rattle.lin_truth.specs.Constant.{is_constant, are_constant}
use Rattle.lin_truth.specs.Size.{node_count, total}
use Rattle.lin_truth.specs.Value.{zero_value, one_value, v_neg, v_abs, v_plus, v_times, v_minus, v_over, v_div, v_mod}
use Rattle.lin_truth.specs.Worked.{worked, worked_sum, worked_product, step_one, step_two}
use Rattle.term_table.specs.declared.amount.Amount.{Amount}
use Rattle.term_table.specs.declared.node.Unary.{Unary}
use Rattle.term_table.specs.declared.node.Binary.{Binary}
use Rattle.term_table.specs.declared.node.Variadic.{Variadic}
use Rattle.term_table.specs.declared.node.Quantifier.{Quantifier}
use Rattle.term_table.specs.declared.node.Quantifier.TheVariants as quantifier
use Rattle.term_table.specs.declared.worth.Worth.{Worth}
use Rattle.term_table.specs.declared.worth.Worth.TheVariants as worth
use Rattle.term_table.specs.Placed.{top}
use Rattle.term_table.specs.Built.{one_of, two_of, several_of, binder_of}
use Rattle.term_table.specs.Meaning.{Meaning, at}
use Rattle.term_table.specs.Known.{Known, known_one, known_two, known_several}
use Rattle.term_table.specs.Worth.{most_nodes, value_known, worth_of}
use Rattle.term_table.specs.Entries.{IsKnown, AreKnown}
use Rattle.term_table.proofs.NodeSizes.{measure_one, measure_two, measure_several}
use Rattle.term_table.proofs.KnownLemmas.{one-worked, two-worked, several-worked}

pub known-at : (ms : List Meaning) (xs : List Known) (i : ℕ) → AreKnown ms xs → IsKnown (at ms i) (get_or xs i None)
known-at [] [] i are = λ le. refl
known-at [] (x ∷ xs) i are = absurd are
known-at (m ∷ ms) [] i are = absurd are
known-at (m ∷ ms) (x ∷ xs) zero are = are.0
known-at (m ∷ ms) (x ∷ xs) (suc i) are = known-at ms xs i are.1

pub knowns-push : (ms : List Meaning) (xs : List Known) (m : Meaning) (x : Known) → AreKnown ms xs → IsKnown m x → AreKnown (ms ++ m ∷ []) (xs ++ x ∷ [])
knowns-push [] [] m x are is = (is, tt)
knowns-push [] (y ∷ xs) m x are is = absurd are
knowns-push (t ∷ ms) [] m x are is = absurd are
knowns-push (t ∷ ms) (y ∷ xs) m x are is = (are.0, knowns-push ms xs m x are.1 is)

-- ---- one node

pub know-one : (m : Meaning) (op : Unary) (x : Known) → IsKnown m x → IsKnown (λ frame n. one_of op (m frame n)) (known_one op x)
know-one m op x is = λ le. ap (known_one op) (is (let e = measure_one (λ b ns. suc (total ns)) op (m top 0) in omega (arith, e, le))) ∙ sym (one-worked op (m top 0))

pub know-two : (m n : Meaning) (op : Binary) (x y : Known) → IsKnown m x → IsKnown n y → IsKnown (λ frame k. two_of op (m frame k) (n frame k)) (known_two op x y)
know-two m n op x y is too =
    λ le. let e = measure_two (λ b ns. suc (total ns)) op (m top 0) (n top 0) in
    (λ k. known_two op (is (omega (arith, e, le)) k) (too (omega (arith, e, le)) k)) ∙ sym (two-worked op (m top 0) (n top 0))

parts-known : (ms : List Meaning) (xs : List Known) (is : List ℕ) → AreKnown ms xs → total (map node_count (map (λ i. at ms i top 0) is)) ≤ most_nodes
    → map (λ i. get_or xs i None) is ≡ map worked (map (λ i. at ms i top 0) is)
parts-known ms xs [] are le = refl
parts-known ms xs (i ∷ is) are le = λ k. known-at ms xs i are (omega (arith, le)) k ∷ parts-known ms xs is are (omega (arith, le)) k

pub know-several : (ms : List Meaning) (xs : List Known) (op : Variadic) (is : List ℕ) → AreKnown ms xs
    → IsKnown (λ frame n. several_of op (map (λ i. at ms i frame n) is)) (known_several op (map (λ i. get_or xs i None) is))
know-several ms xs op is are =
    λ le. let ts = map (λ i. at ms i top 0) is in
    let e = measure_several (λ b ns. suc (total ns)) op ts in
    ap (known_several op) (parts-known ms xs is are (omega (arith, e, le))) ∙ sym (several-worked op ts)

pub binder-none : (q : Quantifier) (us : List VarSort) (t : Term) → None ≡ worked (binder_of q us t)
binder-none quantifier.Forall us t = refl
binder-none quantifier.Exists us t = refl

-- ---- terms that are no constant terms have no value

right_none : (f : Value → Value → Value) (x : Known) → step_two f x None ≡ None
right_none f None = refl
right_none f (Some v) = refl

two_none : (f : Value → Value → Value) (p q : Bool) (x y : Known) → (p ≡ false → x ≡ None) → (q ≡ false → y ≡ None) → (p && q) ≡ false → step_two f x y ≡ None
two_none f true q x y left right e = ap (step_two f x) (right e) ∙ right_none f x
two_none f false q x y left right e = ap (λ (z : Known). step_two f z y) (left refl)

sum_stays : (ts : Terms) → worked_sum ts None ≡ None
sum_stays no_term = refl
sum_stays (term_and t ts) = sum_stays ts

product_stays : (ts : Terms) → worked_product ts None ≡ None
product_stays no_term = refl
product_stays (term_and t ts) = product_stays ts

sum_step : (p q : Bool) (ts : Terms) (x y : Known) → (p ≡ false → y ≡ None) → (q ≡ false → worked_sum ts (step_two v_plus x y) ≡ None) → (p && q) ≡ false → worked_sum ts (step_two v_plus x y) ≡ None
sum_step true q ts x y here later e = later e
sum_step false q ts x y here later e = ap (λ (z : Known). worked_sum ts (step_two v_plus x z)) (here refl) ∙ ap (worked_sum ts) (right_none v_plus x) ∙ sum_stays ts

product_step : (p q : Bool) (ts : Terms) (x y : Known) → (p ≡ false → y ≡ None) → (q ≡ false → worked_product ts (step_two v_times x y) ≡ None) → (p && q) ≡ false → worked_product ts (step_two v_times x y) ≡ None
product_step true q ts x y here later e = later e
product_step false q ts x y here later e = ap (λ (z : Known). worked_product ts (step_two v_times x z)) (here refl) ∙ ap (worked_product ts) (right_none v_times x) ∙ product_stays ts

mutual
  unworked : (t : Term) → is_constant t ≡ false → worked t ≡ None
  unworked (amount v) e = cc
  unworked (negative t) e = ap (step_one v_neg) (unworked t e)
  unworked (absolute t) e = ap (step_one v_abs) (unworked t e)
  unworked (minus a b) e = two_none v_minus (is_constant a) (is_constant b) (worked a) (worked b) (unworked a) (unworked b) e
  unworked (quotient_of a b) e = two_none v_over (is_constant a) (is_constant b) (worked a) (worked b) (unworked a) (unworked b) e
  unworked (div_of a b) e = two_none v_div (is_constant a) (is_constant b) (worked a) (worked b) (unworked a) (unworked b) e
  unworked (mod_of a b) e = two_none v_mod (is_constant a) (is_constant b) (worked a) (worked b) (unworked a) (unworked b) e
  unworked (plus_of ts) e = sum_unworked ts (Some zero_value) e
  unworked (times_of ts) e = product_unworked ts (Some one_value) e
  unworked yes e = refl
  unworked no e = refl
  unworked (variable i) e = refl
  unworked (negated t) e = refl
  unworked (divisible n t) e = refl
  unworked (less a b) e = refl
  unworked (at_most a b) e = refl
  unworked (greater a b) e = refl
  unworked (at_least a b) e = refl
  unworked (equal a b) e = refl
  unworked (xor_of a b) e = refl
  unworked (implies a b) e = refl
  unworked (ite c a b) e = refl
  unworked (and_of ts) e = refl
  unworked (or_of ts) e = refl
  unworked (forall_of us t) e = refl
  unworked (exists_of us t) e = refl

  sum_unworked : (ts : Terms) (x : Known) → are_constant ts ≡ false → worked_sum ts x ≡ None
  sum_unworked no_term x e = cc
  sum_unworked (term_and t ts) x e = sum_step (is_constant t) (are_constant ts) ts x (worked t) (unworked t) (sum_unworked ts (step_two v_plus x (worked t))) e

  product_unworked : (ts : Terms) (x : Known) → are_constant ts ≡ false → worked_product ts x ≡ None
  product_unworked no_term x e = cc
  product_unworked (term_and t ts) x e = product_step (is_constant t) (are_constant ts) ts x (worked t) (unworked t) (product_unworked ts (step_two v_times x (worked t))) e

-- a free node makes a term no constant term
free_false : (n : ℕ) (b : Bool) → min 1 n ≡ min 1 (if b then 0 else 1) → 0 < n → b ≡ false
free_false n true e lt = absurd (omega (arith, e))
free_false n false e lt = refl

pub free-none : (t : Term) (n : ℕ) → min 1 n ≡ min 1 (if is_constant t then 0 else 1) → 0 < n → None ≡ worked t
free-none t n e lt = sym (unworked t (free_false n (is_constant t) e lt))

pub too_large : (t : Term) (n : ℕ) → min 1048577 n ≡ min 1048577 (node_count t) → most_nodes < n → node_count t ≤ most_nodes → None ≡ worked t
too_large t n e lt le = absurd (omega (arith, e))

-- ---- the worth of a term

pub no_free : (n : ℕ) (b : Bool) → min 1 n ≡ min 1 (if b then 0 else 1) → (n == 0) ≡ b
no_free zero true e = refl
no_free zero false e = absurd (omega (arith, e))
no_free (suc n) true e = absurd (omega (arith, e))
no_free (suc n) false e = search arith

same_test : (n m : ℕ) → min 1048577 n ≡ min 1048577 m → nat_le n most_nodes ≡ nat_le m most_nodes
same_test n m e = grind (arith, e)

le_from : (n m : ℕ) → nat_le n m ≡ true → n ≤ m
le_from n m e = grind (arith, e)

where_small : (l : Bool) (x y : Known) → (l ≡ true → x ≡ y) → (if l then value_known x else worth.Large) ≡ (if l then value_known y else worth.Large)
where_small true x y is = ap value_known (is refl)
where_small false x y is = refl

pub worth-is : (t : Term) (a : Amount) (x : Known) → min 1048577 a.nodes ≡ min 1048577 (node_count t) → min 1 a.free ≡ min 1 (if is_constant t then 0 else 1) → (node_count t ≤ most_nodes → x ≡ worked t)
    → (if a.free == 0 then (if nat_le a.nodes most_nodes then value_known x else worth.Large) else worth.Free) ≡ worth_of t
worth-is t a x p q is =
    (λ k. if no_free a.free (is_constant t) q k then (if same_test a.nodes (node_count t) p k then value_known x else worth.Large) else worth.Free)
    ∙ ap (λ (w : Worth). if is_constant t then w else worth.Free) (where_small (nat_le (node_count t) most_nodes) x (worked t) (λ e. is (le_from (node_count t) most_nodes e)))

pub if_ok-known : {E : Type 0} → (r : Result Known E) (t : Term) {x : Known} → x ≡ worked t → IfOk r (λ known. known ≡ x) → IfOk r (λ known. node_count t ≤ most_nodes → known ≡ worked t)
if_ok-known (Ok y) t same is = λ le. is ∙ same
if_ok-known (Err e) t same is = is

pub if_ok-is : {E : Type 0} → (r : Result Known E) (m : Meaning) (x : Known) → IsKnown m x → IfOk r (λ known. known ≡ x) → IfOk r (IsKnown m)
if_ok-is (Ok y) m x known is = λ le. is ∙ known le
if_ok-is (Err e) m x known is = is
