-- What the terms of a goal mean: values and truth. Truth is classical: `exists` says that not every value fails,
-- a disjunction that not all its parts fail.
use Rattle.std.specs.Prelude.{ℕ, ◌*◌, ◌%◌, ◌≡◌, nat_abs, List, [], ◌∷◌, ◌++◌, map, get_or, ⊤, Bool, true, false}
use Rattle.lin_term.specs.declared.Sort.{Sort}
use Rattle.lin_term.specs.Linear.{Value, IsValue}
use Rattle.lin_truth.specs.declared.term.VarSort.{VarSort}
use Rattle.lin_truth.specs.declared.term.VarSort.TheVariants as sorts
use Rattle.lin_truth.specs.Value.{zero_value, one_value, v_neg, v_abs, v_plus, v_minus, v_times, v_over, v_div, v_mod, IsBelow, IsUpTo, IsSame, Yes}
use Rattle.lin_truth.specs.Term.{Term, Terms, yes, no, amount, variable, negative, absolute, negated, divisible, minus, quotient_of, div_of, mod_of, less, at_most, greater, at_least, equal, xor_of, implies, ite, plus_of, times_of, and_of, or_of, forall_of, exists_of, no_term, term_and}

-- ---- what the variables stand for

pub data Datum : Type 0 where
  truth : Bool → Datum
  value : Value → Datum

abbrev pub sort_of : Datum → VarSort
sort_of (truth b) = sorts.Bool
sort_of (value v) = sorts.Number

abbrev pub IsYes : Datum → Type 0
IsYes (truth b) = Yes b
IsYes (value v) = ⊥

abbrev pub number_of : Datum → Value
number_of (truth b) = zero_value
number_of (value v) = v

abbrev pub at_place : List Datum → ℕ → Datum
at_place env i = get_or env i (truth false)

-- for all values of variables of these sorts
abbrev pub Every : List VarSort → Sort → (List Datum → Type 0) → List Datum → Type 0
Every [] s P env = P env
Every (sorts.Bool ∷ vs) s P env = (b : Bool) → Every vs s P (env ++ truth b ∷ [])
Every (sorts.Number ∷ vs) s P env = (v : Value) → IsValue s v → Every vs s P (env ++ value v ∷ [])

abbrev pub is_boolean : VarSort → Bool
is_boolean sorts.Bool = true
is_boolean sorts.Number = false

abbrev pub is_formula : Term → List VarSort → Bool
is_formula yes vs = true
is_formula no vs = true
is_formula (amount v) vs = false
is_formula (variable i) vs = is_boolean (get_or vs i sorts.Number)
is_formula (negative t) vs = false
is_formula (absolute t) vs = false
is_formula (negated t) vs = true
is_formula (divisible n t) vs = true
is_formula (minus a b) vs = false
is_formula (quotient_of a b) vs = false
is_formula (div_of a b) vs = false
is_formula (mod_of a b) vs = false
is_formula (less a b) vs = true
is_formula (at_most a b) vs = true
is_formula (greater a b) vs = true
is_formula (at_least a b) vs = true
is_formula (equal a b) vs = true
is_formula (xor_of a b) vs = true
is_formula (implies a b) vs = true
is_formula (ite c a b) vs = is_formula a vs
is_formula (plus_of ts) vs = false
is_formula (times_of ts) vs = false
is_formula (and_of ts) vs = true
is_formula (or_of ts) vs = true
is_formula (forall_of us t) vs = true
is_formula (exists_of us t) vs = true

abbrev pub Either : Bool → Type 0 → Type 0 → Type 0
Either true A B = A
Either false A B = B

abbrev pub Same : Type 0 → Type 0 → Type 0
Same A B = (A → B) × (B → A)

-- ---- truth; `ValueIs t s env K` says that the value of t has the property K
abbrev mutual
  pub True : Term → Sort → List Datum → Type 0
  True yes s env = ⊤
  True no s env = ⊥
  True (amount v) s env = ⊥
  True (variable i) s env = IsYes (at_place env i)
  True (negative t) s env = ⊥
  True (absolute t) s env = ⊥
  True (negated t) s env = ¬ True t s env
  True (divisible n t) s env = ValueIs t s env (λ x. nat_abs x.num % (n * x.den) ≡ 0)
  True (minus a b) s env = ⊥
  True (quotient_of a b) s env = ⊥
  True (div_of a b) s env = ⊥
  True (mod_of a b) s env = ⊥
  True (less a b) s env = ValueIs a s env (λ x. ValueIs b s env (λ y. IsBelow x y))
  True (at_most a b) s env = ValueIs a s env (λ x. ValueIs b s env (λ y. IsUpTo x y))
  True (greater a b) s env = ValueIs a s env (λ x. ValueIs b s env (λ y. IsBelow y x))
  True (at_least a b) s env = ValueIs a s env (λ x. ValueIs b s env (λ y. IsUpTo y x))
  True (equal a b) s env =
      Either (is_formula a (map sort_of env)) (Same (True a s env) (True b s env)) (ValueIs a s env (λ x. ValueIs b s env (λ y. IsSame x y)))
  True (xor_of a b) s env = ¬ Same (True a s env) (True b s env)
  True (implies a b) s env = True a s env → True b s env
  True (ite c a b) s env = (True c s env → True a s env) × (¬ True c s env → True b s env)
  True (plus_of ts) s env = ⊥
  True (times_of ts) s env = ⊥
  True (and_of ts) s env = EachTrue ts s env
  True (or_of ts) s env = ¬ NoneTrue ts s env
  True (forall_of vs t) s env = Every vs s (λ e. True t s e) env
  True (exists_of vs t) s env = ¬ Every vs s (λ e. ¬ True t s e) env

  pub EachTrue : Terms → Sort → List Datum → Type 0
  EachTrue no_term s env = ⊤
  EachTrue (term_and t ts) s env = True t s env × EachTrue ts s env

  pub NoneTrue : Terms → Sort → List Datum → Type 0
  NoneTrue no_term s env = ⊤
  NoneTrue (term_and t ts) s env = ¬ True t s env × NoneTrue ts s env

  pub ValueIs : Term → Sort → List Datum → (Value → Type 0) → Type 0
  ValueIs yes s env K = ⊥
  ValueIs no s env K = ⊥
  ValueIs (amount v) s env K = K v
  ValueIs (variable i) s env K = K (number_of (at_place env i))
  ValueIs (negative t) s env K = ValueIs t s env (λ x. K (v_neg x))
  ValueIs (absolute t) s env K = ValueIs t s env (λ x. K (v_abs x))
  ValueIs (negated t) s env K = ⊥
  ValueIs (divisible n t) s env K = ⊥
  ValueIs (minus a b) s env K = ValueIs a s env (λ x. ValueIs b s env (λ y. K (v_minus x y)))
  ValueIs (quotient_of a b) s env K = ValueIs a s env (λ x. ValueIs b s env (λ y. K (v_over x y)))
  ValueIs (div_of a b) s env K = ValueIs a s env (λ x. ValueIs b s env (λ y. K (v_div x y)))
  ValueIs (mod_of a b) s env K = ValueIs a s env (λ x. ValueIs b s env (λ y. K (v_mod x y)))
  ValueIs (less a b) s env K = ⊥
  ValueIs (at_most a b) s env K = ⊥
  ValueIs (greater a b) s env K = ⊥
  ValueIs (at_least a b) s env K = ⊥
  ValueIs (equal a b) s env K = ⊥
  ValueIs (xor_of a b) s env K = ⊥
  ValueIs (implies a b) s env K = ⊥
  ValueIs (ite c a b) s env K = ValueIs a s env (λ x. ValueIs b s env (λ y. (True c s env → K x) × (¬ True c s env → K y)))
  ValueIs (plus_of ts) s env K = SumIs ts s env zero_value K
  ValueIs (times_of ts) s env K = ProductIs ts s env one_value K
  ValueIs (and_of ts) s env K = ⊥
  ValueIs (or_of ts) s env K = ⊥
  ValueIs (forall_of vs t) s env K = ⊥
  ValueIs (exists_of vs t) s env K = ⊥

  pub SumIs : Terms → Sort → List Datum → Value → (Value → Type 0) → Type 0
  SumIs no_term s env x K = K x
  SumIs (term_and t ts) s env x K = ValueIs t s env (λ y. SumIs ts s env (v_plus x y) K)

  pub ProductIs : Terms → Sort → List Datum → Value → (Value → Type 0) → Type 0
  ProductIs no_term s env x K = K x
  ProductIs (term_and t ts) s env x K = ValueIs t s env (λ y. ProductIs ts s env (v_times x y) K)
