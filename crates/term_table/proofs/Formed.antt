-- Trees that are well formed, from their parts.
use Rattle.std.proofs.Common.{◌≡◌, ℕ, suc, ◌<◌, ◌≤◌, Bool, true, false, ◌&&◌, List, [], ◌∷◌, ◌++◌, length, get_or, refl, sym, ap, subst, ◌∙◌, arith, append_assoc}
use Rattle.lin_term.specs.declared.row.Sort.{Sort}
use Rattle.lin_truth.specs.declared.term.VarSort.{VarSort}
use Rattle.lin_truth.specs.declared.term.VarSort.TheVariants as sorts
use Rattle.lin_truth.specs.Value.{Yes}
use Rattle.lin_truth.specs.Term.{Term, Terms, yes, no, amount, variable, negative, absolute, negated, divisible, minus, quotient_of, div_of, mod_of, less, at_most, greater, at_least, equal, xor_of, implies, ite, plus_of, times_of, and_of, or_of, forall_of, exists_of, no_term, term_and}
use Rattle.lin_truth.specs.View.{terms_of}
use Rattle.lin_truth.specs.Constant.{is_constant, are_constant}
use Rattle.lin_truth.specs.Size.{measures, total}
use Rattle.lin_truth.specs.Truth.{Either, is_boolean, is_formula}
use Rattle.lin_truth.specs.Formed.{IsFormula, IsNumber, AreFormulas, AreNumbers, OneFree, append_all, not_boolean}
use Rattle.lin_truth.specs.Goal.{AreGoalTerms}
use Rattle.term_table.specs.declared.node.Unary.{Unary}
use Rattle.term_table.specs.declared.node.Unary.TheVariants as unary
use Rattle.term_table.specs.declared.node.Variadic.{Variadic}
use Rattle.term_table.specs.declared.node.Variadic.TheVariants as variadic
use Rattle.term_table.specs.Built.{one_of, several_of, apart, pairs_apart, distinct_of}
use Rattle.term_table.specs.Worth.{most_nodes}
use Rattle.term_table.specs.Sound.{IsOf, IsFormed, UnaryFits, unary_part, unary_whole, variadic_sort}

pub yes_true : (b : Bool) → Yes b → b ≡ true
yes_true true y = refl
yes_true false y = absurd y

pub true_yes : (b : Bool) → b ≡ true → Yes b
true_yes true e = tt
true_yes false e = cc

-- ---- the sort of a term is its own

boolean_not : (u : VarSort) → Yes (not_boolean u) → is_boolean u ≡ false
boolean_not sorts.Bool y = absurd y
boolean_not sorts.Number y = refl

pub formula_is : (t : Term) (s : Sort) (vs : List VarSort) → IsFormula t s vs → is_formula t vs ≡ true
formula_is yes s vs f = refl
formula_is no s vs f = refl
formula_is (amount v) s vs f = absurd f
formula_is (variable i) s vs f = yes_true (is_boolean (get_or vs i sorts.Number)) f.1
formula_is (negative t) s vs f = absurd f
formula_is (absolute t) s vs f = absurd f
formula_is (negated t) s vs f = refl
formula_is (divisible n t) s vs f = refl
formula_is (minus a b) s vs f = absurd f
formula_is (quotient_of a b) s vs f = absurd f
formula_is (div_of a b) s vs f = absurd f
formula_is (mod_of a b) s vs f = absurd f
formula_is (less a b) s vs f = refl
formula_is (at_most a b) s vs f = refl
formula_is (greater a b) s vs f = refl
formula_is (at_least a b) s vs f = refl
formula_is (equal a b) s vs f = refl
formula_is (xor_of a b) s vs f = refl
formula_is (implies a b) s vs f = refl
formula_is (ite c a b) s vs f = formula_is a s vs f.1
formula_is (plus_of ts) s vs f = absurd f
formula_is (times_of ts) s vs f = absurd f
formula_is (and_of ts) s vs f = refl
formula_is (or_of ts) s vs f = refl
formula_is (forall_of us t) s vs f = refl
formula_is (exists_of us t) s vs f = refl

pub number_is : (t : Term) (s : Sort) (vs : List VarSort) → IsNumber t s vs → is_formula t vs ≡ false
number_is yes s vs f = absurd f
number_is no s vs f = absurd f
number_is (amount v) s vs f = refl
number_is (variable i) s vs f = boolean_not (get_or vs i sorts.Number) f.1
number_is (negative t) s vs f = refl
number_is (absolute t) s vs f = refl
number_is (negated t) s vs f = absurd f
number_is (divisible n t) s vs f = absurd f
number_is (minus a b) s vs f = refl
number_is (quotient_of a b) s vs f = refl
number_is (div_of a b) s vs f = refl
number_is (mod_of a b) s vs f = refl
number_is (less a b) s vs f = absurd f
number_is (at_most a b) s vs f = absurd f
number_is (greater a b) s vs f = absurd f
number_is (at_least a b) s vs f = absurd f
number_is (equal a b) s vs f = absurd f
number_is (xor_of a b) s vs f = absurd f
number_is (implies a b) s vs f = absurd f
number_is (ite c a b) s vs f = number_is a s vs f.1
number_is (plus_of ts) s vs f = refl
number_is (times_of ts) s vs f = refl
number_is (and_of ts) s vs f = absurd f
number_is (or_of ts) s vs f = absurd f
number_is (forall_of us t) s vs f = absurd f
number_is (exists_of us t) s vs f = absurd f

-- ---- one part

pub one_formed : (s : Sort) (op : Unary) (x : Term) (vs : List VarSort) → UnaryFits s op → IsFormed s (unary_part op) x vs → IsFormed s (unary_whole op) (one_of op x) vs
one_formed s unary.Not x vs fits part le = part (omega arith)
one_formed s unary.Negative x vs fits part le = part (omega arith)
one_formed s unary.Abs x vs fits part le = part (omega arith)
one_formed s (unary.Divisible n) x vs fits part le = let p = part (omega arith) in ((fits.0, fits.1, p.0), (fits.2, p.1))

pub one_fixed : (op : Unary) (x y : Term) → Yes (is_constant (one_of op x)) → (Yes (is_constant x) → x ≡ y) → one_of op x ≡ one_of op y
one_fixed unary.Not x y c same = absurd c
one_fixed unary.Negative x y c same = ap negative (same c)
one_fixed unary.Abs x y c same = ap absolute (same c)
one_fixed (unary.Divisible n) x y c same = absurd c

-- ---- two parts

pub both_yes : (a b : Bool) → Yes (a && b) → Yes a × Yes b
both_yes true true y = (tt, tt)
both_yes true false y = absurd y
both_yes false b y = absurd y

pub and_yes : (a b : Bool) → Yes a → Yes b → Yes (a && b)
and_yes true true p q = tt
and_yes true false p q = absurd q
and_yes false b p q = absurd p

pub equal_formed : (s : Sort) (u : VarSort) (x y : Term) (vs : List VarSort) → IsOf u x s vs → IsOf u y s vs → IsFormula (equal x y) s vs
equal_formed s sorts.Bool x y vs p q = subst (λ b. Either b (IsFormula x s vs × IsFormula y s vs) (IsNumber x s vs × IsNumber y s vs)) (sym (formula_is x s vs p)) (p, q)
equal_formed s sorts.Number x y vs p q = subst (λ b. Either b (IsFormula x s vs × IsFormula y s vs) (IsNumber x s vs × IsNumber y s vs)) (sym (number_is x s vs p)) (p, q)

-- ---- several parts

abbrev pub AllFormed : Sort → VarSort → List Term → List VarSort → Type 0
AllFormed s u [] vs = Unit {0}
AllFormed s u (x ∷ xs) vs = IsFormed s u x vs × AllFormed s u xs vs

formulas_of : (s : Sort) (xs : List Term) (vs : List VarSort) → AllFormed s sorts.Bool xs vs → total (measures (λ bindings parts. suc (total parts)) (terms_of xs)) ≤ most_nodes
    → AreFormulas (terms_of xs) s vs × AreGoalTerms (terms_of xs)
formulas_of s [] vs all le = (tt, tt)
formulas_of s (x ∷ xs) vs all le =
    let first = all.0 (omega arith) in
    let rest = formulas_of s xs vs all.1 (omega arith) in
    ((first.0, rest.0), (first.1, rest.1))

numbers_of : (s : Sort) (xs : List Term) (vs : List VarSort) → AllFormed s sorts.Number xs vs → total (measures (λ bindings parts. suc (total parts)) (terms_of xs)) ≤ most_nodes
    → AreNumbers (terms_of xs) s vs × AreGoalTerms (terms_of xs)
numbers_of s [] vs all le = (tt, tt)
numbers_of s (x ∷ xs) vs all le =
    let first = all.0 (omega arith) in
    let rest = numbers_of s xs vs all.1 (omega arith) in
    ((first.0, rest.0), (first.1, rest.1))

abbrev pub FreeFits : Variadic → List Term → Type 0
FreeFits variadic.Plus xs = Unit {0}
FreeFits variadic.Times xs = OneFree (terms_of xs)
FreeFits variadic.And xs = Unit {0}
FreeFits variadic.Or xs = Unit {0}

pub several_formed : (s : Sort) (op : Variadic) (xs : List Term) (vs : List VarSort) → FreeFits op xs → AllFormed s (variadic_sort op) xs vs → IsFormed s (variadic_sort op) (several_of op xs) vs
several_formed s variadic.Plus xs vs free all le = numbers_of s xs vs all (omega arith)
several_formed s variadic.Times xs vs free all le = let parts = numbers_of s xs vs all (omega arith) in ((parts.0, free), parts.1)
several_formed s variadic.And xs vs free all le = formulas_of s xs vs all (omega arith)
several_formed s variadic.Or xs vs free all le = formulas_of s xs vs all (omega arith)

-- each is the same where it is a constant term
abbrev pub AllFixed : List Term → List Term → Type 0
AllFixed [] [] = Unit {0}
AllFixed [] (y ∷ ys) = ⊥
AllFixed (x ∷ xs) [] = ⊥
AllFixed (x ∷ xs) (y ∷ ys) = (Yes (is_constant x) → x ≡ y) × AllFixed xs ys

all_same : (xs ys : List Term) → AllFixed xs ys → Yes (are_constant (terms_of xs)) → terms_of xs ≡ terms_of ys
all_same [] [] same c = refl
all_same [] (y ∷ ys) same c = absurd same
all_same (x ∷ xs) [] same c = absurd same
all_same (x ∷ xs) (y ∷ ys) same c =
    let both = both_yes (is_constant x) (are_constant (terms_of xs)) c in
    λ k. term_and (same.0 both.0 k) (all_same xs ys same.1 both.1 k)

pub several_fixed : (op : Variadic) (xs ys : List Term) → Yes (is_constant (several_of op xs)) → AllFixed xs ys → several_of op xs ≡ several_of op ys
several_fixed variadic.Plus xs ys c same = ap plus_of (all_same xs ys same c)
several_fixed variadic.Times xs ys c same = ap times_of (all_same xs ys same c)
several_fixed variadic.And xs ys c same = absurd c
several_fixed variadic.Or xs ys c same = absurd c

either_free : (b : Bool) (ts : Terms) → Yes (b && are_constant ts) → (Yes (are_constant ts) → OneFree ts) → Either b (OneFree ts) (Yes (are_constant ts))
either_free true ts y free = free y
either_free false ts y free = absurd y

pub constants_free : (ts : Terms) → Yes (are_constant ts) → OneFree ts
constants_free no_term c = tt
constants_free (term_and t ts) c = either_free (is_constant t) ts c (constants_free ts)

-- ---- no two are equal

all_apart : (s : Sort) (u : VarSort) (x : Term) (ys : List Term) (vs : List VarSort) → IsFormed s u x vs → AllFormed s u ys vs → AllFormed s sorts.Bool (apart x ys) vs
all_apart s u x [] vs first all = tt
all_apart s u x (y ∷ ys) vs first all =
    (λ le. let p = first (omega arith) in let q = all.0 (omega arith) in (equal_formed s u x y vs p.0 q.0, (p.1, q.1)), all_apart s u x ys vs first all.1)

all_append : (s : Sort) (u : VarSort) (xs ys : List Term) (vs : List VarSort) → AllFormed s u xs vs → AllFormed s u ys vs → AllFormed s u (xs ++ ys) vs
all_append s u [] ys vs p q = q
all_append s u (x ∷ xs) ys vs p q = (p.0, all_append s u xs ys vs p.1 q)

all_pairs : (s : Sort) (u : VarSort) (xs : List Term) (vs : List VarSort) → AllFormed s u xs vs → AllFormed s sorts.Bool (pairs_apart xs) vs
all_pairs s u [] vs all = tt
all_pairs s u (x ∷ xs) vs all = all_append s sorts.Bool (apart x xs) (pairs_apart xs) vs (all_apart s u x xs vs all.0 all.1) (all_pairs s u xs vs all.1)

pub distinct_formed : (s : Sort) (u : VarSort) (xs : List Term) (vs : List VarSort) → AllFormed s u xs vs → IsFormed s sorts.Bool (distinct_of xs) vs
distinct_formed s u xs vs all le = formulas_of s (pairs_apart xs) vs (all_pairs s u xs vs all) (omega arith)

-- ---- scopes

pub append_all-is : (vs us : List VarSort) → append_all vs us ≡ vs ++ us
append_all-is vs [] = sym (end vs)
  where
    end : (vs : List VarSort) → vs ++ [] ≡ vs
    end [] = refl
    end (v ∷ vs) = ap (λ r. v ∷ r) (end vs)
append_all-is vs (u ∷ us) = append_all-is (vs ++ u ∷ []) us ∙ append_assoc vs (u ∷ []) us

variable_is : (u : VarSort) (s : Sort) (vs : List VarSort) (i : ℕ) → i < length vs → get_or vs i sorts.Number ≡ u → IsOf u (variable i) s vs
variable_is sorts.Bool s vs i lt e = (lt, subst (λ v. Yes (is_boolean v)) (sym e) tt)
variable_is sorts.Number s vs i lt e = (lt, subst (λ v. Yes (not_boolean v)) (sym e) tt)

pub variable_formed : (u : VarSort) (s : Sort) (vs : List VarSort) (i : ℕ) → i < length vs → get_or vs i sorts.Number ≡ u → IsFormed s u (variable i) vs
variable_formed u s vs i lt e le = (variable_is u s vs i lt e, tt)
