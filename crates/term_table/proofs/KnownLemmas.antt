-- The value of a constant term is that of its parts put together.
use Rattle.std.proofs.Common.{◌≡◌, ℕ, zero, suc, ◌+◌, ◌-◌, ◌<◌, List, [], ◌∷◌, ◌++◌, map, take, drop, Some, None, refl, sym, ap, ◌∙◌, arith, append_assoc}
use Rattle.lin_truth.specs.Term.{Term}
use Rattle.lin_truth.specs.Value.{zero_value, one_value, v_plus, v_times}
use Rattle.lin_truth.specs.View.{terms_of}
use Rattle.lin_truth.specs.Worked.{step_two, worked, worked_sum, worked_product}
use Rattle.term_table.specs.declared.node.Leaf.{Leaf}
use Rattle.term_table.specs.declared.node.Leaf.TheVariants as leaf
use Rattle.term_table.specs.declared.node.Unary.{Unary}
use Rattle.term_table.specs.declared.node.Unary.TheVariants as unary
use Rattle.term_table.specs.declared.node.Binary.{Binary}
use Rattle.term_table.specs.declared.node.Binary.TheVariants as binary
use Rattle.term_table.specs.declared.node.Variadic.{Variadic}
use Rattle.term_table.specs.declared.node.Variadic.TheVariants as variadic
use Rattle.term_table.specs.declared.node.Quantifier.TheVariants as quantifier
use Rattle.term_table.specs.declared.step.Step.{Step}
use Rattle.term_table.specs.declared.step.Step.TheVariants as step
use Rattle.term_table.specs.Built.{leaf_of, one_of, two_of, several_of}
use Rattle.term_table.specs.Steps.{first, rest, stepped, run}
use Rattle.term_table.specs.Known.{Known, known_leaf, known_one, known_two, known_sum, known_product, known_several, first_known, rest_known, known_step, known_run, turned_on, turned}

pub leaf-worked : (l : Leaf) → worked (leaf_of l) ≡ known_leaf l
leaf-worked leaf.True = refl
leaf-worked leaf.False = refl
leaf-worked (leaf.Number num den) = refl
leaf-worked (leaf.Constant i) = refl

pub one-worked : (op : Unary) (t : Term) → worked (one_of op t) ≡ known_one op (worked t)
one-worked unary.Negative t = refl
one-worked unary.Abs t = refl
one-worked unary.Not t = refl
one-worked (unary.Divisible n) t = refl

pub two-worked : (op : Binary) (a b : Term) → worked (two_of op a b) ≡ known_two op (worked a) (worked b)
two-worked binary.Minus a b = refl
two-worked binary.Quotient a b = refl
two-worked binary.Div a b = refl
two-worked binary.Mod a b = refl
two-worked binary.Less a b = refl
two-worked binary.AtMost a b = refl
two-worked binary.Greater a b = refl
two-worked binary.AtLeast a b = refl
two-worked binary.Equal a b = refl
two-worked binary.Xor a b = refl
two-worked binary.Implies a b = refl

sum-worked : (ts : List Term) (x : Known) → worked_sum (terms_of ts) x ≡ known_sum (map worked ts) x
sum-worked [] x = refl
sum-worked (t ∷ ts) x = sum-worked ts (step_two v_plus x (worked t))

product-worked : (ts : List Term) (x : Known) → worked_product (terms_of ts) x ≡ known_product (map worked ts) x
product-worked [] x = refl
product-worked (t ∷ ts) x = product-worked ts (step_two v_times x (worked t))

pub several-worked : (op : Variadic) (ts : List Term) → worked (several_of op ts) ≡ known_several op (map worked ts)
several-worked variadic.Plus ts = sum-worked ts (Some zero_value)
several-worked variadic.Times ts = product-worked ts (Some one_value)
several-worked variadic.And ts = refl
several-worked variadic.Or ts = refl

-- ---- steps

pub first-worked : (ts : List Term) → worked (first ts) ≡ first_known (map worked ts)
first-worked [] = refl
first-worked (t ∷ ts) = refl

rest-worked : (ts : List Term) → map worked (rest ts) ≡ rest_known (map worked ts)
rest-worked [] = refl
rest-worked (t ∷ ts) = refl

map-take : (k : ℕ) (ts : List Term) → map worked (take k ts) ≡ take k (map worked ts)
map-take zero ts = refl
map-take (suc k) [] = refl
map-take (suc k) (t ∷ ts) = ap (λ (r : List Known). worked t ∷ r) (map-take k ts)

map-drop : (k : ℕ) (ts : List Term) → map worked (drop k ts) ≡ drop k (map worked ts)
map-drop zero ts = refl
map-drop (suc k) [] = refl
map-drop (suc k) (t ∷ ts) = map-drop k ts

step-worked : (s : Step) (ts : List Term) → map worked (stepped s ts) ≡ known_step s (map worked ts)
step-worked (step.Leaf l) ts = ap (λ (x : Known). x ∷ map worked ts) (leaf-worked l)
step-worked (step.Variable i) ts = refl
step-worked (step.One op) ts = λ k. (one-worked op (first ts) ∙ ap (known_one op) (first-worked ts)) k ∷ rest-worked ts k
step-worked (step.Two op) ts =
    let f = first-worked (rest ts) ∙ ap first_known (rest-worked ts) in
    let r = rest-worked (rest ts) ∙ ap rest_known (rest-worked ts) in
    λ k. (two-worked op (first ts) (first (rest ts)) ∙ (λ j. known_two op (first-worked ts j) (f j))) k ∷ r k
step-worked step.Choice ts = ap (λ (r : List Known). None ∷ r) (rest-worked (rest (rest ts)) ∙ ap rest_known (rest-worked (rest ts) ∙ ap rest_known (rest-worked ts)))
step-worked (step.Several op n) ts = λ k. (several-worked op (take n ts) ∙ ap (known_several op) (map-take n ts)) k ∷ map-drop n ts k
step-worked (step.Binder quantifier.Forall us) ts = ap (λ (r : List Known). None ∷ r) (rest-worked ts)
step-worked (step.Binder quantifier.Exists us) ts = ap (λ (r : List Known). None ∷ r) (rest-worked ts)

pub run-worked : (ss : List Step) (ts : List Term) → map worked (run ss ts) ≡ known_run ss (map worked ts)
run-worked [] ts = refl
run-worked (s ∷ ss) ts = run-worked ss (stepped s ts) ∙ ap (known_run ss) (step-worked s ts)

pub run-append : (ss more : List Step) (xs : List Known) → known_run (ss ++ more) xs ≡ known_run more (known_run ss xs)
run-append [] more xs = refl
run-append (s ∷ ss) more xs = run-append ss more (known_step s xs)

-- ---- the stack

turned_on-push : (ys xs : List Known) (x : Known) → turned_on ys (xs ++ x ∷ []) ≡ x ∷ turned_on ys xs
turned_on-push ys [] x = refl
turned_on-push ys (y ∷ xs) x = turned_on-push (y ∷ ys) xs x

pub turned-push : (xs ys : List Known) (x : Known) → ys ≡ xs ++ x ∷ [] → turned ys ≡ x ∷ turned xs
turned-push xs ys x is = ap turned is ∙ turned_on-push [] xs x

pub first-push : (xs ys : List Known) (x : Known) → ys ≡ xs ++ x ∷ [] → x ≡ first_known (turned ys)
first-push xs ys x is = sym (ap first_known (turned-push xs ys x is))

pub rest-push : (xs ys : List Known) (x : Known) → ys ≡ xs ++ x ∷ [] → turned xs ≡ rest_known (turned ys)
rest-push xs ys x is = sym (ap rest_known (turned-push xs ys x is))

append_nil : (xs : List Known) → xs ++ [] ≡ xs
append_nil [] = refl
append_nil (x ∷ xs) = ap (λ r. x ∷ r) (append_nil xs)

-- what was taken, and what is still to be taken
pub record Takes (all : List Known) (count k : ℕ) (parts stack : List Known) : Type 0 where
  pub front : parts ++ take (count - k) (turned stack) ≡ take count all
  pub back : drop (count - k) (turned stack) ≡ drop count all

take_next : (all : List Known) (x : Known) (xs parts : List Known) (m n count : ℕ) → m ≡ suc n → parts ++ take m (x ∷ xs) ≡ take count all → (parts ++ x ∷ []) ++ take n xs ≡ take count all
take_next all x xs parts m n count e is = append_assoc parts (x ∷ []) (take n xs) ∙ ap (λ j. parts ++ take j (x ∷ xs)) (sym e) ∙ is

pub takes-next : (all : List Known) (count k : ℕ) (parts more stack left : List Known) (x : Known) → k < count → more ≡ parts ++ x ∷ [] → stack ≡ left ++ x ∷ [] → Takes all count k parts stack → Takes all count (k + 1) more left
takes-next all count k parts more stack left x lt grown is before =
    let e : count - k ≡ suc (count - (k + 1)) = omega arith in
    let top = turned-push left stack x is in
    record {
      front = ap (λ (ps : List Known). ps ++ take (count - (k + 1)) (turned left)) grown
          ∙ take_next all x (turned left) parts (count - k) (count - (k + 1)) count e (ap (λ (xs : List Known). parts ++ take (count - k) xs) (sym top) ∙ before.front);
      back = ap (λ j. drop j (x ∷ turned left)) (sym e) ∙ ap (drop (count - k)) (sym top) ∙ before.back;
    }

take_nil : (n : ℕ) → take {A = Known} n [] ≡ []
take_nil zero = refl
take_nil (suc n) = refl

drop_nil : (n : ℕ) → drop {A = Known} n [] ≡ []
drop_nil zero = refl
drop_nil (suc n) = refl

-- the stack ran out
pub takes-out : (all : List Known) (count k : ℕ) (parts stack : List Known) → stack ≡ [] → Takes all count k parts stack → (parts ≡ take count all) × (turned stack ≡ drop count all)
takes-out all count k parts stack is before = (
  sym (append_nil parts) ∙ ap (λ xs. parts ++ xs) (sym (take_nil (count - k))) ∙ ap (λ (s : List Known). parts ++ take (count - k) (turned s)) (sym is) ∙ before.front,
  ap turned is ∙ sym (drop_nil (count - k)) ∙ ap (λ (s : List Known). drop (count - k) (turned s)) (sym is) ∙ before.back,
)

pub takes-all : (all : List Known) (count k : ℕ) (parts stack : List Known) → k ≡ count → Takes all count k parts stack → (parts ≡ take count all) × (turned stack ≡ drop count all)
takes-all all count k parts stack e before =
    let z : count - k ≡ 0 = omega arith in (
      sym (append_nil parts) ∙ ap (λ n. parts ++ take n (turned stack)) (sym z) ∙ before.front,
      ap (λ n. drop n (turned stack)) (sym z) ∙ before.back,
    )

pub takes-none : (all : List Known) (count : ℕ) (parts stack : List Known) → parts ≡ [] → turned stack ≡ all → Takes all count 0 parts stack
takes-none all count parts stack none is =
    let z : count - 0 ≡ count = omega arith in
    record {
      front = ap (λ (ps : List Known). ps ++ take (count - 0) (turned stack)) none ∙ (λ k. take (z k) (is k));
      back = λ k. drop (z k) (is k);
    }

-- the steps of one tree
pub steps-worked : (ss : List Step) (t : Term) → run ss [] ≡ t ∷ [] → first_known (known_run ss []) ≡ worked t
steps-worked ss t is = ap first_known (sym (run-worked ss []) ∙ ap (map worked) is)
