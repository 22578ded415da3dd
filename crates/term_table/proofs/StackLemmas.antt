-- A stack of terms.
use Rattle.std.proofs.Common.{◌≡◌, ℕ, zero, suc, ◌+◌, ◌-◌, ◌<◌, List, [], ◌∷◌, ◌++◌, map, take, drop, Result, Ok, Err, refl, sym, ap, ◌∙◌, arith, append_assoc}
use Rattle.std.specs.Prelude.{IfOk}
use Rattle.lin_truth.specs.declared.term.Term.{Term as Written}
use Rattle.lin_truth.specs.Term.{Term}
use Rattle.lin_truth.specs.View.{tree_of}
use Rattle.term_table.specs.Steps.{first, rest}
use Rattle.term_table.specs.Stack.{stacked_on, stacked}

stacked_on-push : (ts : List Term) (xs : List Written) (x : Written) → stacked_on ts (xs ++ x ∷ []) ≡ tree_of x ∷ stacked_on ts xs
stacked_on-push ts [] x = refl
stacked_on-push ts (y ∷ xs) x = stacked_on-push (tree_of y ∷ ts) xs x

pub stacked-push : (xs ys : List Written) (x : Written) → ys ≡ xs ++ x ∷ [] → stacked ys ≡ tree_of x ∷ stacked xs
stacked-push xs ys x is = ap stacked is ∙ stacked_on-push [] xs x

pub first-push : (xs ys : List Written) (x : Written) → ys ≡ xs ++ x ∷ [] → tree_of x ≡ first (stacked ys)
first-push xs ys x is = sym (ap first (stacked-push xs ys x is))

pub rest-push : (xs ys : List Written) (x : Written) → ys ≡ xs ++ x ∷ [] → stacked xs ≡ rest (stacked ys)
rest-push xs ys x is = sym (ap rest (stacked-push xs ys x is))

append_nil : (ts : List Term) → ts ++ [] ≡ ts
append_nil [] = refl
append_nil (t ∷ ts) = ap (λ r. t ∷ r) (append_nil ts)

map-push : (xs : List Written) (x : Written) → map tree_of (xs ++ x ∷ []) ≡ map tree_of xs ++ tree_of x ∷ []
map-push [] x = refl
map-push (y ∷ xs) x = ap (λ (r : List Term). tree_of y ∷ r) (map-push xs x)

-- what was taken, and what is still to be taken
pub record Takes (all : List Term) (count k : ℕ) (parts stack : List Written) : Type 0 where
  pub front : map tree_of parts ++ take (count - k) (stacked stack) ≡ take count all
  pub back : drop (count - k) (stacked stack) ≡ drop count all

take_next : (all : List Term) (t : Term) (ts : List Term) (parts : List Term) (m n count : ℕ) → m ≡ suc n → parts ++ take m (t ∷ ts) ≡ take count all → (parts ++ t ∷ []) ++ take n ts ≡ take count all
take_next all t ts parts m n count e is = append_assoc parts (t ∷ []) (take n ts) ∙ ap (λ j. parts ++ take j (t ∷ ts)) (sym e) ∙ is

pub takes-next : (all : List Term) (count k : ℕ) (parts more stack left : List Written) (x : Written) → k < count → more ≡ parts ++ x ∷ [] → stack ≡ left ++ x ∷ [] → Takes all count k parts stack → Takes all count (k + 1) more left
takes-next all count k parts more stack left x lt grown is before =
    let e : count - k ≡ suc (count - (k + 1)) = omega arith in
    let top = stacked-push left stack x is in
    record {
      front = ap (λ (ps : List Written). map tree_of ps ++ take (count - (k + 1)) (stacked left)) grown ∙ ap (λ (ps : List Term). ps ++ take (count - (k + 1)) (stacked left)) (map-push parts x)
          ∙ take_next all (tree_of x) (stacked left) (map tree_of parts) (count - k) (count - (k + 1)) count e (ap (λ (ts : List Term). map tree_of parts ++ take (count - k) ts) (sym top) ∙ before.front);
      back = ap (λ j. drop j (tree_of x ∷ stacked left)) (sym e) ∙ ap (drop (count - k)) (sym top) ∙ before.back;
    }

take_nil : (n : ℕ) → take {A = Term} n [] ≡ []
take_nil zero = refl
take_nil (suc n) = refl

drop_nil : (n : ℕ) → drop {A = Term} n [] ≡ []
drop_nil zero = refl
drop_nil (suc n) = refl

-- the stack ran out
pub takes-out : (all : List Term) (count k : ℕ) (parts stack : List Written) → stack ≡ [] → Takes all count k parts stack → (map tree_of parts ≡ take count all) × (stacked stack ≡ drop count all)
takes-out all count k parts stack is before = (
  sym (append_nil (map tree_of parts)) ∙ ap (λ ts. map tree_of parts ++ ts) (sym (take_nil (count - k))) ∙ ap (λ (s : List Written). map tree_of parts ++ take (count - k) (stacked s)) (sym is) ∙ before.front,
  ap stacked is ∙ sym (drop_nil (count - k)) ∙ ap (λ (s : List Written). drop (count - k) (stacked s)) (sym is) ∙ before.back,
)

pub takes-all : (all : List Term) (count k : ℕ) (parts stack : List Written) → k ≡ count → Takes all count k parts stack → (map tree_of parts ≡ take count all) × (stacked stack ≡ drop count all)
takes-all all count k parts stack e before =
    let z : count - k ≡ 0 = omega arith in (
      sym (append_nil (map tree_of parts)) ∙ ap (λ n. map tree_of parts ++ take n (stacked stack)) (sym z) ∙ before.front,
      ap (λ n. drop n (stacked stack)) (sym z) ∙ before.back,
    )

pub takes-none : (all : List Term) (count : ℕ) (parts stack : List Written) → parts ≡ [] → stacked stack ≡ all → Takes all count 0 parts stack
takes-none all count parts stack none is =
    let z : count - 0 ≡ count = omega arith in
    record {
      front = ap (λ (ps : List Written). map tree_of ps ++ take (count - 0) (stacked stack)) none ∙ (λ k. take (z k) (is k));
      back = λ k. drop (z k) (is k);
    }

pub if_ok-tree : {E : Type 0} → (r : Result Written E) (x y : Term) → x ≡ y → IfOk r (λ t. tree_of t ≡ x) → IfOk r (λ t. tree_of t ≡ y)
if_ok-tree (Ok t) x y same is = is ∙ same
if_ok-tree (Err e) x y same is = is
