-- The value of a row and its numbers, term by term.
use Rattle.std.specs.Prelude.{ℕ, ◌+◌, ◌<◌, ◌≤◌, ◌≡◌, ℤ, pos, Option, Some, None, List, ◌++◌, drop, get_or, length}
use Rattle.std.proofs.Common.{ap, ap₂, ◌∙◌, sym}
use Rattle.std.proofs.lemmas.List.{drop_more, drop_all, get_or_default}
use Rattle.lin_term.specs.Linear.{Value}
use Rattle.lin_term.specs.Fraction.{value_numbers}
use Rattle.lin_term.specs.Wide.{first_past}
use Rattle.lin_term.proofs.Capping.{past-append, past-append_some}
use Rattle.game_play.specs.Worth.{whole, value_at, product_with, sum_with, sum_worth, sum_steps}

-- the value of a variable, at any default
pub at_place : (vs : List Value) (j : ℕ) (v d : Value) → j < length vs → v ≡ get_or vs j d → v ≡ value_at vs j
at_place vs j v d l e = e ∙ get_or_default vs j d (whole (pos 0)) l

abbrev term_at : List (ℕ × ℤ) → ℕ → ℕ × ℤ
term_at ts i = get_or ts i (0, pos 0)

-- the product of the term in this place, and the sum with it
abbrev product_at : List Value → List (ℕ × ℤ) → ℕ → Value
product_at vs ts i = product_with (term_at ts i).1 (value_at vs (term_at ts i).0)

abbrev steps_behind : List Value → Value → List (ℕ × ℤ) → ℕ → List ℤ
steps_behind vs next ts i = sum_steps vs next (drop (i + 1) ts)

steps_at : (vs : List Value) (sum : Value) (ts : List (ℕ × ℤ)) (i : ℕ) → i < length ts
    → sum_steps vs sum (drop i ts) ≡ value_numbers (product_at vs ts i) ++ (value_numbers (sum_with sum (product_at vs ts i)) ++ steps_behind vs (sum_with sum (product_at vs ts i)) ts i)
steps_at vs sum ts i l = ap (sum_steps vs sum) (drop_more ts i (0, pos 0) l)

product_is : (vs : List Value) (ts : List (ℕ × ℤ)) (i : ℕ) (a : ℤ) (v : Value) → a ≡ (term_at ts i).1 → v ≡ value_at vs (term_at ts i).0 → product_with a v ≡ product_at vs ts i
product_is vs ts i a v e h = ap₂ product_with e h

-- the product is past the cap
pub product_past : (vs : List Value) (sum : Value) (ts : List (ℕ × ℤ)) (i : ℕ) (a : ℤ) (v : Value) (z : ℤ) (F : Option ℤ) → i < length ts → a ≡ (term_at ts i).1 → v ≡ value_at vs (term_at ts i).0
    → first_past (sum_steps vs sum (drop i ts)) ≡ F → first_past (value_numbers (product_with a v)) ≡ Some z → F ≡ Some z
product_past vs sum ts i a v z F l e h f p =
    let s = sum_with sum (product_at vs ts i) in
    sym f ∙ ap first_past (steps_at vs sum ts i l)
    ∙ past-append_some (value_numbers (product_at vs ts i)) (value_numbers s ++ steps_behind vs s ts i) z (ap (λ (x : Value). first_past (value_numbers x)) (sym (product_is vs ts i a v e h)) ∙ p)

-- behind a product within the cap
past_product : (vs : List Value) (sum : Value) (ts : List (ℕ × ℤ)) (i : ℕ) (a : ℤ) (v : Value) (F : Option ℤ) → i < length ts → a ≡ (term_at ts i).1 → v ≡ value_at vs (term_at ts i).0
    → first_past (sum_steps vs sum (drop i ts)) ≡ F → first_past (value_numbers (product_with a v)) ≡ None
    → F ≡ first_past (value_numbers (sum_with sum (product_at vs ts i)) ++ steps_behind vs (sum_with sum (product_at vs ts i)) ts i)
past_product vs sum ts i a v F l e h f p =
    let s = sum_with sum (product_at vs ts i) in
    sym f ∙ ap first_past (steps_at vs sum ts i l)
    ∙ past-append (value_numbers (product_at vs ts i)) (value_numbers s ++ steps_behind vs s ts i) (ap (λ (x : Value). first_past (value_numbers x)) (sym (product_is vs ts i a v e h)) ∙ p)

sum_is : (vs : List Value) (sum : Value) (ts : List (ℕ × ℤ)) (i : ℕ) (a : ℤ) (v p : Value) → a ≡ (term_at ts i).1 → v ≡ value_at vs (term_at ts i).0 → p ≡ product_with a v → sum_with sum p ≡ sum_with sum (product_at vs ts i)
sum_is vs sum ts i a v p e h q = ap (sum_with sum) (q ∙ product_is vs ts i a v e h)

-- the sum is past the cap
pub sum_past : (vs : List Value) (sum : Value) (ts : List (ℕ × ℤ)) (i : ℕ) (a : ℤ) (v p : Value) (z : ℤ) (F : Option ℤ) → i < length ts → a ≡ (term_at ts i).1 → v ≡ value_at vs (term_at ts i).0
    → first_past (sum_steps vs sum (drop i ts)) ≡ F → (first_past (value_numbers (product_with a v)) ≡ None) × (p ≡ product_with a v)
    → first_past (value_numbers (sum_with sum p)) ≡ Some z → F ≡ Some z
sum_past vs sum ts i a v p z F l e h f m n =
    let s = sum_with sum (product_at vs ts i) in
    past_product vs sum ts i a v F l e h f m.0
    ∙ past-append_some (value_numbers s) (steps_behind vs s ts i) z (ap (λ (x : Value). first_past (value_numbers x)) (sym (sum_is vs sum ts i a v p e h m.1)) ∙ n)

-- one more term is added
pub steps_more : (vs : List Value) (sum : Value) (ts : List (ℕ × ℤ)) (i : ℕ) (a : ℤ) (v p new : Value) (F : Option ℤ) → i < length ts → a ≡ (term_at ts i).1 → v ≡ value_at vs (term_at ts i).0
    → first_past (sum_steps vs sum (drop i ts)) ≡ F → (first_past (value_numbers (product_with a v)) ≡ None) × (p ≡ product_with a v)
    → (first_past (value_numbers (sum_with sum p)) ≡ None) × (new ≡ sum_with sum p) → first_past (sum_steps vs new (drop (i + 1) ts)) ≡ F
steps_more vs sum ts i a v p new F l e h f m n =
    let s = sum_with sum (product_at vs ts i) in
    let q : sum_with sum p ≡ s = sum_is vs sum ts i a v p e h m.1 in
    ap (λ (x : Value). first_past (sum_steps vs x (drop (i + 1) ts))) (n.1 ∙ q)
    ∙ sym (past_product vs sum ts i a v F l e h f m.0
    ∙ past-append (value_numbers s) (steps_behind vs s ts i) (ap (λ (x : Value). first_past (value_numbers x)) (sym q) ∙ n.0))

pub worth_more : (vs : List Value) (sum : Value) (ts : List (ℕ × ℤ)) (i : ℕ) (a : ℤ) (v p new W : Value) → i < length ts → a ≡ (term_at ts i).1 → v ≡ value_at vs (term_at ts i).0
    → sum_worth vs sum (drop i ts) ≡ W → p ≡ product_with a v → new ≡ sum_with sum p → sum_worth vs new (drop (i + 1) ts) ≡ W
worth_more vs sum ts i a v p new W l e h w m n =
    ap (λ (x : Value). sum_worth vs x (drop (i + 1) ts)) (n ∙ sum_is vs sum ts i a v p e h m)
    ∙ sym (ap (sum_worth vs sum) (drop_more ts i (0, pos 0) l)) ∙ w

-- no term is left
pub steps_done : (vs : List Value) (sum : Value) (ts : List (ℕ × ℤ)) (i : ℕ) (F : Option ℤ) → length ts ≤ i → first_past (sum_steps vs sum (drop i ts)) ≡ F → F ≡ None
steps_done vs sum ts i F l f = sym f ∙ ap (λ (us : List (ℕ × ℤ)). first_past (sum_steps vs sum us)) (drop_all i ts l)

pub worth_done : (vs : List Value) (sum : Value) (ts : List (ℕ × ℤ)) (i : ℕ) (W : Value) → length ts ≤ i → sum_worth vs sum (drop i ts) ≡ W → sum ≡ W
worth_done vs sum ts i W l w = sym (ap (sum_worth vs sum) (drop_all i ts l)) ∙ w
