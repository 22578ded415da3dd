-- The value of a row and of a move at the values of earlier variables, and the numbers formed on the way. All values are
-- in lowest terms; a numerator comes before its denominator.
use Rattle.std.specs.Prelude.{ℕ, ◌*◌, ℤ, pos, ◌*ℤ◌, List, [], ◌∷◌, ◌++◌, get_or}
use Rattle.lin_term.specs.declared.Sort.{Sort}
use Rattle.lin_term.specs.declared.Sort.TheVariants.{Rat, Int}
use Rattle.lin_term.specs.Linear.{Form, Value, floor_div}
use Rattle.lin_term.specs.Fraction.{lowest_value, value_numbers, v_plus}
use Rattle.lin_term.specs.Move.{Move}

-- a whole number
abbrev pub whole : ℤ → Value
whole c = record { num = c; den = 1 }

-- the value of the variable
abbrev pub value_at : List Value → ℕ → Value
value_at vs i = get_or vs i (whole (pos 0))

abbrev pub product_with : ℤ → Value → Value
product_with a v = lowest_value (record { num = a *ℤ v.num; den = v.den })

abbrev pub sum_with : Value → Value → Value
sum_with sum v = lowest_value (v_plus sum v)

-- one term after the other is added to a sum
abbrev pub sum_worth : List Value → Value → List (ℕ × ℤ) → Value
sum_worth vs sum [] = sum
sum_worth vs sum (t ∷ ts) = sum_worth vs (sum_with sum (product_with t.1 (value_at vs t.0))) ts

-- of each term the product, then the sum so far
abbrev pub sum_steps : List Value → Value → List (ℕ × ℤ) → List ℤ
sum_steps vs sum [] = []
sum_steps vs sum (t ∷ ts) =
    let product = product_with t.1 (value_at vs t.0) in
    let next = sum_with sum product in
    value_numbers product ++ (value_numbers next ++ sum_steps vs next ts)

-- from the constant on
abbrev pub row_worth : List Value → Form → Value
row_worth vs f = sum_worth vs (whole f.constant) f.terms

abbrev pub row_steps : List Value → Form → List ℤ
row_steps vs f = sum_steps vs (whole f.constant) f.terms

-- divided, in Int rounded down
abbrev pub quotient_with : Sort → Value → ℕ → Value
quotient_with Rat v d = lowest_value (record { num = v.num; den = v.den * d })
quotient_with Int v d = lowest_value (whole (floor_div v.num (v.den * d)))

abbrev pub move_worth : Sort → Move → List Value → Value
move_worth s m vs = quotient_with s (row_worth vs m.numer) m.div

-- the division by the divisor comes last
abbrev pub move_steps : Sort → Move → List Value → List ℤ
move_steps s m vs = row_steps vs m.numer ++ value_numbers (move_worth s m vs)
