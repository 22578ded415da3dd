-- Sums of inequalities.
use Rattle.std.specs.Prelude.{ℕ, ◌≡◌, ◌≢◌, ℤ, Bool, true, false, ◌||◌, Some, None, Result, Ok, Err, ⊤}
use Rattle.lin_term.specs.Linear.{Sort, Rat, Int, Form, plus, times}
use Rattle.lin_term.specs.Literal.{Lit, AtLeast, Above, Divides, NotDivides, form_of, divisor, prim}
use Rattle.lin_term.specs.Wide.{first_past, lit_numbers}
use Rattle.lin_term.specs.declared.fault.Short.{Short}
use Rattle.lin_term.specs.declared.fault.Short.TheVariants as short
use Rattle.lin_term.specs.declared.fault.Wide.{Wide}
use Rattle.lin_term.specs.declared.combining.CombineFault.{CombineFault}
use Rattle.lin_term.specs.declared.combining.CombineFault.TheVariants as fault

abbrev pub IsInequality : Lit → Type 0
IsInequality (AtLeast f) = ⊤
IsInequality (Above f) = ⊤
IsInequality (Divides d f) = ⊥
IsInequality (NotDivides d f) = ⊥

abbrev pub is_strict : Lit → Bool
is_strict (AtLeast f) = false
is_strict (Above f) = true
is_strict (Divides d f) = false
is_strict (NotDivides d f) = false

abbrev pub inequality_with : Bool → Form → Lit
inequality_with true f = Above f
inequality_with false f = AtLeast f

-- in Int no literal is strict
abbrev pub MayBe : Sort → Bool → Type 0
MayBe Rat b = ⊤
MayBe Int true = ⊥
MayBe Int false = ⊤

-- p times the first and q times the second, Above where one of the two is
abbrev pub sum_of : ℤ → Lit → ℤ → Lit → Lit
sum_of p a q b = inequality_with (is_strict a || is_strict b) (plus (times p (form_of a)) (times q (form_of b)))

-- the primitive form of the sum where g is its divisor and no number passes the cap
abbrev pub Combined : Sort → Lit → ℕ → Result Lit CombineFault → Type 0
Combined s sum g (Ok l) = (g ≡ divisor s (form_of sum)) × (first_past (lit_numbers (prim s sum)) ≡ None) × (l ≡ prim s sum)
Combined s sum g (Err fault.Divisor) = g ≢ divisor s (form_of sum)
Combined s sum g (Err (fault.Wide n)) = (g ≡ divisor s (form_of sum)) × (first_past (lit_numbers (prim s sum)) ≡ Some n)
Combined s sum g (Err fault.Memory) = ⊤

abbrev pub combine_fault : Short Wide → CombineFault
combine_fault (short.Fault w) = fault.Wide w.number
combine_fault short.Memory = fault.Memory
