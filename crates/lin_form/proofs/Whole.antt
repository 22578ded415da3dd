-- Forms over the denominator 1 are in lowest terms.
use Rattle.std.specs.Prelude.{ℕ, zero, suc, ◌/◌, ◌*◌, ◌≡◌, ◌≤◌, ℤ, pos, negsuc, ◌*ℤ◌, nat_abs, Bool, true, false, ◌&&◌, List, [], ◌∷◌, Result, Ok, Err}
use Rattle.std.proofs.Common.{arith, ap, ap₂, ◌∙◌, sym, subst, refl}
use Rattle.std.proofs.lemmas.Int.{ints}
use Rattle.lin_term.specs.Form.{cap}
use Rattle.lin_term.specs.Linear.{Form, Value, floor_div, constant_form, variable_form, put_front, times_terms}
use Rattle.lin_term.specs.Literal.{gcd, gcd_terms, or_one, quotient, quotient_terms}
use Rattle.lin_term.specs.Wide.{fits}
use Rattle.lin_truth.specs.Value.{one_value}
use Rattle.lin_truth.specs.Term.{amount, variable, no_term, term_and}
use Rattle.lin_form.specs.declared.scope.Bound.{Bound}
use Rattle.lin_form.specs.Lin.{Lin, common, reduced, lin_constant, lin_variable, lin_times}
use Rattle.lin_form.specs.Low.{as_lin}
use Rattle.lin_form.specs.Kept.{within, lins_numbers}
use Rattle.lin_form.specs.Scope.{level_at}
use Rattle.lin_form.specs.Direct.{direct_product, made_product, multiple}
use Rattle.lin_form.proofs.Dividing.{common_least, common_greatest}

pub gcd_one : (d x : ℕ) → d ≡ 1 → 1 ≡ or_one (gcd d x)
gcd_one d x e =
    let h : 1 ≤ d = omega (arith, e) in
    let l = common_least d x (or_one (gcd d x)) h refl in
    let g = common_greatest d x (or_one (gcd d x)) h refl in
    omega (arith, e, l, g)

div_one : (a : ℕ) → a / 1 ≡ a
div_one a = omega arith

floor_one : (z : ℤ) → floor_div z 1 ≡ z
floor_one (pos a) = ap pos (div_one a)
floor_one (negsuc a) = ap negsuc (div_one a)

quotient_one : (ts : List (ℕ × ℤ)) → quotient_terms ts 1 ≡ ts
quotient_one [] = refl
quotient_one (t ∷ ts) = ap₂ (λ (z : ℤ) (us : List (ℕ × ℤ)). (t.0, z) ∷ us) (floor_one t.1) (quotient_one ts)

pub reduced_one : (f : Form) → reduced (record { form = f; den = 1 }) ≡ record { form = f; den = 1 }
reduced_one f =
    ap (λ (g : ℕ). record { form = quotient f g; den = 1 / g }) (sym (gcd_one 1 (gcd (nat_abs f.constant) (gcd_terms f.terms)) refl))
    ∙ ap₂ (λ (ts : List (ℕ × ℤ)) (z : ℤ). record { form = record { terms = ts; constant = z }; den = 1 }) (quotient_one f.terms) (floor_one f.constant)

-- ---- a whole number times a variable

abbrev whole : ℤ → Lin
whole n = as_lin (record { num = n; den = 1 })

abbrev pub at_level : ℤ → ℕ → Lin
at_level n l = record { form = variable_form n l; den = 1 }

constant_one : (n : ℤ) → lin_constant (record { num = n; den = 1 }) ≡ whole n
constant_one n = reduced_one (constant_form n)

first_product : (n : ℤ) → lin_times (as_lin one_value) (whole n) ≡ whole n
first_product n =
    reduced_one (record { terms = []; constant = pos 1 *ℤ n })
    ∙ ap (λ (z : ℤ). whole z) (let e : pos 1 *ℤ n ≡ n = omega (arith, ints) in e)

last_product : (n : ℤ) (l : ℕ) → lin_times (whole n) (lin_variable l) ≡ at_level n l
last_product n l =
    reduced_one (record { terms = put_front l (n *ℤ pos 1) []; constant = n *ℤ pos 0 })
    ∙ ap₂ (λ (y z : ℤ). record { form = record { terms = put_front l y []; constant = z }; den = 1 }) (let e : n *ℤ pos 1 ≡ n = omega (arith, ints) in e) (let e : n *ℤ pos 0 ≡ pos 0 = omega (arith, ints) in e)

two_products : (n : ℤ) (l : ℕ) → lin_times (lin_times (as_lin one_value) (lin_constant (record { num = n; den = 1 }))) (lin_variable l) ≡ at_level n l
two_products n l =
    ap (λ (y : Lin). lin_times (lin_times (as_lin one_value) y) (lin_variable l)) (constant_one n)
    ∙ (ap (λ (y : Lin). lin_times y (lin_variable l)) (first_product n) ∙ last_product n l)

pub multiple_is : (n : ℤ) (i : ℕ) (ctx : List Bound) → direct_product (multiple n i) ctx (as_lin one_value) ≡ at_level n (level_at ctx i)
multiple_is n i ctx = two_products n (level_at ctx i)

three : (b : Bool) → b && (b && (b && true)) ≡ b
three true = refl
three false = refl

numbers_fit : (n : ℤ) (l : ℕ) → within (lins_numbers (whole n ∷ whole n ∷ lin_variable l ∷ at_level n l ∷ [])) ≡ fits n
numbers_fit (pos zero) l = refl
numbers_fit (pos (suc n)) l = three (fits (pos (suc n)))
numbers_fit (negsuc n) l = three (fits (negsuc n))

pub multiple_fits : (n : ℤ) (i : ℕ) (ctx : List Bound) → within (lins_numbers (made_product (multiple n i) ctx (as_lin one_value))) ≡ fits n
multiple_fits n i ctx =
    let l = level_at ctx i in
    ap₂ (λ (x y : Lin). within (lins_numbers (x ∷ lin_times (as_lin one_value) x ∷ lin_variable l ∷ y ∷ []))) (constant_one n) (two_products n l)
    ∙ (ap (λ (x : Lin). within (lins_numbers (whole n ∷ x ∷ lin_variable l ∷ at_level n l ∷ []))) (first_product n)
    ∙ numbers_fit n l)
