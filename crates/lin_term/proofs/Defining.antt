-- The literals that define a move in lowest form, number by number.
use Rattle.std.specs.Prelude.{ℕ, zero, suc, ◌+◌, ◌<◌, ◌≤◌, ◌≢◌, ◌^◌, ◌≡◌, ℤ, pos, negsuc, ◌+ℤ◌, ◌-ℤ◌, ◌*ℤ◌, ◌≤ℤ◌, ◌<ℤ◌, ◌⊎◌, neg_ℤ, nat_abs, Some, None, List, [], ◌∷◌, ◌++◌, length}
use Rattle.std.proofs.Common.{arith, ap, ap₂, ◌∙◌, sym, refl, inl, inr, length-append}
use Rattle.std.proofs.lemmas.Int.{ints}
use Rattle.std.proofs.lemmas.Bool.{cases_lt}
use Rattle.lin_term.specs.Form.{Form, AreTerms, cap}
use Rattle.lin_term.specs.Linear.{Sort, Rat, Int, BelowTerms, put, put_front, plus_terms, times_terms}
use Rattle.lin_term.specs.Literal.{Lit, AtLeast, gcd, gcd_terms, or_one, divisor, quotient, prim}
use Rattle.lin_term.specs.Move.{Move, IsMove, move_divisor}
use Rattle.lin_term.specs.Definition.{upper_form, lower_form, upper_literal, lower_literal, spare_node, move_numbers, IsKeptMove}
use Rattle.lin_term.specs.Upper.{upper_constant}
use Rattle.lin_term.specs.Wide.{coefficients, first_past, form_numbers, lit_numbers}
use Rattle.lin_term.proofs.Dividing.{abs_neg}
use Rattle.lin_term.proofs.Divisors.{gcd_assoc, gcd_comm}
use Rattle.lin_term.proofs.Quotients.{whole_nonempty}
use Rattle.lin_term.proofs.Capping.{past-within, past-append, past-append_some, past-head, past-tail, coefficients_fit, form_fits, form_past, row_fits}
use Rattle.lin_term.proofs.Residues.{with_constant}
use Rattle.lin_term.proofs.Merging.{Beyond, put_first, beyond_are}
use Rattle.lin_term.proofs.Reducing.{gcd_terms-front}
use Rattle.lin_term.proofs.Negating.{front_stands, negate_are}
use Rattle.lin_term.proofs.Lowest.{quotient_one}
use Rattle.lin_term.proofs.Lowering.{lowest_by_one, one_by_lowest}

-- ---- one more term behind all others

last_beyond : (i v : ℕ) (d : ℤ) (ts : List (ℕ × ℤ)) → i < v → Beyond i ts → Beyond i (ts ++ (v, d) ∷ [])
last_beyond i v d [] h a = (h, tt)
last_beyond i v d (t ∷ ts) h a = (a.0, last_beyond i v d ts h a.1)

pub plus_last : (n v : ℕ) (d : ℤ) (ts : List (ℕ × ℤ)) → AreTerms n ts → BelowTerms v ts → plus_terms ts ((v, d) ∷ []) ≡ ts ++ (v, d) ∷ []
plus_last n v d [] a b = refl
plus_last n v d (t ∷ ts) a b =
    ap (put t.0 t.1) (plus_last (t.0 + 1) v d ts a.4 b.1)
    ∙ put_first t.0 t.1 (ts ++ (v, d) ∷ []) (last_beyond t.0 v d ts b.0 (beyond_are t.0 (t.0 + 1) ts (omega arith) a.4))
    ∙ front_stands t.0 t.1 (ts ++ (v, d) ∷ []) a.2

pub are_last : (n v : ℕ) (d : ℤ) (ts : List (ℕ × ℤ)) → n ≤ v → v < 2 ^ 20 → d ≢ pos 0 → nat_abs d ≤ cap → AreTerms n ts → BelowTerms v ts → AreTerms n (ts ++ (v, d) ∷ [])
are_last n v d [] h k e l a b = (h, k, e, l, tt)
are_last n v d (t ∷ ts) h k e l a b = (a.0, a.1, a.2, a.3, are_last (t.0 + 1) v d ts (omega (arith, b.0)) k e l a.4 b.1)

pub gcd_swap : (a b c : ℕ) → gcd a (gcd b c) ≡ gcd b (gcd a c)
gcd_swap a b c = sym (gcd_assoc a b c) ∙ ap (λ (n : ℕ). gcd n c) (gcd_comm a b) ∙ gcd_assoc b a c

pub gcd_last : (v : ℕ) (d : ℤ) (ts : List (ℕ × ℤ)) → gcd_terms (ts ++ (v, d) ∷ []) ≡ gcd (nat_abs d) (gcd_terms ts)
gcd_last v d [] = refl
gcd_last v d (t ∷ ts) = ap (gcd (nat_abs t.1)) (gcd_last v d ts) ∙ gcd_swap (nat_abs t.1) (nat_abs d) (gcd_terms ts)

pub below_are : (n : ℕ) (ts : List (ℕ × ℤ)) → AreTerms n ts → BelowTerms (2 ^ 20) ts
below_are n [] a = tt
below_are n (t ∷ ts) a = (a.1, below_are (t.0 + 1) ts a.4)

length_last : (v : ℕ) (d : ℤ) (ts : List (ℕ × ℤ)) → 1 ≤ length (ts ++ (v, d) ∷ [])
length_last v d ts = omega (arith, length-append ts ((v, d) ∷ []))

-- ---- negated terms

minus_abs : (z : ℤ) → nat_abs (negsuc 0 *ℤ z) ≡ nat_abs z
minus_abs z = omega (arith, ints)

pub gcd_negated : (ts : List (ℕ × ℤ)) → gcd_terms (times_terms (negsuc 0) ts) ≡ gcd_terms ts
gcd_negated [] = refl
gcd_negated (t ∷ ts) =
    gcd_terms-front t.0 (negsuc 0 *ℤ t.1) (times_terms (negsuc 0) ts) ∙ ap₂ (λ (a b : ℕ). gcd a b) (minus_abs t.1) (gcd_negated ts)

below_front : (n i : ℕ) (z : ℤ) (ts : List (ℕ × ℤ)) → i < n → BelowTerms n ts → BelowTerms n (put_front i z ts)
below_front n i (pos zero) ts h b = b
below_front n i (pos (suc k)) ts h b = (h, b)
below_front n i (negsuc k) ts h b = (h, b)

pub below_negated : (n : ℕ) (ts : List (ℕ × ℤ)) → BelowTerms n ts → BelowTerms n (times_terms (negsuc 0) ts)
below_negated n [] b = tt
below_negated n (t ∷ ts) b = below_front n t.0 (negsuc 0 *ℤ t.1) (times_terms (negsuc 0) ts) b.0 (below_negated n ts b.1)

-- ---- the two forms

abbrev pub upper_row : Sort → Move → ℕ → Form
upper_row s m v = with_constant (times_terms (negsuc 0) m.numer.terms ++ (v, pos m.div) ∷ []) (upper_constant s m.numer.constant m.div)

abbrev pub lower_row : Move → ℕ → Form
lower_row m v = with_constant (m.numer.terms ++ (v, neg_ℤ (pos m.div)) ∷ []) m.numer.constant

pub some_pos : (d : ℕ) → 1 ≤ d → pos d ≢ pos 0
some_pos d o e = absurd (omega (arith, ap nat_abs e))

pub some_neg : (d : ℕ) → 1 ≤ d → neg_ℤ (pos d) ≢ pos 0
some_neg d o e = absurd (omega (arith, abs_neg (pos d), ap nat_abs e))

upper_terms : (v : ℕ) (d : ℕ) (ts : List (ℕ × ℤ)) → AreTerms 0 ts → 1 ≤ d → BelowTerms v ts → plus_terms (times_terms (negsuc 0) ts) ((v, pos d) ∷ []) ≡ times_terms (negsuc 0) ts ++ (v, pos d) ∷ []
upper_terms v d ts a o b = plus_last 0 v (pos d) (times_terms (negsuc 0) ts) (negate_are 0 ts a) (below_negated v ts b)

upper_form_is : (s : Sort) (m : Move) (v : ℕ) → AreTerms 0 m.numer.terms → 1 ≤ m.div → BelowTerms v m.numer.terms → upper_form s m v ≡ upper_row s m v
upper_form_is Rat m v a o b =
    ap₂ with_constant (ap (plus_terms (times_terms (negsuc 0) m.numer.terms)) (front_stands v (pos m.div) [] (some_pos m.div o)) ∙ upper_terms v m.div m.numer.terms a o b)
    (let e : negsuc 0 *ℤ m.numer.constant +ℤ pos 0 ≡ pos 0 -ℤ m.numer.constant = omega (arith, ints) in e)
upper_form_is Int m v a o b =
    let f = front_stands v (pos m.div) [] (some_pos m.div o) in
    ap₂ with_constant (ap (plus_terms (times_terms (negsuc 0) m.numer.terms)) (ap (λ (ts : List (ℕ × ℤ)). plus_terms ts []) f ∙ f) ∙ upper_terms v m.div m.numer.terms a o b)
    (let e : negsuc 0 *ℤ m.numer.constant +ℤ (pos 0 +ℤ (pos m.div -ℤ pos 1)) ≡ (pos m.div -ℤ pos 1) -ℤ m.numer.constant = omega (arith, ints) in e)

lower_form_is : (m : Move) (v : ℕ) → AreTerms 0 m.numer.terms → 1 ≤ m.div → BelowTerms v m.numer.terms → lower_form m v ≡ lower_row m v
lower_form_is m v a o b =
    ap₂ with_constant (ap (plus_terms m.numer.terms) (front_stands v (neg_ℤ (pos m.div)) [] (some_neg m.div o)) ∙ plus_last 0 v (neg_ℤ (pos m.div)) m.numer.terms a b)
    (let e : m.numer.constant +ℤ pos 0 ≡ m.numer.constant = omega (arith, ints) in e)

upper_divisor : (s : Sort) (m : Move) (v : ℕ) → move_divisor s m ≡ 1 → divisor s (upper_row s m v) ≡ 1
upper_divisor Rat m v e =
    let c : ℤ = m.numer.constant in
    let z : nat_abs (pos 0 -ℤ c) ≡ nat_abs c = omega (arith, ints) in
    ap or_one (ap₂ (λ (a b : ℕ). gcd a b) z (gcd_last v (pos m.div) (times_terms (negsuc 0) m.numer.terms) ∙ ap (gcd m.div) (gcd_negated m.numer.terms)) ∙ gcd_swap (nat_abs c) m.div (gcd_terms m.numer.terms)) ∙ e
upper_divisor Int m v e =
    ap or_one (gcd_last v (pos m.div) (times_terms (negsuc 0) m.numer.terms) ∙ ap (gcd m.div) (gcd_negated m.numer.terms)) ∙ e

lower_divisor : (s : Sort) (m : Move) (v : ℕ) → move_divisor s m ≡ 1 → divisor s (lower_row m v) ≡ 1
lower_divisor s m v e =
    let k = gcd_last v (neg_ℤ (pos m.div)) m.numer.terms ∙ ap (λ (n : ℕ). gcd n (gcd_terms m.numer.terms)) (abs_neg (pos m.div)) in
    by s k e
  where
    by : (s : Sort) → gcd_terms (m.numer.terms ++ (v, neg_ℤ (pos m.div)) ∷ []) ≡ gcd m.div (gcd_terms m.numer.terms) → move_divisor s m ≡ 1 → divisor s (lower_row m v) ≡ 1
    by Rat k h = ap or_one (ap (gcd (nat_abs m.numer.constant)) k ∙ gcd_swap (nat_abs m.numer.constant) m.div (gcd_terms m.numer.terms)) ∙ h
    by Int k h = ap or_one k ∙ h

-- with the divisor 1 and variables it is primitive
pub prim_by_one : (s : Sort) (f : Form) → 1 ≤ length f.terms → divisor s f ≡ 1 → prim s (AtLeast f) ≡ AtLeast f
prim_by_one Rat f h e = ap (λ (g : Form). AtLeast g) (ap (quotient f) e ∙ quotient_one f)
prim_by_one Int f h e = ap (λ (g : Form). AtLeast g) (sym (whole_nonempty f h) ∙ ap (quotient f) e ∙ quotient_one f)

pub upper_is : (s : Sort) (m : Move) (v : ℕ) → AreTerms 0 m.numer.terms → 1 ≤ m.div → BelowTerms v m.numer.terms → move_divisor s m ≡ 1 → upper_literal s m v ≡ AtLeast (upper_row s m v)
upper_is s m v a o b e =
    ap (λ (f : Form). prim s (AtLeast f)) (upper_form_is s m v a o b)
    ∙ prim_by_one s (upper_row s m v) (length_last v (pos m.div) (times_terms (negsuc 0) m.numer.terms)) (upper_divisor s m v e)

pub lower_is : (s : Sort) (m : Move) (v : ℕ) → AreTerms 0 m.numer.terms → 1 ≤ m.div → BelowTerms v m.numer.terms → move_divisor s m ≡ 1 → lower_literal s m v ≡ AtLeast (lower_row m v)
lower_is s m v a o b e =
    ap (λ (f : Form). prim s (AtLeast f)) (lower_form_is m v a o b)
    ∙ prim_by_one s (lower_row m v) (length_last v (neg_ℤ (pos m.div)) m.numer.terms) (lower_divisor s m v e)

-- ---- the numbers of a move in lowest form: one of them may be past the cap

last_fits : (ts : List (ℕ × ℤ)) (v : ℕ) (d : ℤ) → first_past (coefficients ts) ≡ None → nat_abs d ≤ cap → first_past (coefficients (ts ++ (v, d) ∷ [])) ≡ None
last_fits [] v d e h = past-within d [] h
last_fits (t ∷ ts) v d e h = past-within t.1 (coefficients (ts ++ (v, d) ∷ [])) (past-head t.1 (coefficients ts) e) ∙ last_fits ts v d (past-tail t.1 (coefficients ts) e) h

numbers_are : (s : Sort) (m : Move) → IsMove m → move_divisor s m ≡ 1 → first_past (move_numbers s m) ≡ first_past (form_numbers (upper_row s m spare_node) ++ form_numbers (lower_row m spare_node))
numbers_are s m a e =
    let b = below_are 0 m.numer.terms a.0.0 in
    let rest : List ℤ = lit_numbers (upper_literal s m spare_node) ++ lit_numbers (lower_literal s m spare_node) in
    past-within (pos m.div) (form_numbers m.numer ++ rest) a.2
    ∙ past-append (form_numbers m.numer) rest (row_fits m.numer a.0)
    ∙ ap₂ (λ (u l : Lit). first_past (lit_numbers u ++ lit_numbers l)) (upper_is s m spare_node a.0.0 a.1 b e) (lower_is s m spare_node a.0.0 a.1 b e)

upper_fit : (s : Sort) (m : Move) → IsMove m → first_past (coefficients (upper_row s m spare_node).terms) ≡ None
upper_fit s m a = last_fits (times_terms (negsuc 0) m.numer.terms) spare_node (pos m.div) (coefficients_fit 0 _ (negate_are 0 m.numer.terms a.0.0)) a.2

lower_fit : (m : Move) → IsMove m → first_past (form_numbers (lower_row m spare_node)) ≡ None
lower_fit m a =
    form_fits (lower_row m spare_node).terms m.numer.constant
    (last_fits m.numer.terms spare_node (neg_ℤ (pos m.div)) (coefficients_fit 0 m.numer.terms a.0.0) (let n = abs_neg (pos m.div) in omega (arith, a.2)))
    a.0.1

pub numbers_fit : (s : Sort) (m : Move) → IsMove m → move_divisor s m ≡ 1 → nat_abs (upper_constant s m.numer.constant m.div) ≤ cap → first_past (move_numbers s m) ≡ None
numbers_fit s m a e h =
    numbers_are s m a e
    ∙ past-append (form_numbers (upper_row s m spare_node)) (form_numbers (lower_row m spare_node)) (form_fits (upper_row s m spare_node).terms (upper_constant s m.numer.constant m.div) (upper_fit s m a) h)
    ∙ lower_fit m a

pub numbers_past : (s : Sort) (m : Move) → IsMove m → move_divisor s m ≡ 1 → cap < nat_abs (upper_constant s m.numer.constant m.div) → first_past (move_numbers s m) ≡ Some (upper_constant s m.numer.constant m.div)
numbers_past s m a e h =
    numbers_are s m a e
    ∙ past-append_some (form_numbers (upper_row s m spare_node)) (form_numbers (lower_row m spare_node)) (upper_constant s m.numer.constant m.div) (form_past (upper_row s m spare_node).terms (upper_constant s m.numer.constant m.div) (upper_fit s m a) h)

-- it is past the cap only above it
pub upper_least : (s : Sort) (c : ℤ) (d : ℕ) → nat_abs c ≤ cap → 1 ≤ d → cap < nat_abs (upper_constant s c d) → pos cap <ℤ upper_constant s c d
upper_least Rat c d h o k = omega (arith, ints)
upper_least Int c d h o k = omega (arith, ints)

pub upper_size : (s : Sort) (c : ℤ) (d : ℕ) → nat_abs c ≤ cap → 1 ≤ d → d ≤ cap → nat_abs (upper_constant s c d) ≤ 2 ^ 53
upper_size Rat c d h o k = omega (arith, ints)
upper_size Int c d h o k = omega (arith, ints)

-- a move is kept exactly where its divisor is 1 and that number is within the cap
pub kept_from : (s : Sort) (m : Move) → IsMove m → move_divisor s m ≡ 1 → upper_constant s m.numer.constant m.div ≤ℤ pos cap → IsKeptMove s m
kept_from s m a e h =
    record { is_lowest = lowest_by_one s m e; within = numbers_fit s m a e (small (cases_lt cap (nat_abs (upper_constant s m.numer.constant m.div)))) }
  where
    small : (cap < nat_abs (upper_constant s m.numer.constant m.div)) ⊎ (nat_abs (upper_constant s m.numer.constant m.div) ≤ cap) → nat_abs (upper_constant s m.numer.constant m.div) ≤ cap
    small (inl l) = let g = upper_least s m.numer.constant m.div a.0.1 a.1 l in absurd (omega (arith, ints))
    small (inr l) = l

pub kept_divisor : (s : Sort) (m : Move) → IsMove m → IsKeptMove s m → move_divisor s m ≡ 1
kept_divisor s m a k = one_by_lowest s m a.1 k.is_lowest

pub kept_upper : (s : Sort) (m : Move) → IsMove m → IsKeptMove s m → nat_abs (upper_constant s m.numer.constant m.div) ≤ cap
kept_upper s m a k =
    small (cases_lt cap (nat_abs (upper_constant s m.numer.constant m.div)))
  where
    small : (cap < nat_abs (upper_constant s m.numer.constant m.div)) ⊎ (nat_abs (upper_constant s m.numer.constant m.div) ≤ cap) → nat_abs (upper_constant s m.numer.constant m.div) ≤ cap
    small (inl l) = let g = numbers_past s m a (kept_divisor s m a k) l in let w = k.within in absurd (cc)
    small (inr l) = l
