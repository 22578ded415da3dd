-- The sums of an elimination, literal by literal.
use Rattle.std.specs.Prelude.{ℕ, zero, suc, ◌+◌, ◌/◌, ◌<◌, ◌≤◌, ◌≡◌, ◌≢◌, ℤ, pos, negsuc, nat_abs, Bool, true, false, cond, None, Result, Ok, Err, List, [], ◌∷◌, ◌++◌, length, get_or, drop, map, filter}
use Rattle.std.specs.List.{flat_map}
use Rattle.std.proofs.Common.{arith, ap, ◌∙◌, sym, subst, refl}
use Rattle.std.proofs.lemmas.Int.{ints}
use Rattle.lin_term.specs.declared.Lit.{Lit}
use Rattle.lin_term.specs.declared.Lit.TheVariants.{AtLeast, Above, Divides, NotDivides}
use Rattle.lin_term.specs.declared.Short.{Short}
use Rattle.lin_term.specs.declared.Short.TheVariants as short
use Rattle.lin_term.specs.declared.Sort.TheVariants.{Rat}
use Rattle.lin_term.specs.declared.Wide.{Wide}
use Rattle.lin_term.specs.Form.{Form, IsRow}
use Rattle.lin_term.specs.Literal.{form_of}
use Rattle.lin_term.specs.Primable.{IsPrimable}
use Rattle.lin_term.specs.PutIn.{coef}
use Rattle.lin_term.specs.Wide.{first_past, lit_numbers, Capped}
use Rattle.lin_term.proofs.Capping.{past-append, past-append_some, row_fits}
use Rattle.dom_core.specs.Adding.{AddsLit, AddsCube}
use Rattle.dom_core.specs.Elimination.{is_positive, is_negative, is_zero, is_lower, is_upper, is_free, size_at, resolvent, fourier_motzkin, cube_numbers}
use Rattle.dom_core.proofs.AddingLemmas.{append_assoc, append_none, split_at, numbers-append, past_here}
use Rattle.dom_rat.specs.Sums.{sums_of, all_sums}

-- one literal more
pub sums_split : (x : ℕ) (l : Lit) (c : List Lit) (i : ℕ) (u : Lit) → i < length c → u ≡ get_or c i u → sums_of x l (drop i c) ≡ sums_of x l (u ∷ []) ++ sums_of x l (drop (i + 1) c)
sums_split x l c i u h e = ap (λ (us : List Lit). sums_of x l us) (split_at c i u h e) ∙ by (is_upper x u)
  where
    by : (b : Bool) → map (λ m. resolvent x l m) (cond b (u ∷ filter (is_upper x) (drop (i + 1) c)) (filter (is_upper x) (drop (i + 1) c))) ≡ map (λ m. resolvent x l m) (cond b (u ∷ []) []) ++ sums_of x l (drop (i + 1) c)
    by true = refl
    by false = refl

pub all_split : (x : ℕ) (c ls : List Lit) (i : ℕ) (l : Lit) → i < length ls → l ≡ get_or ls i l → all_sums x c (drop i ls) ≡ all_sums x c (l ∷ []) ++ all_sums x c (drop (i + 1) ls)
all_split x c ls i l h e = ap (λ (us : List Lit). all_sums x c us) (split_at ls i l h e) ∙ by (is_lower x l)
  where
    by : (b : Bool) → flat_map (λ m. sums_of x m c) (cond b (l ∷ filter (is_lower x) (drop (i + 1) ls)) (filter (is_lower x) (drop (i + 1) ls))) ≡ flat_map (λ m. sums_of x m c) (cond b (l ∷ []) []) ++ all_sums x c (drop (i + 1) ls)
    by true = ap (λ us. us ++ all_sums x c (drop (i + 1) ls)) (sym (append_none (sums_of x l c)))
    by false = refl

pub free_split : (x : ℕ) (c : List Lit) (i : ℕ) (l : Lit) → i < length c → l ≡ get_or c i l → filter (is_free x) (drop i c) ≡ filter (is_free x) (l ∷ []) ++ filter (is_free x) (drop (i + 1) c)
free_split x c i l h e = ap (filter (is_free x)) (split_at c i l h e) ∙ by (is_free x l)
  where
    by : (b : Bool) → cond b (l ∷ filter (is_free x) (drop (i + 1) c)) (filter (is_free x) (drop (i + 1) c)) ≡ cond b (l ∷ []) [] ++ filter (is_free x) (drop (i + 1) c)
    by true = refl
    by false = refl

-- a literal that passes or does not
pub one_sum : (x : ℕ) (l u : Lit) → is_upper x u ≡ true → sums_of x l (u ∷ []) ≡ resolvent x l u ∷ []
one_sum x l u e = ap (λ (b : Bool). map (λ m. resolvent x l m) (cond b (u ∷ []) [])) e

pub no_sum : (x : ℕ) (l u : Lit) → is_upper x u ≡ false → sums_of x l (u ∷ []) ≡ []
no_sum x l u e = ap (λ (b : Bool). map (λ m. resolvent x l m) (cond b (u ∷ []) [])) e

pub its_sums : (x : ℕ) (c : List Lit) (l : Lit) → is_lower x l ≡ true → all_sums x c (l ∷ []) ≡ sums_of x l c
its_sums x c l e = ap (λ (b : Bool). flat_map (λ m. sums_of x m c) (cond b (l ∷ []) [])) e ∙ append_none (sums_of x l c)

pub no_sums : (x : ℕ) (c : List Lit) (l : Lit) → is_lower x l ≡ false → all_sums x c (l ∷ []) ≡ []
no_sums x c l e = ap (λ (b : Bool). flat_map (λ m. sums_of x m c) (cond b (l ∷ []) [])) e

-- a literal stays exactly where it does not have the variable
pub free_one : (x : ℕ) (l : Lit) → is_free x l ≡ true → filter (is_free x) (l ∷ []) ≡ l ∷ []
free_one x l e = ap (λ (b : Bool). cond b (l ∷ []) []) e

pub free_none : (x : ℕ) (l : Lit) → is_free x l ≡ false → filter (is_free x) (l ∷ []) ≡ []
free_none x l e = ap (λ (b : Bool). cond b (l ∷ []) []) e

positive_size : (z : ℤ) → is_positive z ≡ true → 1 ≤ nat_abs z
positive_size (pos zero) e = absurd (cc)
positive_size (pos (suc k)) e = omega arith
positive_size (negsuc k) e = absurd (cc)

pub lower_size : (x : ℕ) (l : Lit) → is_lower x l ≡ true → 1 ≤ size_at x l
lower_size x (AtLeast f) e = positive_size (coef f.terms x) e
lower_size x (Above f) e = positive_size (coef f.terms x) e
lower_size x (Divides d f) e = absurd (cc)
lower_size x (NotDivides d f) e = absurd (cc)

-- ---- what was added

pub added_one : (old new : List Lit) (l : Lit) → first_past (lit_numbers l) ≡ None → new ≡ old ++ l ∷ [] → AddsCube old new (l ∷ []) (Ok tt)
added_one old new l n e = (ap first_past (append_none (lit_numbers l)) ∙ n, e)

-- one literal that is added is a cube that is added
pub adds_one : (old new : List Lit) (l : Lit) (r : Result (Unit {0}) (Short Wide)) → AddsLit old new l r → AddsCube old new (l ∷ []) r
adds_one old new l (Ok u) h = (ap first_past (append_none (lit_numbers l)) ∙ h.0, h.1)
adds_one old new l (Err (short.Fault w)) h = ap first_past (append_none (lit_numbers l)) ∙ h
adds_one old new l (Err short.Memory) h = tt

pub added_none : (old : List Lit) → AddsCube old old [] (Ok tt)
added_none old = (refl, sym (append_none old))

pub more_refused : (out new old now part rest all : List Lit) (e : Short Wide) → AddsCube out new part (Err e) → first_past (cube_numbers (part ++ rest)) ≡ first_past (cube_numbers all) → AddsCube old now all (Err e)
more_refused out new old now part rest all (short.Fault w) h p =
    past_here (cube_numbers part) (cube_numbers rest) (cube_numbers all) w.number h (ap first_past (sym (numbers-append part rest)) ∙ p)
more_refused out new old now part rest all short.Memory h p = tt

-- the two parts of the cube
pub first_refused : {A : Type 0} (out new : List Lit) (part rest : List Lit) (value : A) (e : Short Wide) → AddsCube out new part (Err e) → Capped {A = A} (cube_numbers (part ++ rest)) value (Err e)
first_refused out new part rest value (short.Fault w) h = ap first_past (numbers-append part rest) ∙ past-append_some (cube_numbers part) (cube_numbers rest) w.number h
first_refused out new part rest value short.Memory h = tt

pub second_refused : {A : Type 0} (out new : List Lit) (part rest : List Lit) (value : A) (e : Short Wide) → first_past (cube_numbers part) ≡ None → AddsCube out new rest (Err e) → Capped {A = A} (cube_numbers (part ++ rest)) value (Err e)
second_refused out new part rest value (short.Fault w) n h = ap first_past (numbers-append part rest) ∙ past-append (cube_numbers part) (cube_numbers rest) n ∙ h
second_refused out new part rest value short.Memory n h = tt

pub both_parts : (none one two made : List Lit) (part rest : List Lit) → none ≡ [] → (first_past (cube_numbers part) ≡ None) × (one ≡ none ++ part) → (first_past (cube_numbers rest) ≡ None) × (two ≡ one ++ rest) → made ≡ two → (first_past (cube_numbers (part ++ rest)) ≡ None) × (made ≡ part ++ rest)
both_parts none one two made part rest z p q e = (
  ap first_past (numbers-append part rest) ∙ past-append (cube_numbers part) (cube_numbers rest) p.0 ∙ q.0,
  e ∙ q.1 ∙ ap (λ us. us ++ rest) (p.1 ∙ ap (λ us. us ++ part) z),
)

-- a rational literal's own numbers fit
pub rat_fits : (l : Lit) → IsRow (form_of l) → IsPrimable Rat l → first_past (lit_numbers l) ≡ None
rat_fits (AtLeast f) r p = row_fits f r
rat_fits (Above f) r p = row_fits f r
rat_fits (Divides d f) r p = absurd p
rat_fits (NotDivides d f) r p = absurd p
