-- Which numbers of a form decide.
use Rattle.std.specs.Prelude.{◌≡◌, cond, ℤ, pos, Bool, true, false, ◌&&◌, None, Some, Option, List, [], ◌∷◌, ◌++◌}
use Rattle.std.proofs.Common.{ap, ap₂, ◌∙◌, sym, refl}
use Rattle.lin_term.specs.Wide.{fits, first_past, coefficients, form_numbers}
use Rattle.lin_form.specs.Lin.{Lin}
use Rattle.lin_form.specs.Kept.{within, lins_numbers}

pub and_assoc : (a b c : Bool) → (a && b) && c ≡ a && (b && c)
and_assoc true b c = refl
and_assoc false b c = refl

pub within_append : (xs ys : List ℤ) → within (xs ++ ys) ≡ within xs && within ys
within_append [] ys = refl
within_append (x ∷ xs) ys = ap (λ (b : Bool). fits x && b) (within_append xs ys) ∙ sym (and_assoc (fits x) (within xs) (within ys))

by_fit : (b : Bool) (o : Option ℤ) (z : ℤ) (w : Bool) → (o ≡ None → w ≡ true) → cond b o (Some z) ≡ None → b && w ≡ true
by_fit true o z w f e = f e
by_fit false o z w f e = absurd (none_some e)
  where
    none_some : {x : ℤ} → Some x ≡ None → ⊥
    none_some {x} h = absurd (cc)

-- where none is past the cap, all are within
pub past_none : (zs : List ℤ) → first_past zs ≡ None → within zs ≡ true
past_none [] e = refl
past_none (z ∷ zs) e = by_fit (fits z) (first_past zs) z (within zs) (past_none zs) e

by_some : (b : Bool) (o : Option ℤ) (z y : ℤ) (w : Bool) → (o ≡ Some y → w ≡ false) → cond b o (Some z) ≡ Some y → b && w ≡ false
by_some true o z y w f e = f e
by_some false o z y w f e = refl

-- where one is past the cap, not all are within
pub past_some : (zs : List ℤ) (y : ℤ) → first_past zs ≡ Some y → within zs ≡ false
past_some [] y e = absurd (cc)
past_some (z ∷ zs) y e = by_some (fits z) (first_past zs) z y (within zs) (past_some zs y) e

and_true : (a b : Bool) → a ≡ true → b ≡ true → a && b ≡ true
and_true a b e f = ap₂ (λ (x y : Bool). x && y) e f

and_left : (a b : Bool) → a ≡ false → a && b ≡ false
and_left a b e = ap (λ (x : Bool). x && b) e

and_right : (a b : Bool) → b ≡ false → a && b ≡ false
and_right true b e = e
and_right false b e = refl

one_form : (x : Lin) → within (lins_numbers (x ∷ [])) ≡ fits (pos x.den) && (within (coefficients x.form.terms) && fits x.form.constant)
one_form x =
    ap (λ (b : Bool). fits (pos x.den) && b) (within_append (form_numbers x.form) [] ∙ and_end (within (form_numbers x.form)) ∙ within_append (coefficients x.form.terms) (x.form.constant ∷ []) ∙ ap (λ (b : Bool). within (coefficients x.form.terms) && b) (and_end (fits x.form.constant)))
  where
    and_end : (b : Bool) → b && true ≡ b
    and_end true = refl
    and_end false = refl

pub form_kept : (x : Lin) → fits (pos x.den) ≡ true → first_past (coefficients x.form.terms) ≡ None → fits x.form.constant ≡ true → within (lins_numbers (x ∷ [])) ≡ true
form_kept x a b c =
    one_form x ∙ and_true (fits (pos x.den)) (within (coefficients x.form.terms) && fits x.form.constant) a (and_true (within (coefficients x.form.terms)) (fits x.form.constant) (past_none (coefficients x.form.terms) b) c)

pub den_past : (x : Lin) → fits (pos x.den) ≡ false → within (lins_numbers (x ∷ [])) ≡ false
den_past x a = one_form x ∙ and_left (fits (pos x.den)) (within (coefficients x.form.terms) && fits x.form.constant) a

pub coefficient_past : (x : Lin) (z : ℤ) → first_past (coefficients x.form.terms) ≡ Some z → within (lins_numbers (x ∷ [])) ≡ false
coefficient_past x z a =
    one_form x ∙ and_right (fits (pos x.den)) (within (coefficients x.form.terms) && fits x.form.constant) (and_left (within (coefficients x.form.terms)) (fits x.form.constant) (past_some (coefficients x.form.terms) z a))

pub constant_past : (x : Lin) → fits x.form.constant ≡ false → within (lins_numbers (x ∷ [])) ≡ false
constant_past x a =
    one_form x ∙ and_right (fits (pos x.den)) (within (coefficients x.form.terms) && fits x.form.constant) (and_right (within (coefficients x.form.terms)) (fits x.form.constant) a)

-- two numbers are within the cap in either order
pub swapped : (a b : ℤ) → within (a ∷ b ∷ []) ≡ within (b ∷ a ∷ [])
swapped a b = by (fits a) (fits b)
  where
    by : (p q : Bool) → p && (q && true) ≡ q && (p && true)
    by true true = refl
    by true false = refl
    by false true = refl
    by false false = refl
