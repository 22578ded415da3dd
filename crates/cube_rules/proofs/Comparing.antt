-- What the tests of a literal say.
use Rattle.std.specs.Prelude.{ℕ, ◌≡◌, ℤ, pos, true, false, ◌&&◌, nat_lt, Some, None, Err, List, [], ◌∷◌}
use Rattle.std.specs.List.{list_all}
use Rattle.std.proofs.Common.{ap, subst, refl, inl, inr}
use Rattle.std.proofs.lemmas.Bool.{and_parts, cases_Bool, leb-true}
use Rattle.lin_term.specs.declared.Sort.{Sort}
use Rattle.lin_term.specs.declared.Sort.TheVariants.{Rat, Int}
use Rattle.lin_term.specs.declared.Lit.{Lit}
use Rattle.lin_term.specs.declared.Lit.TheVariants.{AtLeast, Above, Divides, NotDivides}
use Rattle.lin_term.specs.Literal.{IsPrimitive, IsOf, prim}
use Rattle.lin_term.specs.Primable.{IsPrimable}
use Rattle.lin_term.specs.declared.Short.{Short}
use Rattle.lin_term.specs.declared.Short.TheVariants.{Fault}
use Rattle.lin_term.specs.declared.Wide.{Wide}
use Rattle.lin_term.specs.Wide.{first_past, lit_numbers, form_numbers, Capped}
use Rattle.lin_term.specs.Same.{same_literal}
use Rattle.lin_term.proofs.Capping.{past-head}
use Rattle.lin_term.proofs.Comparing.{literal_decides}
use Rattle.cube_rules.specs.Facts.{is_of, is_primitive, all_below}

-- literals that compare as the same are the same
pub literal_is : (l k : Lit) → same_literal l k ≡ true → l ≡ k
literal_is l k e = let d = literal_decides l k in d.0 e

pub of_sort_is : (s : Sort) (l : Lit) → is_of s l ≡ true → IsOf s l
of_sort_is Rat (AtLeast f) e = tt
of_sort_is Rat (Above f) e = tt
of_sort_is Rat (Divides d f) e = absurd (cc)
of_sort_is Rat (NotDivides d f) e = absurd (cc)
of_sort_is Int (AtLeast f) e = tt
of_sort_is Int (Above f) e = absurd (cc)
of_sort_is Int (Divides d f) e = leb-true 1 d e
of_sort_is Int (NotDivides d f) e = leb-true 1 d e

-- the test of a primitive literal says what it is named after
pub primitive_is : (s : Sort) (l : Lit) → is_primitive s l ≡ true → IsPrimitive s l
primitive_is s l e =
    let a = and_parts (is_of s l) (same_literal (prim s l) l) e in
    (of_sort_is s l a.0, literal_is (prim s l) l a.1)

-- a literal within the cap whose primitive form is not is none
pub past_no_primitive : (s : Sort) (l : Lit) (w : ℤ) → first_past (lit_numbers l) ≡ None → first_past (lit_numbers (prim s l)) ≡ Some w → is_primitive s l ≡ false
past_no_primitive s l w h k =
    elim (cases_Bool (is_primitive s l)) [
      | inl e ↦
          let p = primitive_is s l e in
          let q : first_past (lit_numbers l) ≡ Some w = subst (λ (x : Lit). first_past (lit_numbers x) ≡ Some w) p.1 k in
          absurd (cc)
      | inr e ↦ e
    ]

-- the number past the cap that a refusal names
pub past_of : (numbers : List ℤ) (l : Lit) (e : Short Wide) (w : Wide) → Capped numbers l (Err e) → e ≡ Fault w → first_past numbers ≡ Some w.number
past_of numbers l e w h k = subst (λ (x : Short Wide). Capped numbers l (Err x)) k h

-- a literal of the sort, within the cap, has a primitive form
pub of_sort_primable : (s : Sort) (l : Lit) → is_of s l ≡ true → first_past (lit_numbers l) ≡ None → IsPrimable s l
of_sort_primable Rat (AtLeast f) e h = tt
of_sort_primable Rat (Above f) e h = tt
of_sort_primable Rat (Divides d f) e h = absurd (cc)
of_sort_primable Rat (NotDivides d f) e h = absurd (cc)
of_sort_primable Int (AtLeast f) e h = tt
of_sort_primable Int (Above f) e h = tt
of_sort_primable Int (Divides d f) e h = (leb-true 1 d e, past-head (pos d) (form_numbers f) h)
of_sort_primable Int (NotDivides d f) e h = (leb-true 1 d e, past-head (pos d) (form_numbers f) h)

-- each variable is below n
pub list_all-below : (n : ℕ) (ts : List (ℕ × ℤ)) → list_all (λ t. nat_lt t.0 n) ts ≡ all_below n ts
list_all-below n [] = refl
list_all-below n (t ∷ ts) = ap (λ b. nat_lt t.0 n && b) (list_all-below n ts)
