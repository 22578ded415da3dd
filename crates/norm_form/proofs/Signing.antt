-- Literals and their negations, made one after the other.
use Rattle.std.specs.Prelude.{ℕ, zero, suc, ◌≡◌, ◌%◌, ℤ, pos, negsuc, nat_abs, Bool, true, false, not, ◌&&◌, nat_eq, int_le, int_lt, Some, None, Ok, Err, List, [], ◌∷◌}
use Rattle.std.proofs.Common.{arith, ap, ap₂, ◌∙◌, sym, subst, refl}
use Rattle.lin_term.specs.declared.Sort.{Sort}
use Rattle.lin_term.specs.declared.Sort.TheVariants.{Rat, Int}
use Rattle.lin_term.specs.declared.Lit.{Lit}
use Rattle.lin_term.specs.declared.Lit.TheVariants.{AtLeast, Above, Divides, NotDivides}
use Rattle.lin_term.specs.Literal.{form_of, prim, neg, IsOf, IsPrimitive}
use Rattle.lin_term.specs.Primable.{IsPrimable}
use Rattle.lin_term.specs.Truth.{truth_of, truth_at, truth_without}
use Rattle.lin_term.specs.Wide.{lit_numbers}
use Rattle.lin_term.proofs.Lowest.{prim_again}
use Rattle.lin_term.proofs.PrimitiveLemmas.{modulus_one}
use Rattle.lin_form.specs.declared.FormFault.{FormFault}
use Rattle.lin_form.specs.declared.FormFault.TheVariants as faults
use Rattle.lin_form.specs.Kept.{within}
use Rattle.lin_form.proofs.Keeping.{within_append}
use Rattle.norm_form.specs.declared.literal.Signs.{Signs}
use Rattle.norm_form.specs.Normal.{one_lit}
use Rattle.norm_form.specs.Norm.{closed, closed_truth, leaf, leaf_by, is_nonneg, is_positive, is_zero}
use Rattle.norm_form.specs.View.{shape_of}
use Rattle.norm_form.specs.Literal.{IsFormedLiteral, AreSigned}

pub prim_of : (s : Sort) (l : Lit) → IsPrimable s l → IsPrimitive s (prim s l)
prim_of s l h = (of s l h, prim_again s l)
  where
    of : (s : Sort) (l : Lit) → IsPrimable s l → IsOf s (prim s l)
    of Rat (AtLeast f) h = tt
    of Rat (Above f) h = tt
    of Rat (Divides d f) h = h
    of Rat (NotDivides d f) h = h
    of Int (AtLeast f) h = tt
    of Int (Above f) h = tt
    of Int (Divides d f) h = modulus_one d f h.0
    of Int (NotDivides d f) h = modulus_one d f h.0

nonneg_is : (z : ℤ) → int_le (pos 0) z ≡ is_nonneg z
nonneg_is (pos n) = grind arith
nonneg_is (negsuc n) = refl

positive_is : (z : ℤ) → int_lt (pos 0) z ≡ is_positive z
positive_is (pos zero) = refl
positive_is (pos (suc n)) = grind arith
positive_is (negsuc n) = refl

zero_is : (n : ℕ) → nat_eq n 0 ≡ is_zero n
zero_is zero = refl
zero_is (suc n) = grind arith

truth_is : (l : Lit) → truth_at l (form_of l).constant ≡ closed_truth l
truth_is (AtLeast f) = nonneg_is f.constant
truth_is (Above f) = positive_is f.constant
truth_is (Divides d f) = zero_is (nat_abs f.constant % d)
truth_is (NotDivides d f) = ap not (zero_is (nat_abs f.constant % d))

some_same : (a b : Bool) → Some a ≡ Some b → a ≡ b
some_same a b e = cc

none_some : (a : Bool) → Some a ≡ None → ⊥
none_some a e = absurd (cc)

closed_by : (us : List (ℕ × ℤ)) (l : Lit) (b : Bool) → truth_without us l (form_of l).constant ≡ Some b → closed b ≡ leaf_by us l
closed_by [] l b e = ap closed (sym (some_same (truth_at l (form_of l).constant) b e) ∙ truth_is l)
closed_by (u ∷ us) l b e = absurd (none_some b (sym e))

open_by : (us : List (ℕ × ℤ)) (l : Lit) → truth_without us l (form_of l).constant ≡ None → one_lit l ≡ leaf_by us l
open_by [] l e = absurd (none_some (truth_at l (form_of l).constant) e)
open_by (u ∷ us) l e = refl

pub closed_leaf : (l : Lit) (b : Bool) → truth_of l ≡ Some b → closed b ≡ leaf l
closed_leaf l b e = closed_by (form_of l).terms l b e

pub open_leaf : (l : Lit) → truth_of l ≡ None → one_lit l ≡ leaf l
open_leaf l e = open_by (form_of l).terms l e

and_false : (b : Bool) → b && false ≡ false
and_false true = refl
and_false false = refl

pub first_stops : (s : Sort) (l : Lit) (f : FormFault) → IsFormedLiteral (lit_numbers (prim s l)) (prim s l) (Err f) → AreSigned s l (Err f)
first_stops s l faults.Number h = within_append (lit_numbers (prim s l)) (lit_numbers (neg s (prim s l))) ∙ ap (λ (b : Bool). b && within (lit_numbers (neg s (prim s l)))) h
first_stops s l faults.Memory h = tt
first_stops s l faults.Size h = h
first_stops s l faults.Variables h = h

pub second_stops : (s : Sort) (l p : Lit) (f : FormFault) → p ≡ prim s l → IsFormedLiteral (lit_numbers (neg s p)) (neg s p) (Err f) → AreSigned s l (Err f)
second_stops s l p faults.Number e h =
    within_append (lit_numbers (prim s l)) (lit_numbers (neg s (prim s l)))
    ∙ ap (λ (b : Bool). within (lit_numbers (prim s l)) && b) (subst (λ (z : Lit). within (lit_numbers (neg s z)) ≡ false) e h) ∙ and_false (within (lit_numbers (prim s l)))
second_stops s l p faults.Memory e h = tt
second_stops s l p faults.Size e h = h
second_stops s l p faults.Variables e h = h

pub both_made : (s : Sort) (l p n : Lit) (z : Signs) → IsFormedLiteral (lit_numbers (prim s l)) (prim s l) (Ok p) → IsFormedLiteral (lit_numbers (neg s p)) (neg s p) (Ok n) → shape_of z.yes ≡ leaf p → shape_of z.no ≡ leaf n → AreSigned s l (Ok z)
both_made s l p n z h k a b = (
  within_append (lit_numbers (prim s l)) (lit_numbers (neg s (prim s l))) ∙ ap₂ (λ (x y : Bool). x && y) h.0 (subst (λ (q : Lit). within (lit_numbers (neg s q)) ≡ true) h.1 k.0),
  a ∙ ap leaf h.1,
  b ∙ ap leaf (k.1 ∙ ap (neg s) h.1),
)
