-- The limits of a line are those that its types keep and those that are tested.
use Rattle.std.specs.Prelude.{ℕ, zero, suc, ◌+◌, ◌<◌, ◌≤◌, ◌≡◌, ℤ, pos, nat_abs, true, ◌&&◌, nat_le, is_none, Option, Some, None, List, [], ◌∷◌, ◌++◌, take, get_or, length, Decides}
use Rattle.std.specs.List.{AllByRecursion, list_all}
use Rattle.std.proofs.Common.{arith, ap, ◌∙◌, sym, subst, refl}
use Rattle.std.proofs.lemmas.Bool.{and_parts, leb-true, le-leb}
use Rattle.std.proofs.lemmas.Bool.Decides.{Decides-and, Decides-like}
use Rattle.std.proofs.lemmas.List.{take_more}
use Rattle.lin_term.specs.declared.Lit.{Lit}
use Rattle.lin_term.specs.declared.Lit.TheVariants.{AtLeast, Above, Divides, NotDivides}
use Rattle.lin_term.specs.Form.{Form, cap, IsRow}
use Rattle.lin_term.specs.Literal.{form_of}
use Rattle.lin_term.specs.Wide.{fits, first_past, lit_numbers, form_numbers}
use Rattle.lin_term.proofs.Capping.{past-head, past-within, row_fits}
use Rattle.cube_rules.specs.declared.step.Step.{Step}
use Rattle.cube_rules.specs.declared.step.Step.TheVariants.{Path, Def, Part, Cases, Sum, Split, Cube, Least, Learn, False}
use Rattle.cube_rules.specs.Limits.{IsCount, divisor_cap, IsLiteral, IsStep, is_literal_within, is_within, IsTyped}

le_decides : (a b : ℕ) → Decides (nat_le a b) (a ≤ b)
le_decides a b = (λ e. leb-true a b e, λ h. le-leb a b h)

pub none_is : {A : Type 0} (o : Option A) → is_none o ≡ true → o ≡ None
none_is None e = refl
none_is (Some x) e = absurd (cc)

-- a literal within the limits has no number past the cap
pub kept_literal : (l : Lit) → is_literal_within l ≡ true → first_past (lit_numbers l) ≡ None
kept_literal (AtLeast f) e = none_is (first_past (form_numbers f)) ((and_parts (is_none (first_past (form_numbers f))) true e).0)
kept_literal (Above f) e = none_is (first_past (form_numbers f)) ((and_parts (is_none (first_past (form_numbers f))) true e).0)
kept_literal (Divides d f) e = none_is (first_past (pos d ∷ form_numbers f)) ((and_parts (is_none (first_past (pos d ∷ form_numbers f))) (nat_le 1 d) e).0)
kept_literal (NotDivides d f) e = none_is (first_past (pos d ∷ form_numbers f)) ((and_parts (is_none (first_past (pos d ∷ form_numbers f))) (nat_le 1 d) e).0)

pub kept_literals : (ls : List Lit) → list_all is_literal_within ls ≡ true → AllByRecursion (λ l. first_past (lit_numbers l) ≡ None) ls
kept_literals [] e = tt
kept_literals (l ∷ ls) e =
    let a = and_parts (is_literal_within l) (list_all is_literal_within ls) e in
    (kept_literal l a.0, kept_literals ls a.1)

row_within : (f : Form) → IsRow f → (is_none (first_past (form_numbers f)) && true) ≡ true
row_within f r = ap (λ (o : Option ℤ). is_none o && true) (row_fits f r)

modulus_within : (d : ℕ) (f : Form) → IsRow f → Decides (is_none (first_past (pos d ∷ form_numbers f)) && nat_le 1 d) (IsCount 1 d × IsRow f)
modulus_within d f r = (
  λ e.
      let a = and_parts (is_none (first_past (pos d ∷ form_numbers f))) (nat_le 1 d) e in
      ((leb-true 1 d a.1, past-head (pos d) (form_numbers f) (none_is (first_past (pos d ∷ form_numbers f)) a.0)), r),
  λ h.
      ap (λ (o : Option ℤ). is_none o && nat_le 1 d) (past-within (pos d) (form_numbers f) h.0.1 ∙ row_fits f r) ∙ le-leb 1 d h.0.0,
)

literal_exact : (l : Lit) → IsRow (form_of l) → Decides (is_literal_within l) (IsLiteral l)
literal_exact (AtLeast f) r = (λ e. r, λ h. row_within f r)
literal_exact (Above f) r = (λ e. r, λ h. row_within f r)
literal_exact (Divides d f) r = modulus_within d f r
literal_exact (NotDivides d f) r = modulus_within d f r

literals_exact : (ls : List Lit) → AllByRecursion (λ l. IsRow (form_of l)) ls → Decides (list_all is_literal_within ls) (AllByRecursion IsLiteral ls)
literals_exact [] t = (λ e. tt, λ h. refl)
literals_exact (l ∷ ls) t = Decides-and (is_literal_within l) (list_all is_literal_within ls) (literal_exact l t.0) (literals_exact ls t.1)

pub within_exact : (x : Step) → IsTyped x → Decides (is_within x) (IsStep x)
within_exact (Path k) t = (λ e. t, λ h. refl)
within_exact (Def v i) t = (λ e. t, λ h. refl)
within_exact (Part f i) t = (λ e. t, λ h. refl)
within_exact (Cases f n) t = (λ e. (t, (omega arith, leb-true n cap e)), λ h. le-leb n cap h.1.1)
within_exact (Sum p f q h g) t =
    Decides-like (fits p && fits q && nat_le (nat_abs g) divisor_cap) (λ e. (e.0.0, t.0, e.0.1, t.1, e.1)) (λ e. ((e.0, e.2), e.4))
    (Decides-and (fits p && fits q) (nat_le (nat_abs g) divisor_cap) (Decides-and (fits p) (fits q) (le_decides (nat_abs p) cap) (le_decides (nat_abs q) cap)) (le_decides (nat_abs g) divisor_cap))
within_exact (Split l) t = literal_exact l t
within_exact (Cube fs) t = (λ e. (leb-true 1 (length fs) e, t), λ h. le-leb 1 (length fs) h.0)
within_exact (Least v n) t = (λ e. (t, (omega arith, leb-true n cap e)), λ h. le-leb n cap h.1.1)
within_exact (Learn ls) t = Decides-and (nat_le 1 (length ls)) (list_all is_literal_within ls) (le_decides 1 (length ls)) (literals_exact ls t)
within_exact (False f) t = (λ e. t, λ h. refl)

-- what holds of those before i and of that at i
all_push : {X : Type 0} (P : X → Type 0) (xs : List X) (x : X) → AllByRecursion P xs → P x → AllByRecursion P (xs ++ x ∷ [])
all_push P [] x h p = (p, tt)
all_push P (y ∷ ys) x h p = (h.0, all_push P ys x h.1 p)

pub all_more : {X : Type 0} (P : X → Type 0) (xs : List X) (i : ℕ) (x : X) → AllByRecursion P (take i xs) → i < length xs → x ≡ get_or xs i x → P x → AllByRecursion P (take (i + 1) xs)
all_more P xs i x h l e p =
    subst (λ ys. AllByRecursion P ys) (sym (take_more xs i x l)) (all_push P (take i xs) (get_or xs i x) h (subst (λ y. P y) e p))

-- the same of numbers
pub all_more_at : (P : ℕ → Type 0) (xs : List ℕ) (i : ℕ) → AllByRecursion P (take i xs) → i < length xs → P (get_or xs i 0) → AllByRecursion P (take (i + 1) xs)
all_more_at P xs i h l p =
    subst (λ ys. AllByRecursion P ys) (sym (take_more xs i 0 l)) (all_push P (take i xs) (get_or xs i 0) h p)

pub all_done : {X : Type 0} (P : X → Type 0) (xs : List X) (i : ℕ) → AllByRecursion P (take i xs) → length xs ≤ i → AllByRecursion P xs
all_done P [] zero h l = tt
all_done P [] (suc i) h l = tt
all_done P (x ∷ xs) zero h l = absurd (omega arith)
all_done P (x ∷ xs) (suc i) h l = (h.0, all_done P xs i h.1 (omega arith))
