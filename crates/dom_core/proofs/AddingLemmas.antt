-- Literals and cubes that are added one after the other, and the first of their numbers that does not fit.
use Rattle.std.specs.Prelude.{ℕ, zero, suc, ◌+◌, ◌<◌, ◌≡◌, ℤ, Some, None, Err, List, [], ◌∷◌, ◌++◌, length, get_or, take, drop}
use Rattle.std.specs.List.{flat_map}
use Rattle.std.proofs.Common.{arith, ap, ◌∙◌, sym, refl}
use Rattle.std.proofs.lemmas.List.{drop_more}
use Rattle.lin_term.specs.declared.Lit.{Lit}
use Rattle.lin_term.specs.declared.Sort.{Sort}
use Rattle.lin_term.specs.declared.Short.{Short}
use Rattle.lin_term.specs.declared.Short.TheVariants as short
use Rattle.lin_term.specs.declared.Wide.{Wide}
use Rattle.lin_term.specs.Literal.{IsPrimitive}
use Rattle.lin_term.specs.Primable.{IsPrimable}
use Rattle.lin_term.specs.Wide.{first_past, lit_numbers, Capped}
use Rattle.lin_term.proofs.Capping.{past-append, past-append_some}
use Rattle.dom_core.specs.Cube.{IsCube, IsPrimitiveCube}
use Rattle.dom_core.specs.Elimination.{cube_numbers}
use Rattle.dom_core.specs.Adding.{AddsLit, AddsCube}

pub append_assoc : {A : Type 0} (xs ys zs : List A) → (xs ++ ys) ++ zs ≡ xs ++ (ys ++ zs)
append_assoc [] ys zs = refl
append_assoc (x ∷ xs) ys zs = ap (λ us. x ∷ us) (append_assoc xs ys zs)

pub append_none : {A : Type 0} (xs : List A) → xs ++ [] ≡ xs
append_none [] = refl
append_none (x ∷ xs) = ap (λ us. x ∷ us) (append_none xs)

pub split_at : {A : Type 0} (c : List A) (j : ℕ) (l : A) → j < length c → l ≡ get_or c j l → drop j c ≡ l ∷ drop (j + 1) c
split_at c j l h e = drop_more c j l h ∙ ap (λ y. y ∷ drop (j + 1) c) (sym e)

-- one more is added, of all that are to come
pub added : {A : Type 0} (out all rest more : List A) (l : A) → out ++ (l ∷ rest) ≡ all → more ≡ out ++ l ∷ [] → more ++ rest ≡ all
added out all rest more l e m = ap (λ us. us ++ rest) m ∙ append_assoc out (l ∷ []) rest ∙ e

pub added_last : {A : Type 0} (out all rest : List A) → rest ≡ [] → out ++ rest ≡ all → out ≡ all
added_last out all rest n e = sym (append_none out) ∙ ap (λ us. out ++ us) (sym n) ∙ e

-- the numbers of one more fit
pub past_more : (xs ys all : List ℤ) → first_past xs ≡ None → first_past (xs ++ ys) ≡ first_past all → first_past ys ≡ first_past all
past_more xs ys all n e = sym (past-append xs ys n) ∙ e

pub past_here : (xs ys all : List ℤ) (z : ℤ) → first_past xs ≡ Some z → first_past (xs ++ ys) ≡ first_past all → first_past all ≡ Some z
past_here xs ys all z n e = sym e ∙ past-append_some xs ys z n

-- ---- primitive cubes

pub primitive_at : (s : Sort) (c : List Lit) (i : ℕ) (d : Lit) → i < length c → IsPrimitiveCube s c → IsPrimitive s (get_or c i d)
primitive_at s [] i d h k = absurd (omega arith)
primitive_at s (l ∷ c) zero d h k = k.0
primitive_at s (l ∷ c) (suc i) d h k = primitive_at s c i d (omega arith) k.2

pub primable_at : (s : Sort) (c : List Lit) (i : ℕ) (d : Lit) → i < length c → IsPrimitiveCube s c → IsPrimable s (get_or c i d)
primable_at s [] i d h k = absurd (omega arith)
primable_at s (l ∷ c) zero d h k = k.1
primable_at s (l ∷ c) (suc i) d h k = primable_at s c i d (omega arith) k.2

pub primitive_take : (s : Sort) (c : List Lit) (i : ℕ) → IsPrimitiveCube s c → IsPrimitiveCube s (take i c)
primitive_take s c zero k = tt
primitive_take s [] (suc i) k = tt
primitive_take s (l ∷ c) (suc i) k = (k.0, k.1, primitive_take s c i k.2)

pub primitive_drop : (s : Sort) (c : List Lit) (i : ℕ) → IsPrimitiveCube s c → IsPrimitiveCube s (drop i c)
primitive_drop s c zero k = k
primitive_drop s [] (suc i) k = tt
primitive_drop s (l ∷ c) (suc i) k = primitive_drop s c i k.2

pub cube_of : (s : Sort) (c : List Lit) → IsPrimitiveCube s c → IsCube s c
cube_of s [] k = tt
cube_of s (l ∷ c) k = (k.0.0, cube_of s c k.2)

-- ---- refusals

-- a literal that does not fit is among all
pub lit_refused : (out new old now : List Lit) (m : Lit) (rest all : List Lit) (e : Short Wide) → AddsLit out new m (Err e) → first_past (cube_numbers (m ∷ rest)) ≡ first_past (cube_numbers all) → AddsCube old now all (Err e)
lit_refused out new old now m rest all (short.Fault w) h p = past_here (lit_numbers m) (cube_numbers rest) (cube_numbers all) w.number h p
lit_refused out new old now m rest all short.Memory h p = tt

-- the numbers of cubes in parts
pub numbers-append : (c d : List Lit) → cube_numbers (c ++ d) ≡ cube_numbers c ++ cube_numbers d
numbers-append [] d = refl
numbers-append (l ∷ c) d = ap (λ ns. lit_numbers l ++ ns) (numbers-append c d) ∙ sym (append_assoc (lit_numbers l) (cube_numbers c) (cube_numbers d))

-- several literals at once
pub cube_added : (out all part rest new : List Lit) → out ++ (part ++ rest) ≡ all → new ≡ out ++ part → new ++ rest ≡ all
cube_added out all part rest new e m = ap (λ us. us ++ rest) m ∙ append_assoc out part rest ∙ e

pub cube_past : (part rest all : List Lit) → first_past (cube_numbers part) ≡ None → first_past (cube_numbers (part ++ rest)) ≡ first_past (cube_numbers all) → first_past (cube_numbers rest) ≡ first_past (cube_numbers all)
cube_past part rest all n e = past_more (cube_numbers part) (cube_numbers rest) (cube_numbers all) n (ap first_past (sym (numbers-append part rest)) ∙ e)

pub cube_refused : {A : Type 0} (out new part rest all : List Lit) (value : A) (e : Short Wide) → AddsCube out new part (Err e) → first_past (cube_numbers (part ++ rest)) ≡ first_past (cube_numbers all) → Capped {A = A} (cube_numbers all) value (Err e)
cube_refused out new part rest all value (short.Fault w) h p =
    past_here (cube_numbers part) (cube_numbers rest) (cube_numbers all) w.number h (ap first_past (sym (numbers-append part rest)) ∙ p)
cube_refused out new part rest all value short.Memory h p = tt

-- ---- cases one after the other

pub case_more : (cs : List (List Lit)) (i : ℕ) (all : List ℤ) → i < length cs → first_past (cube_numbers (get_or cs i [])) ≡ None → first_past (flat_map cube_numbers (drop i cs)) ≡ first_past all → first_past (flat_map cube_numbers (drop (i + 1) cs)) ≡ first_past all
case_more cs i all h n e =
    past_more (cube_numbers (get_or cs i [])) (flat_map cube_numbers (drop (i + 1) cs)) all n (ap (λ (us : List (List Lit)). first_past (flat_map cube_numbers us)) (sym (drop_more cs i [] h)) ∙ e)

pub case_refused : {A B : Type 0} (cs : List (List Lit)) (i : ℕ) (all : List ℤ) (was : A) (value : B) (e : Short Wide) → i < length cs → Capped {A = A} (cube_numbers (get_or cs i [])) was (Err e) → first_past (flat_map cube_numbers (drop i cs)) ≡ first_past all → Capped {A = B} all value (Err e)
case_refused cs i all was value (short.Fault w) h n e =
    past_here (cube_numbers (get_or cs i [])) (flat_map cube_numbers (drop (i + 1) cs)) all w.number n (ap (λ (us : List (List Lit)). first_past (flat_map cube_numbers us)) (sym (drop_more cs i [] h)) ∙ e)
case_refused cs i all was value short.Memory h n e = tt

pub case_added : (cs out new : List (List Lit)) (l : List Lit) (i : ℕ) → i < length cs → out ++ drop i cs ≡ cs → new ≡ out ++ l ∷ [] → l ≡ get_or cs i [] → new ++ drop (i + 1) cs ≡ cs
case_added cs out new l i h e m q =
    added out cs (drop (i + 1) cs) new (get_or cs i []) (ap (λ us. out ++ us) (sym (drop_more cs i [] h)) ∙ e) (m ∙ ap (λ y. out ++ y ∷ []) q)
