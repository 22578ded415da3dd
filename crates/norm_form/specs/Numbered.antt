-- The normal form with its binders numbered in preorder, as it is public.
use Rattle.std.specs.Prelude.{ℕ, zero, suc, ◌+◌, ◌<◌, ◌≡◌, ◌^◌, ℤ, List, [], ◌∷◌, ◌++◌, cond, nat_eq, length, ⊤}
use Rattle.lin_term.specs.declared.Sort.{Sort}
use Rattle.lin_term.specs.Linear.{Form, Below, origin}
use Rattle.lin_term.specs.Rising.{IsRisingAt}
use Rattle.lin_term.specs.declared.Lit.{Lit}
use Rattle.lin_term.specs.declared.Lit.TheVariants.{AtLeast, Above, Divides, NotDivides}
use Rattle.lin_term.specs.Literal.{form_of, rename_lit}
use Rattle.lin_truth.specs.declared.term.VarSort.{VarSort}
use Rattle.lin_truth.specs.Term.{Term}
use Rattle.norm_form.specs.Normal.{Normal, one_lit, each_of, some_of, for_all, there_is, Normals, no_part, part, TrueN}
use Rattle.norm_form.specs.Norm.{normal_of}

mutual
  pub data Numbered : Type 0 where
    n_lit : Lit → Numbered
    n_and : Numbereds → Numbered
    n_or : Numbereds → Numbered
    n_forall : ℕ → Numbered → Numbered
    n_exists : ℕ → Numbered → Numbered

  pub data Numbereds : Type 0 where
    n_none : Numbereds
    n_more : Numbered → Numbereds → Numbereds

abbrev mutual
  pub binders : Normal → ℕ
  binders (one_lit l) = 0
  binders (each_of ns) = all_binders ns
  binders (some_of ns) = all_binders ns
  binders (for_all n) = suc (binders n)
  binders (there_is n) = suc (binders n)

  pub all_binders : Normals → ℕ
  all_binders no_part = 0
  all_binders (part n ns) = binders n + all_binders ns

-- names are the numbers of the binders on the path; the next binder has the number next
abbrev mutual
  pub numbered : Normal → ℕ → List ℕ → Numbered
  numbered (one_lit l) next names = n_lit (rename_lit names l)
  numbered (each_of ns) next names = n_and (numbered_parts ns next names)
  numbered (some_of ns) next names = n_or (numbered_parts ns next names)
  numbered (for_all n) next names = n_forall next (numbered n (suc next) (names ++ next ∷ []))
  numbered (there_is n) next names = n_exists next (numbered n (suc next) (names ++ next ∷ []))

  pub numbered_parts : Normals → ℕ → List ℕ → Numbereds
  numbered_parts no_part next names = n_none
  numbered_parts (part n ns) next names = n_more (numbered n next names) (numbered_parts ns (next + binders n) names)

abbrev pub numbered_of : Sort → List VarSort → Term → Numbered
numbered_of s consts body = numbered (normal_of s consts body) 0 []

-- ---- what it says: the variable i has the value of the binder i on the path

-- the place of the number i
abbrev pub place_of : List ℕ → ℕ → ℕ
place_of [] i = 0
place_of (n ∷ ns) i = cond (nat_eq n i) 0 (suc (place_of ns i))

abbrev pub placed_terms : List ℕ → List (ℕ × ℤ) → List (ℕ × ℤ)
placed_terms path [] = []
placed_terms path (t ∷ ts) = (place_of path t.0, t.1) ∷ placed_terms path ts

abbrev pub placed_form : List ℕ → Form → Form
placed_form path f = record { terms = placed_terms path f.terms; constant = f.constant }

abbrev pub placed_lit : List ℕ → Lit → Lit
placed_lit path (AtLeast f) = AtLeast (placed_form path f)
placed_lit path (Above f) = Above (placed_form path f)
placed_lit path (Divides d f) = Divides d (placed_form path f)
placed_lit path (NotDivides d f) = NotDivides d (placed_form path f)

abbrev mutual
  pub unnumbered : Numbered → List ℕ → Normal
  unnumbered (n_lit l) path = one_lit (placed_lit path l)
  unnumbered (n_and ns) path = each_of (unnumbered_parts ns path)
  unnumbered (n_or ns) path = some_of (unnumbered_parts ns path)
  unnumbered (n_forall i n) path = for_all (unnumbered n (path ++ i ∷ []))
  unnumbered (n_exists i n) path = there_is (unnumbered n (path ++ i ∷ []))

  pub unnumbered_parts : Numbereds → List ℕ → Normals
  unnumbered_parts n_none path = no_part
  unnumbered_parts (n_more n ns) path = part (unnumbered n path) (unnumbered_parts ns path)

abbrev pub TrueNumbered : Numbered → Sort → Type 0
TrueNumbered n s = TrueN (unnumbered n []) s origin

-- ---- the numbers of the binders in preorder
abbrev mutual
  pub numbers_in : Numbered → List ℕ
  numbers_in (n_lit l) = []
  numbers_in (n_and ns) = numbers_in_all ns
  numbers_in (n_or ns) = numbers_in_all ns
  numbers_in (n_forall i n) = i ∷ numbers_in n
  numbers_in (n_exists i n) = i ∷ numbers_in n

  pub numbers_in_all : Numbereds → List ℕ
  numbers_in_all n_none = []
  numbers_in_all (n_more n ns) = numbers_in n ++ numbers_in_all ns

-- k numbers from n on
abbrev pub count_from : ℕ → ℕ → List ℕ
count_from n zero = []
count_from n (suc k) = n ∷ count_from (suc n) k

-- the binders have the numbers 0, 1, 2 and so on in preorder
abbrev pub IsInPreorder : Numbered → Type 0
IsInPreorder n = numbers_in n ≡ count_from 0 (length (numbers_in n))

-- ---- each literal speaks of its path, whose names ascend, and no number reaches 1,024
abbrev mutual
  pub CanNumber : Normal → ℕ → List ℕ → Type 0
  CanNumber (one_lit l) next names = Below (length names) (form_of l) × IsRisingAt names (form_of l).terms (2 ^ 20)
  CanNumber (each_of ns) next names = CanNumberAll ns next names
  CanNumber (some_of ns) next names = CanNumberAll ns next names
  CanNumber (for_all n) next names = (next < 1024) × CanNumber n (suc next) (names ++ next ∷ [])
  CanNumber (there_is n) next names = (next < 1024) × CanNumber n (suc next) (names ++ next ∷ [])

  pub CanNumberAll : Normals → ℕ → List ℕ → Type 0
  CanNumberAll no_part next names = ⊤
  CanNumberAll (part n ns) next names = CanNumber n next names × CanNumberAll ns (next + binders n) names
