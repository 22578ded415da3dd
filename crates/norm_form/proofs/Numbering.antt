-- The numbered normal form says what the normal form says, and its numbers are 0, 1, 2 and so on in preorder.
use Rattle.std.specs.Prelude.{ℕ, zero, suc, ◌+◌, ◌≡◌, ◌<◌, ℤ, List, [], ◌∷◌, ◌++◌, length, get_or, Bool, true, false, cond, eqb}
use Rattle.std.proofs.Common.{arith, ap, ap₂, ◌∙◌, sym, subst, refl, length-append, eqb-true}
use Rattle.std.proofs.lemmas.Bool.{eqb-false}
use Rattle.lin_term.specs.declared.Sort.{Sort}
use Rattle.lin_term.specs.Linear.{Form, BelowTerms, Below, rename_terms, rename, origin}
use Rattle.lin_term.specs.declared.Lit.{Lit}
use Rattle.lin_term.specs.declared.Lit.TheVariants.{AtLeast, Above, Divides, NotDivides}
use Rattle.lin_term.specs.Literal.{form_of, rename_lit}
use Rattle.lin_truth.specs.declared.term.VarSort.{VarSort}
use Rattle.lin_truth.specs.Term.{Term, exists_of}
use Rattle.lin_truth.specs.Truth.{True, Same}
use Rattle.lin_truth.specs.Formed.{IsFormula, append_all}
use Rattle.norm_form.specs.Normal.{Normal, one_lit, each_of, some_of, for_all, there_is, Normals, no_part, part, IsNormal, AreNormal, TrueN}
use Rattle.norm_form.specs.Norm.{normal_of}
use Rattle.norm_form.specs.Numbered.{binders, all_binders, numbered, numbered_parts, numbered_of, place_of, placed_terms, placed_form, placed_lit, unnumbered, unnumbered_parts, TrueNumbered, numbers_in, numbers_in_all, count_from}
use Rattle.norm_form.proofs.Ascending.{Ascends, AllBelow, ascends_get, push_ascends, below_push, below_suc}
use Rattle.norm_form.proofs.Fitting.{goal_fits, goal_is_normal}

cond_no : (b : Bool) (x y : ℕ) → (b ≡ true → ⊥) → cond b x y ≡ y
cond_no true x y h = absurd (h refl)
cond_no false x y h = refl

cond_yes : (b : Bool) (x y : ℕ) → (b ≡ false → ⊥) → cond b x y ≡ x
cond_yes true x y h = refl
cond_yes false x y h = absurd (h refl)

place_get : (lo : ℕ) (names : List ℕ) (i : ℕ) → Ascends lo names → i < length names → place_of names (get_or names i 0) ≡ i
place_get lo [] i a h = absurd (omega arith)
place_get lo (n ∷ ns) zero a h = cond_yes (eqb n n) 0 (suc (place_of ns n)) (λ e. eqb-false n n e refl)
place_get lo (n ∷ ns) (suc i) a h =
    let g = ascends_get (n + 1) ns i a.1 (omega arith) in
    cond_no (eqb n (get_or ns i 0)) 0 (suc (place_of ns (get_or ns i 0))) (λ e. let q = eqb-true n (get_or ns i 0) e in absurd (omega arith))
    ∙ ap suc (place_get (n + 1) ns i a.1 (omega arith))

placed_back : (names : List ℕ) (ts : List (ℕ × ℤ)) → Ascends 0 names → BelowTerms (length names) ts → placed_terms names (rename_terms names ts) ≡ ts
placed_back names [] a b = refl
placed_back names (t ∷ ts) a b = ap₂ (λ (n : ℕ) (us : List (ℕ × ℤ)). (n, t.1) ∷ us) (place_get 0 names t.0 a b.0) (placed_back names ts a b.1)

abbrev with : ℤ → List (ℕ × ℤ) → Form
with c ts = record { terms = ts; constant = c }

form_back : (names : List ℕ) (f : Form) → Ascends 0 names → Below (length names) f → placed_form names (rename names f) ≡ f
form_back names f a b = ap (λ (ts : List (ℕ × ℤ)). with f.constant ts) (placed_back names f.terms a b)

lit_back : (names : List ℕ) (l : Lit) → Ascends 0 names → Below (length names) (form_of l) → placed_lit names (rename_lit names l) ≡ l
lit_back names (AtLeast f) a b = ap (λ (g : Form). AtLeast g) (form_back names f a b)
lit_back names (Above f) a b = ap (λ (g : Form). Above g) (form_back names f a b)
lit_back names (Divides d f) a b = ap (λ (g : Form). Divides d g) (form_back names f a b)
lit_back names (NotDivides d f) a b = ap (λ (g : Form). NotDivides d g) (form_back names f a b)

below_more : (n m : ℕ) (is : List ℕ) → AllBelow n is → AllBelow (n + m) is
below_more n m [] b = tt
below_more n m (i ∷ is) b = ((let l = b.0 in omega arith), below_more n m is b.1)

longer : (n : Normal) (s : Sort) (names : List ℕ) (k : ℕ) → IsNormal n s (suc (length names)) → IsNormal n s (length (names ++ k ∷ []))
longer n s names k h =
    subst (λ (m : ℕ). IsNormal n s m) (let e = length-append names (k ∷ []) in let l : suc (length names) ≡ length (names ++ k ∷ []) = omega arith in l) h

mutual
  pub numbered_back : (n : Normal) (s : Sort) (next : ℕ) (names : List ℕ) → Ascends 0 names → AllBelow next names → IsNormal n s (length names) → unnumbered (numbered n next names) names ≡ n
  numbered_back (one_lit l) s next names a b o = ap (λ (k : Lit). one_lit k) (lit_back names l a o.1)
  numbered_back (each_of ns) s next names a b o = ap (λ (ms : Normals). each_of ms) (parts_back ns s next names a b o)
  numbered_back (some_of ns) s next names a b o = ap (λ (ms : Normals). some_of ms) (parts_back ns s next names a b o)
  numbered_back (for_all n) s next names a b o =
      ap (λ (m : Normal). for_all m) (numbered_back n s (suc next) (names ++ next ∷ []) (push_ascends 0 names next a b (omega arith)) (below_push (suc next) names next (below_suc next names b) (omega arith)) (longer n s names next o))
  numbered_back (there_is n) s next names a b o =
      ap (λ (m : Normal). there_is m) (numbered_back n s (suc next) (names ++ next ∷ []) (push_ascends 0 names next a b (omega arith)) (below_push (suc next) names next (below_suc next names b) (omega arith)) (longer n s names next o))

  pub parts_back : (ns : Normals) (s : Sort) (next : ℕ) (names : List ℕ) → Ascends 0 names → AllBelow next names → AreNormal ns s (length names) → unnumbered_parts (numbered_parts ns next names) names ≡ ns
  parts_back no_part s next names a b o = refl
  parts_back (part n ns) s next names a b o =
      ap₂ (λ (m : Normal) (ms : Normals). part m ms) (numbered_back n s next names a b o.0) (parts_back ns s (next + binders n) names a (below_more next (binders n) names b) o.1)

-- ---- the numbers are in preorder

append_none : (is : List ℕ) → is ++ [] ≡ is
append_none [] = refl
append_none (i ∷ is) = ap (λ (js : List ℕ). i ∷ js) (append_none is)

count_more : (n a b : ℕ) → count_from n a ++ count_from (n + a) b ≡ count_from n (a + b)
count_more n zero b = ap₂ (λ (i j : ℕ). count_from i j) (let e : n + 0 ≡ n = omega arith in e) (let e : b ≡ 0 + b = omega arith in e)
count_more n (suc a) b =
    ap (λ (i : ℕ). n ∷ (count_from (suc n) a ++ count_from i b)) (let e : n + suc a ≡ suc n + a = omega arith in e)
    ∙ (ap (λ (js : List ℕ). n ∷ js) (count_more (suc n) a b)
    ∙ ap (λ (i : ℕ). count_from n i) (let e : suc (a + b) ≡ suc a + b = omega arith in e))

mutual
  pub numbers_are : (n : Normal) (next : ℕ) (names : List ℕ) → numbers_in (numbered n next names) ≡ count_from next (binders n)
  numbers_are (one_lit l) next names = refl
  numbers_are (each_of ns) next names = all_numbers_are ns next names
  numbers_are (some_of ns) next names = all_numbers_are ns next names
  numbers_are (for_all n) next names = ap (λ (js : List ℕ). next ∷ js) (numbers_are n (suc next) (names ++ next ∷ []))
  numbers_are (there_is n) next names = ap (λ (js : List ℕ). next ∷ js) (numbers_are n (suc next) (names ++ next ∷ []))

  pub all_numbers_are : (ns : Normals) (next : ℕ) (names : List ℕ) → numbers_in_all (numbered_parts ns next names) ≡ count_from next (all_binders ns)
  all_numbers_are no_part next names = refl
  all_numbers_are (part n ns) next names =
      ap₂ (λ (is js : List ℕ). is ++ js) (numbers_are n next names) (all_numbers_are ns (next + binders n) names) ∙ count_more next (binders n) (all_binders ns)

-- ---- of a goal

pub numbered_same : (s : Sort) (consts : List VarSort) (body : Term) → IsFormula body s (append_all [] consts) → unnumbered (numbered_of s consts body) [] ≡ normal_of s consts body
numbered_same s consts body f = numbered_back (normal_of s consts body) s 0 [] tt tt (goal_fits s consts body f)

pub numbered_is_true : (s : Sort) (consts : List VarSort) (body : Term) → IsFormula body s (append_all [] consts) → Same (True (exists_of consts body) s []) (TrueNumbered (numbered_of s consts body) s)
numbered_is_true s consts body f =
    subst (λ (n : Normal). Same (True (exists_of consts body) s []) (TrueN n s origin)) (sym (numbered_same s consts body f)) (goal_is_normal s consts body f)
