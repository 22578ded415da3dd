-- Lists of literals without repeats: by the places of what is new, and with the numbers of the whole list.
use Rattle.std.specs.Prelude.{ℕ, suc, ◌+◌, ◌<◌, ◌≡◌, ℤ, Bool, true, false, not, ◌||◌, cond, if◌then◌else◌, Option, Some, None, Result, Ok, Err, IfOk, OnOk, List, [], ◌∷◌, ◌++◌, length, get_or, drop}
use Rattle.std.specs.List.{list_any, list_all}
use Rattle.std.specs.BTreeSet.{BTreeSet, contains, Updates}
use Rattle.std.specs.Ordering.{is_eq}
use Rattle.std.proofs.Common.{arith, ap, ap₂, ◌∙◌, sym, refl}
use Rattle.std.proofs.lemmas.List.Folds.{list_any-append}
use Rattle.lin_term.specs.declared.Lit.{Lit}
use Rattle.lin_term.specs.Order.{literal_cmp}
use Rattle.lin_term.specs.Same.{same_literal}
use Rattle.lin_term.specs.Wide.{first_past, lit_numbers}
use Rattle.lin_term.proofs.Capping.{past-append, past-append_some, past-append_left}
use Rattle.lin_term.proofs.Comparing.{literal_decides}
use Rattle.dom_core.specs.declared.key.Key.{Key}
use Rattle.dom_core.specs.Distinct.{HasLits, new_places, at_places}
use Rattle.dom_core.specs.Elimination.{cube_numbers}
use Rattle.dom_core.specs.PutMove.{with_new}
use Rattle.dom_core.proofs.AddingLemmas.{append_assoc, append_none, numbers-append, split_at}
use Rattle.dom_core.proofs.Reducing.{past_right}
use Rattle.dom_core.specs.Ties.{same_ties, literal_equiv}

-- ---- the set

pub fresh_literal : {E : Type 0} (r : Result Bool E) (had is : Bool) → had ≡ is → IfOk r (λ fresh. fresh ≡ not had) → IfOk r (λ fresh. fresh ≡ not is)
fresh_literal (Ok b) had is e h = h ∙ ap not e
fresh_literal (Err f) had is e h = tt

or_last : (a b : Bool) → cond a true b ≡ (b || (a || false))
or_last true true = refl
or_last true false = refl
or_last false true = refl
or_last false false = refl

-- one more literal
pub set_grown : {E : Type 0} (r : Result Bool E) (old new : BTreeSet Key) (key : Key) (c : List Lit) → OnOk r (Updates (λ a b. literal_cmp a.lit.now b.lit.now) old new key true) → HasLits old c → OnOk r (HasLits new (c ++ key.lit.now ∷ []))
set_grown (Err f) old new key c u h = tt
set_grown (Ok b) old new key c u h = λ k.
    let at : is_eq (literal_cmp key.lit.now k.lit.now) ≡ same_literal k.lit.now key.lit.now = sym (same_ties key.lit.now k.lit.now) ∙ literal_equiv.symm key.lit.now k.lit.now in
    u.0 k ∙ ap (λ t. cond t true (contains (λ a b. literal_cmp a.lit.now b.lit.now) old k)) at
    ∙ ap (cond (same_literal k.lit.now key.lit.now) true) (h k)
    ∙ or_last (same_literal k.lit.now key.lit.now) (list_any (same_literal k.lit.now) c)
    ∙ sym (list_any-append (same_literal k.lit.now) c (key.lit.now ∷ []))

-- ---- places

pub length_places : (c ls : List Lit) → length (new_places c ls) ≡ length ls
length_places c [] = refl
length_places c (l ∷ ls) = ap suc (length_places (c ++ l ∷ []) ls)

pub all_places : (bs : List Bool) (ls : List Lit) → list_all (λ b. b) bs ≡ true → length bs ≡ length ls → at_places bs ls ≡ ls
all_places [] [] e n = refl
all_places [] (l ∷ ls) e n = absurd (omega arith)
all_places (b ∷ bs) [] e n = absurd (omega arith)
all_places (true ∷ bs) (l ∷ ls) e n = ap (λ us. l ∷ us) (all_places bs ls e (omega arith))
all_places (false ∷ bs) (l ∷ ls) e n = absurd (cc)

-- one more place
pub places_more : (places new : List Bool) (met more : List Lit) (i : ℕ) (l : Lit) (b : Bool) (all : List Bool) → i < length more → l ≡ get_or more i l → b ≡ not (list_any (same_literal l) met) → new ≡ places ++ b ∷ [] → places ++ new_places met (drop i more) ≡ all → new ++ new_places (met ++ l ∷ []) (drop (i + 1) more) ≡ all
places_more places new met more i l b all h e f p r =
    let rest : List Bool = new_places (met ++ l ∷ []) (drop (i + 1) more) in
    ap (λ (bs : List Bool). bs ++ rest) p ∙ append_assoc places (b ∷ []) rest ∙ ap (λ (t : Bool). places ++ t ∷ rest) f
    ∙ sym (ap (λ (us : List Lit). places ++ new_places met us) (split_at more i l h e)) ∙ r

-- one literal more
pub places_split : (bs : List Bool) (ls : List Lit) (i : ℕ) (b : Bool) (l : Lit) → i < length ls → length bs ≡ length ls → b ≡ get_or bs i b → l ≡ get_or ls i l → at_places (drop i bs) (drop i ls) ≡ at_places (b ∷ []) (l ∷ []) ++ at_places (drop (i + 1) bs) (drop (i + 1) ls)
places_split bs ls i b l h n e f = ap₂ (λ (cs : List Bool) (us : List Lit). at_places cs us) (split_at bs i b (omega arith) e) (split_at ls i l h f) ∙ by b
  where
    by : (t : Bool) → (if t then l ∷ at_places (drop (i + 1) bs) (drop (i + 1) ls) else at_places (drop (i + 1) bs) (drop (i + 1) ls)) ≡ (if t then l ∷ [] else []) ++ at_places (drop (i + 1) bs) (drop (i + 1) ls)
    by true = refl
    by false = refl

abbrev Alike : List Lit → List Lit → Type 0
Alike c d = (k : Lit) → list_any (same_literal k) c ≡ list_any (same_literal k) d

or_none : (b : Bool) → (b || false) ≡ b
or_none true = refl
or_none false = refl

or_true : (b : Bool) → (b || true) ≡ true
or_true true = refl
or_true false = refl

any_one : (k l : Lit) → list_any (same_literal k) (l ∷ []) ≡ same_literal k l
any_one k l = or_none (same_literal k l)

-- where a literal is there already, it changes nothing
alike_old : (c d : List Lit) (l : Lit) → Alike c d → list_any (same_literal l) c ≡ true → Alike c (d ++ l ∷ [])
alike_old c d l a e = λ k. by k (same_literal k l) refl
  where
    by : (k : Lit) (b : Bool) → same_literal k l ≡ b → list_any (same_literal k) c ≡ list_any (same_literal k) (d ++ l ∷ [])
    by k true q =
        let s : k ≡ l = (literal_decides k l).0 q in
        ap (λ (m : Lit). list_any (same_literal m) c) s ∙ e
        ∙ sym (list_any-append (same_literal k) d (l ∷ []) ∙ ap (λ t. list_any (same_literal k) d || t) (any_one k l ∙ q) ∙ or_true (list_any (same_literal k) d))
    by k false q =
        a k ∙ sym (list_any-append (same_literal k) d (l ∷ []) ∙ ap (λ t. list_any (same_literal k) d || t) (any_one k l ∙ q) ∙ or_none (list_any (same_literal k) d))

alike_new : (c d : List Lit) (l : Lit) → Alike c d → Alike (c ++ l ∷ []) (d ++ l ∷ [])
alike_new c d l a = λ k.
    list_any-append (same_literal k) c (l ∷ []) ∙ ap (λ t. t || list_any (same_literal k) (l ∷ [])) (a k) ∙ sym (list_any-append (same_literal k) d (l ∷ []))

new_from : (c d ls : List Lit) → Alike c d → with_new c ls ≡ c ++ at_places (new_places d ls) ls
new_from c d [] a = sym (append_none c)
new_from c d (l ∷ ls) a = by (list_any (same_literal l) c) refl (sym (a l)) (λ h. new_from c (d ++ l ∷ []) ls h) (λ h. new_from (c ++ l ∷ []) (d ++ l ∷ []) ls h)
  where
    by : (b : Bool) → list_any (same_literal l) c ≡ b → list_any (same_literal l) d ≡ list_any (same_literal l) c
        → (Alike c (d ++ l ∷ []) → with_new c ls ≡ c ++ at_places (new_places (d ++ l ∷ []) ls) ls)
        → (Alike (c ++ l ∷ []) (d ++ l ∷ []) → with_new (c ++ l ∷ []) ls ≡ (c ++ l ∷ []) ++ at_places (new_places (d ++ l ∷ []) ls) ls)
        → with_new (if b then c else c ++ l ∷ []) ls ≡ c ++ at_places (not (list_any (same_literal l) d) ∷ new_places (d ++ l ∷ []) ls) (l ∷ ls)
    by true q s f g =
        f (alike_old c d l a q) ∙ ap (λ (t : Bool). c ++ (if not t then l ∷ at_places (new_places (d ++ l ∷ []) ls) ls else at_places (new_places (d ++ l ∷ []) ls) ls)) (sym (s ∙ q))
    by false q s f g =
        g (alike_new c d l a) ∙ append_assoc c (l ∷ []) (at_places (new_places (d ++ l ∷ []) ls) ls)
        ∙ ap (λ (t : Bool). c ++ (if not t then l ∷ at_places (new_places (d ++ l ∷ []) ls) ls else at_places (new_places (d ++ l ∷ []) ls) ls)) (sym (s ∙ q))

pub new_by_places : (c ls : List Lit) → with_new c ls ≡ c ++ at_places (new_places c ls) ls
new_by_places c ls = new_from c c ls (λ k. refl)

pub all_are_new : (c ls new : List Lit) (bs : List Bool) → bs ≡ new_places c ls → list_all (λ b. b) bs ≡ true → new ≡ c ++ ls → new ≡ with_new c ls
all_are_new c ls new bs e t n =
    n ∙ ap (λ (us : List Lit). c ++ us) (sym (all_places bs ls t (ap (λ (cs : List Bool). length cs) e ∙ length_places c ls)))
    ∙ ap (λ (cs : List Bool). c ++ at_places cs ls) e ∙ sym (new_by_places c ls)

pub some_are_new : (c ls new : List Lit) (bs : List Bool) → bs ≡ new_places c ls → new ≡ c ++ at_places bs ls → new ≡ with_new c ls
some_are_new c ls new bs e n = n ∙ ap (λ (cs : List Bool). c ++ at_places cs ls) e ∙ sym (new_by_places c ls)

pub as_many : (c ls : List Lit) (bs : List Bool) → bs ≡ new_places c ls → length bs ≡ length ls
as_many c ls bs e = ap (λ (cs : List Bool). length cs) e ∙ length_places c ls

-- ---- numbers

found_fits : (l : Lit) (c : List Lit) → list_any (same_literal l) c ≡ true → first_past (cube_numbers c) ≡ None → first_past (lit_numbers l) ≡ None
found_fits l [] e h = absurd (cc)
found_fits l (m ∷ ms) e h = by (same_literal l m) refl e (λ q. found_fits l ms q (past_right (lit_numbers m) (cube_numbers ms) h))
  where
    by : (b : Bool) → same_literal l m ≡ b → (b || list_any (same_literal l) ms) ≡ true → (list_any (same_literal l) ms ≡ true → first_past (lit_numbers l) ≡ None) → first_past (lit_numbers l) ≡ None
    by true q e k = ap (λ (n : Lit). first_past (lit_numbers n)) ((literal_decides l m).0 q) ∙ past-append_left (lit_numbers m) (cube_numbers ms) h
    by false q e k = k e

-- a number past the cap in a repeated literal is not the first
pub new_past : (c ls : List Lit) → first_past (cube_numbers (with_new c ls)) ≡ first_past (cube_numbers (c ++ ls))
new_past c [] = ap (λ (us : List Lit). first_past (cube_numbers us)) (sym (append_none c))
new_past c (l ∷ ls) = by (list_any (same_literal l) c) refl (new_past c ls) (new_past (c ++ l ∷ []) ls)
  where
    skip : (o : Option ℤ) → first_past (cube_numbers c) ≡ o → list_any (same_literal l) c ≡ true → first_past (cube_numbers (c ++ ls)) ≡ first_past (cube_numbers (c ++ l ∷ ls))
    skip (Some z) h q =
        ap first_past (numbers-append c ls) ∙ past-append_some (cube_numbers c) (cube_numbers ls) z h
        ∙ sym (ap first_past (numbers-append c (l ∷ ls)) ∙ past-append_some (cube_numbers c) (cube_numbers (l ∷ ls)) z h)
    skip None h q =
        ap first_past (numbers-append c ls) ∙ past-append (cube_numbers c) (cube_numbers ls) h
        ∙ sym (ap first_past (numbers-append c (l ∷ ls)) ∙ past-append (cube_numbers c) (cube_numbers (l ∷ ls)) h ∙ past-append (lit_numbers l) (cube_numbers ls) (found_fits l c q h))

    by : (b : Bool) → list_any (same_literal l) c ≡ b → first_past (cube_numbers (with_new c ls)) ≡ first_past (cube_numbers (c ++ ls)) → first_past (cube_numbers (with_new (c ++ l ∷ []) ls)) ≡ first_past (cube_numbers ((c ++ l ∷ []) ++ ls))
        → first_past (cube_numbers (with_new (if b then c else c ++ l ∷ []) ls)) ≡ first_past (cube_numbers (c ++ l ∷ ls))
    by true q h k = h ∙ skip (first_past (cube_numbers c)) refl q
    by false q h k = k ∙ ap (λ (us : List Lit). first_past (cube_numbers us)) (append_assoc c (l ∷ []) ls)
