-- Marks at the places of a list, one after the other.
use Rattle.std.specs.Prelude.{ℕ, ℤ, pos, map, zero, suc, ◌+◌, ◌<◌, ◌≤◌, ◌≡◌, ◌≢◌, nat_eq, Bool, true, false, ◌||◌, List, [], ◌∷◌, ◌++◌, length, get_or, set, drop, take}
use Rattle.std.specs.List.{list_any, flat_map}
use Rattle.std.proofs.Common.{arith, ap, ◌∙◌, sym, subst, refl, inl, inr, eq-eqb, length-append}
use Rattle.std.proofs.lemmas.Bool.{eqb-true, cases_eq}
use Rattle.std.proofs.lemmas.List.{get_or-set_same, get_or-set_other, length-set, drop_more, take_more}
use Rattle.cube_rules.specs.declared.Step.{Step}
use Rattle.strat_trim.specs.Marked.{Marks, HasMarks, IsUnmarked}
use Rattle.strat_trim.specs.Trimmed.{marked}

or_right : (a : Bool) → a ≡ (a || false)
or_right true = refl
or_right false = refl

or_assoc : (a b c : Bool) → ((a || b) || c) ≡ (a || (b || c))
or_assoc true b c = refl
or_assoc false b c = refl

any_append : (i : ℕ) (xs ys : List ℕ) → list_any (nat_eq i) (xs ++ ys) ≡ (list_any (nat_eq i) xs || list_any (nat_eq i) ys)
any_append i [] ys = refl
any_append i (x ∷ xs) ys = ap (λ (b : Bool). nat_eq i x || b) (any_append i xs ys) ∙ sym (or_assoc (nat_eq i x) (list_any (nat_eq i) xs) (list_any (nat_eq i) ys))

pub marks_none : (b : List Bool) → Marks [] b b
marks_none b = (refl, λ i l. or_right (marked b i))

pub marks_then : (xs ys : List ℕ) (a b c : List Bool) → Marks xs a b → Marks ys b c → Marks (xs ++ ys) a c
marks_then xs ys a b c m n = (
  n.0 ∙ m.0,
  λ i l.
      let p = m.0 in
      n.1 i (omega arith)
      ∙ ap (λ (x : Bool). x || list_any (nat_eq i) ys) (m.1 i l)
      ∙ or_assoc (marked a i) (list_any (nat_eq i) xs) (list_any (nat_eq i) ys)
      ∙ ap (λ (x : Bool). marked a i || x) (sym (any_append i xs ys)),
)

eqb_other : (i j : ℕ) → i ≢ j → nat_eq i j ≡ false
eqb_other i j n = by (nat_eq i j) refl
  where
    by : (b : Bool) → nat_eq i j ≡ b → b ≡ false
    by true e = absurd (n (eqb-true i j e))
    by false e = refl

or_true : (a : Bool) → true ≡ (a || true)
or_true true = refl
or_true false = refl

pub marks_set : (b : List Bool) (j : ℕ) → j < length b → Marks (j ∷ []) b (set b j true)
marks_set b j l = (
  length-set b j true,
  λ i u. elim (cases_eq i j) [
    | inl e ↦
        ap (marked (set b j true)) e ∙ get_or-set_same b j true false l
        ∙ or_true (marked b i)
        ∙ ap (λ (x : Bool). marked b i || (x || false)) (sym (eq-eqb i j e))
    | inr n ↦
        get_or-set_other b j i true false n
        ∙ or_right (marked b i)
        ∙ ap (λ (x : Bool). marked b i || (x || false)) (sym (eqb_other i j n))
  ],
)

pub marks_past : (b : List Bool) (j : ℕ) → length b ≤ j → Marks (j ∷ []) b b
marks_past b j l = (
  refl,
  λ i u. or_right (marked b i) ∙ ap (λ (x : Bool). marked b i || (x || false)) (sym (eqb_other i j (λ e. omega arith))),
)

-- what marks the rest of the places marks all of them
abbrev pub Marking : List ℕ → List ℕ → List Bool → List Bool → Type 0
Marking rest all old now = (new : List Bool) → Marks rest now new → Marks all old new

pub marking_more : (xs rest all : List ℕ) (old now next : List Bool) → Marking (xs ++ rest) all old now → Marks xs now next → Marking rest all old next
marking_more xs rest all old now next m n new r = m new (marks_then xs rest now next new n r)

pub marking_done : (all : List ℕ) (old now : List Bool) → Marking [] all old now → Marks all old now
marking_done all old now m = m now (marks_none now)

-- ---- marks that say what the lines name

-- the marks are those of the lines before
abbrev pub HasMarksOf : ℕ → (Step → List ℕ) → List Step → List Bool → Type 0
HasMarksOf count f steps marks = HasMarks count (λ i. list_any (λ l. list_any (nat_eq i) (f l)) steps) marks

any_push : (p : Step → Bool) (xs : List Step) (x : Step) → list_any p (xs ++ x ∷ []) ≡ (list_any p xs || p x)
any_push p [] x = sym (or_right (p x))
any_push p (y ∷ xs) x = ap (λ (b : Bool). p y || b) (any_push p xs x) ∙ sym (or_assoc (p y) (list_any p xs) (p x))

pub has_marks_more : (count : ℕ) (f : Step → List ℕ) (before : List Step) (x : Step) (now next : List Bool) → HasMarksOf count f before now → Marks (f x) now next → HasMarksOf count f (before ++ x ∷ []) next
has_marks_more count f before x now next h m = (
  m.0 ∙ h.0,
  λ i l.
      let p = h.0 in
      m.1 i (omega arith) ∙ ap (λ (b : Bool). b || list_any (nat_eq i) (f x)) (h.1 i l) ∙ sym (any_push (λ l. list_any (nat_eq i) (f l)) before x),
)

-- no mark at all
abbrev pub AllUnmarked : List Bool → Type 0
AllUnmarked b = (i : ℕ) → marked b i ≡ false

pub unmarked_push : (b : List Bool) → AllUnmarked b → AllUnmarked (b ++ false ∷ [])
unmarked_push [] u zero = refl
unmarked_push [] u (suc i) = refl
unmarked_push (x ∷ b) u zero = u 0
unmarked_push (x ∷ b) u (suc i) = unmarked_push b (λ j. u (suc j)) i

-- ---- the loops

pub mark_new : (b new : List Bool) (j : ℕ) → j < length b → new ≡ set b j true → Marks (j ∷ []) b new
mark_new b new j l e = subst (λ (x : List Bool). Marks (j ∷ []) b x) (sym e) (marks_set b j l)

pub marking_all : (all : List ℕ) (b : List Bool) → Marking all all b b
marking_all all b new m = m

-- the variables of the terms from place i on
pub terms_step : (ts : List (ℕ × ℤ)) (i : ℕ) (all : List ℕ) (old now next : List Bool) → Marking (map (λ t. t.0) (drop i ts)) all old now → i < length ts → Marks ((get_or ts i (0, pos 0)).0 ∷ []) now next → Marking (map (λ t. t.0) (drop (i + 1) ts)) all old next
terms_step ts i all old now next m l k =
    let t : ℕ × ℤ = get_or ts i (0, pos 0) in
    marking_more (t.0 ∷ []) (map (λ u. u.0) (drop (i + 1) ts)) all old now next
    (subst (λ (x : List (ℕ × ℤ)). Marking (map (λ u. u.0) x) all old now) (drop_more ts i (0, pos 0) l) m) k

pub terms_end : (ts : List (ℕ × ℤ)) (i : ℕ) (all : List ℕ) (old now : List Bool) → Marking (map (λ t. t.0) (drop i ts)) all old now → length ts ≤ i → Marks all old now
terms_end ts i all old now m l =
    marking_done all old now (subst (λ (x : List (ℕ × ℤ)). Marking (map (λ u. u.0) x) all old now) (drop_none ts i l) m)
  where
    drop_none : {A : Type 0} (xs : List A) (j : ℕ) → length xs ≤ j → drop j xs ≡ []
    drop_none [] zero h = refl
    drop_none [] (suc j) h = refl
    drop_none (x ∷ xs) zero h = absurd (omega arith)
    drop_none (x ∷ xs) (suc j) h = drop_none xs j (omega arith)

lits_end : {A : Type 0} (xs : List A) (j : ℕ) → length xs ≤ j → drop j xs ≡ []
lits_end [] zero h = refl
lits_end [] (suc j) h = refl
lits_end (x ∷ xs) zero h = absurd (omega arith)
lits_end (x ∷ xs) (suc j) h = lits_end xs j (omega arith)

-- the places that the items from place i on mark
pub items_step : {A : Type 0} (f : A → List ℕ) (xs : List A) (i : ℕ) (x : A) (all : List ℕ) (old now next : List Bool) → Marking (flat_map f (drop i xs)) all old now → i < length xs → x ≡ get_or xs i x → Marks (f x) now next → Marking (flat_map f (drop (i + 1) xs)) all old next
items_step f xs i x all old now next m l e k =
    marking_more (f x) (flat_map f (drop (i + 1) xs)) all old now next
    (subst (λ (y : _). Marking (f y ++ flat_map f (drop (i + 1) xs)) all old now) (sym e)
    (subst (λ (ys : List _). Marking (flat_map f ys) all old now) (drop_more xs i x l) m)) k

pub items_end : {A : Type 0} (f : A → List ℕ) (xs : List A) (i : ℕ) (all : List ℕ) (old now : List Bool) → Marking (flat_map f (drop i xs)) all old now → length xs ≤ i → Marks all old now
items_end f xs i all old now m l =
    marking_done all old now (subst (λ (ys : List _). Marking (flat_map f ys) all old now) (lits_end xs i l) m)

-- so many places without a mark
pub record Blank (n : ℕ) (b : List Bool) : Type 0 where
  pub long : length b ≡ n
  pub unmarked : AllUnmarked b

pub blank_none : Blank 0 []
blank_none = record { long = refl; unmarked = λ i. refl }

pub blank_more : (n : ℕ) (b new : List Bool) → Blank n b → new ≡ b ++ false ∷ [] → Blank (n + 1) new
blank_more n b new h e = record {
  long = let l = h.long in let a = ap length e in let c = length-append b (false ∷ []) in omega arith;
  unmarked = subst (λ (x : List Bool). AllUnmarked x) (sym e) (unmarked_push b h.unmarked);
}

pub blank_is : (n count : ℕ) (b : List Bool) → Blank n b → n ≡ count → IsUnmarked count b
blank_is n count b h e = (h.long ∙ e, λ i l. h.unmarked i)

pub no_marks : (count : ℕ) (f : Step → List ℕ) (b : List Bool) → IsUnmarked count b → HasMarksOf count f [] b
no_marks count f b h = h

-- one more line
pub lines_step : (count : ℕ) (f : Step → List ℕ) (steps : List Step) (i : ℕ) (x : Step) (now next : List Bool) → HasMarksOf count f (take i steps) now → i < length steps → x ≡ get_or steps i x → Marks (f x) now next → HasMarksOf count f (take (i + 1) steps) next
lines_step count f steps i x now next h l e m =
    subst (λ (ls : List Step). HasMarksOf count f ls next) (sym (take_more steps i x l ∙ ap (λ (y : Step). take i steps ++ y ∷ []) (sym e)))
    (has_marks_more count f (take i steps) x now next h m)

pub lines_end : (count : ℕ) (f : Step → List ℕ) (steps : List Step) (i : ℕ) (now : List Bool) → HasMarksOf count f (take i steps) now → length steps ≤ i → HasMarksOf count f steps now
lines_end count f steps i now h l = subst (λ (ls : List Step). HasMarksOf count f ls now) (take_whole steps i l) h
  where
    take_whole : {A : Type 0} (xs : List A) (j : ℕ) → length xs ≤ j → take j xs ≡ xs
    take_whole [] zero u = refl
    take_whole [] (suc j) u = refl
    take_whole (x ∷ xs) zero u = absurd (omega arith)
    take_whole (x ∷ xs) (suc j) u = ap (λ (ys : List _). x ∷ ys) (take_whole xs j (omega arith))
