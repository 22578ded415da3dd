-- What storing one more file leaves.
use Rattle.std.proofs.Common.{◌≡◌, ◌≢◌, ℕ, Bool, true, false, cond, List, [], ◌∷◌, ◌++◌, ◌+◌, ◌<◌, map, length, take, drop, get_or, Option, Some, None, Result, Ok, Err, refl, ap, sym, ◌∙◌, subst, string_bytes}
use Rattle.std.specs.Str.{bytes_eq}
use Rattle.std.proofs.lemmas.List.{take_more, map-append, append_assoc, take-append-drop}
use Rattle.std.proofs.lemmas.Slice.Eq.{bytes_eq-Decides}
use Rattle.ss_shelf.specs.declared.CallKind.TheVariants.{Store}
use Rattle.ss_shelf.specs.declared.ShelfFault.{ShelfFault}
use Rattle.ss_shelf.specs.declared.ShelfFault.TheVariants as fault
use Rattle.ss_shelf.specs.Outside.{Files, Counts, Counted, Stores, KeepsOthers}
use Rattle.solve_words.specs.Words.{Word}
use Rattle.simsat.specs.Effects.{with_file, stored_in, HasStored, NoName, OneRose}
use Rattle.simsat.specs.declared.plan.NewFile.{NewFile}
use Rattle.simsat.specs.Plan.{store_of}
use Rattle.simsat.specs.Storing.{FailedAt, StoredFirst}

stored_in-append : (old : Files) (xs : List (Word × List ℕ)) (x : Word × List ℕ) → stored_in old (xs ++ x ∷ []) ≡ with_file (stored_in old xs) x
stored_in-append old [] x = refl
stored_in-append old (y ∷ xs) x = stored_in-append (with_file old y) xs x

pub none_stored : (told : Option Files) → HasStored told told [] NoName
none_stored None = refl
none_stored (Some files) = λ name o. refl

-- one more file where the files are told
one_more : (base middle new : Files) (name bytes : List ℕ) (other : Word) (b : Bool) → bytes_eq name other ≡ b → (new name ≡ Some bytes) → (other ≢ name → new other ≡ middle other) → middle other ≡ base other
    → new other ≡ cond b (Some bytes) (base other)
one_more base middle new name bytes other true e this others same = let n = (bytes_eq-Decides name other).0 e in subst (λ (w : Word). new w ≡ Some bytes) n this
one_more base middle new name bytes other false e this others same = others (λ h. let d : bytes_eq name other ≡ true = (bytes_eq-Decides name other).1 (sym h) in absurd (cc)) ∙ same

told_more : (old middle new : Files) (xs : List (Word × List ℕ)) (name bytes : List ℕ) → ((w : Word) → ¬ NoName w → middle w ≡ stored_in old xs w) → new name ≡ Some bytes
    → ((w : Word) → w ≢ name → new w ≡ middle w) → (w : Word) → new w ≡ stored_in old (xs ++ (name, bytes) ∷ []) w
told_more old middle new xs name bytes h this others w =
    one_more (stored_in old xs) middle new name bytes w (bytes_eq name w) refl this (others w) (h w (λ x. x))
    ∙ sym (ap (λ (f : Files). f w) (stored_in-append old xs (name, bytes)))

pub one_stored : (told middle new : Option Files) (xs : List (Word × List ℕ)) (name bytes : List ℕ) → HasStored told middle xs NoName → Stores middle new name bytes
    → HasStored told new (xs ++ (name, bytes) ∷ []) NoName
one_stored None None new xs name bytes h s = s
one_stored None (Some m) new xs name bytes h s = absurd (cc)
one_stored (Some f) None new xs name bytes h s = absurd h
one_stored (Some f) (Some m) None xs name bytes h s = absurd s
one_stored (Some f) (Some m) (Some n) xs name bytes h s = λ w o. told_more f m n xs name bytes h s.this s.others w

pub one_failed : (told middle new : Option Files) (xs : List (Word × List ℕ)) (name : List ℕ) → HasStored told middle xs NoName → KeepsOthers middle new name → HasStored told new xs (λ w. w ≡ name)
one_failed None None new xs name h k = k
one_failed None (Some m) new xs name h k = absurd (cc)
one_failed (Some f) None new xs name h k = absurd h
one_failed (Some f) (Some m) None xs name h k = absurd k
one_failed (Some f) (Some m) (Some n) xs name h k = λ w o. k w o ∙ h w (λ x. x)

-- ---- in a list of files

pub failed_at : (xs before behind : List (Word × List ℕ)) (name bytes : List ℕ) → xs ≡ before ++ (name, bytes) ∷ behind → (told middle new : Option Files) (counts counts1 counts2 : Counts) →
    HasStored told middle before NoName → counts1 ≡ counts → KeepsOthers middle new name → Counted Store name counts1 counts2 (Err fault.Failed) → FailedAt xs told new counts counts2
failed_at xs before behind name bytes e told middle new counts counts1 counts2 h same k c = record {
  before = before;
  failed = (name, bytes);
  behind = behind;
  stores = e;
  files = one_failed told middle new before name h k;
  rose = subst (λ (n : Counts). OneRose Store name n counts2) same (record { rose = c.rose refl; others = c.others });
}

pub stored_first : (xs before behind : List (Word × List ℕ)) → xs ≡ before ++ behind → (told middle new : Option Files) (counts counts1 counts2 : Counts) →
    HasStored told middle before NoName → counts1 ≡ counts → new ≡ middle → counts2 ≡ counts1 → StoredFirst xs told new counts counts2
stored_first xs before behind e told middle new counts counts1 counts2 h same k c = record {
  before = before;
  behind = behind;
  stores = e;
  files = subst (λ (f : Option Files). HasStored told f before NoName) (sym k) h;
  kept = c ∙ same;
}

-- ---- the file that is stored next

taken : {A : Type 0} (xs : List A) (i : ℕ) (x : A) → i < length xs → x ≡ get_or xs i x → take (i + 1) xs ≡ take i xs ++ x ∷ []
taken {A} xs i x h e = take_more xs i x h ∙ ap (λ (y : A). take i xs ++ y ∷ []) (sym e)

pub taken_by : {A B : Type 0} (f : A → B) (xs : List A) (i : ℕ) (x : A) → i < length xs → x ≡ get_or xs i x → map f (take (i + 1) xs) ≡ map f (take i xs) ++ f x ∷ []
taken_by {A} {B} f xs i x h e = ap (map f) (taken xs i x h e) ∙ map-append f (take i xs) (x ∷ [])

pub parted_by : {A B : Type 0} (f : A → B) (xs : List A) (i : ℕ) (x : A) → i < length xs → x ≡ get_or xs i x → map f xs ≡ map f (take i xs) ++ f x ∷ map f (drop (i + 1) xs)
parted_by {A} {B} f xs i x h e =
    sym (ap (map f) (take-append-drop (i + 1) xs)) ∙ map-append f (take (i + 1) xs) (drop (i + 1) xs) ∙ ap (λ (ys : List B). ys ++ map f (drop (i + 1) xs)) (taken_by f xs i x h e)
    ∙ append_assoc (map f (take i xs)) (f x ∷ []) (map f (drop (i + 1) xs))

-- ---- as the loop has them

pub one_more_named : (told middle new : Option Files) (counts counts1 counts2 : Counts) (xs : List NewFile) (i : ℕ) (x : NewFile) → i < length xs → x ≡ get_or xs i x → (name bytes : List ℕ) (r : Result (Unit {0}) ShelfFault) →
    name ≡ string_bytes x.name → bytes ≡ x.bytes.items → HasStored told middle (map store_of (take i xs)) NoName → counts1 ≡ counts → Stores middle new name bytes → {u : Unit {0}} → r ≡ Ok u → Counted Store name counts1 counts2 r
    → HasStored told new (map store_of (take (i + 1) xs)) NoName × (counts2 ≡ counts)
one_more_named told middle new counts counts1 counts2 xs i x h e name bytes r n b s same t {u} ok c = (
  subst (λ (ys : List (Word × List ℕ)). HasStored told new ys NoName) (sym (taken_by store_of xs i x h e))
      (subst (λ (w : List ℕ). HasStored told new (map store_of (take i xs) ++ (w, x.bytes.items) ∷ []) NoName) n
      (subst (λ (w : List ℕ). HasStored told new (map store_of (take i xs) ++ (name, w) ∷ []) NoName) b (one_stored told middle new (map store_of (take i xs)) name bytes s t))),
  c.kept (λ failed. let z : Ok u ≡ Err fault.Failed = sym ok ∙ failed in absurd (cc)) ∙ same,
)

pub failed_at_named : (told middle new : Option Files) (counts counts1 counts2 : Counts) (xs : List NewFile) (i : ℕ) (x : NewFile) → i < length xs → x ≡ get_or xs i x → (name : List ℕ) (r : Result (Unit {0}) ShelfFault) →
    name ≡ string_bytes x.name → HasStored told middle (map store_of (take i xs)) NoName → counts1 ≡ counts → KeepsOthers middle new name → r ≡ Err fault.Failed → Counted Store name counts1 counts2 r
    → FailedAt (map store_of xs) told new counts counts2
failed_at_named told middle new counts counts1 counts2 xs i x h e name r n s same k failed c =
    failed_at (map store_of xs) (map store_of (take i xs)) (map store_of (drop (i + 1) xs)) (string_bytes x.name) x.bytes.items (parted_by store_of xs i x h e) told middle new counts counts1 counts2 s same
    (subst (λ (w : List ℕ). KeepsOthers middle new w) n k)
    (subst (λ (w : List ℕ). Counted Store w counts1 counts2 (Err fault.Failed)) n (subst (λ (q : Result (Unit {0}) ShelfFault). Counted Store name counts1 counts2 q) failed c))

pub stored_named : (told middle new : Option Files) (counts counts1 counts2 : Counts) (xs : List NewFile) (i : ℕ) (x : NewFile) → i < length xs → x ≡ get_or xs i x → (name : List ℕ) (r : Result (Unit {0}) ShelfFault) →
    HasStored told middle (map store_of (take i xs)) NoName → counts1 ≡ counts → new ≡ middle → r ≡ Err fault.Memory → Counted Store name counts1 counts2 r
    → StoredFirst (map store_of xs) told new counts counts2
stored_named told middle new counts counts1 counts2 xs i x h e name r s same k wanted c =
    stored_first (map store_of xs) (map store_of (take i xs)) (store_of x ∷ map store_of (drop (i + 1) xs)) (parted_by store_of xs i x h e) told middle new counts counts1 counts2 s same k
    (c.kept (λ failed. let z : Err fault.Memory ≡ Err fault.Failed = sym wanted ∙ failed in absurd (cc)))
