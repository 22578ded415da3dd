-- New numbers, one place after the other.
use Rattle.std.specs.Prelude.{ℕ, zero, suc, ◌+◌, ◌<◌, ◌≤◌, ◌≡◌, Bool, true, false, if◌then◌else◌, List, [], ◌∷◌, ◌++◌, map, take, drop, get_or, length}
use Rattle.std.proofs.Common.{arith, ap, ap₂, ◌∙◌, sym, refl, append_assoc, append-nil}
use Rattle.std.proofs.lemmas.List.{drop_more, take_more, map-append}
use Rattle.strat_trim.specs.Trimmed.{numbers}

-- the numbers so far, and those of the marks from place i on
pub record Numbering (list : List ℕ) (count i : ℕ) (marks : List Bool) : Type 0 where
  pub so_far : list ++ numbers count (drop i marks) ≡ numbers 0 marks
  pub few : count ≤ i

pub numbering_first : (list : List ℕ) (marks : List Bool) → list ≡ [] → Numbering list 0 0 marks
numbering_first list marks e = record { so_far = ap (λ (ns : List ℕ). ns ++ numbers 0 marks) e; few = omega arith }

pub numbering_step : (list new : List ℕ) (count next i : ℕ) (b d : Bool) (marks : List Bool) → Numbering list count i marks → i < length marks → b ≡ get_or marks i d → new ≡ list ++ count ∷ [] → next ≡ (if b then suc count else count) → Numbering new next (i + 1) marks
numbering_step list new count next i b d marks w l e n q =
    let rest : List Bool = drop (i + 1) marks in
    record {
      so_far = ap₂ (λ (ns : List ℕ) (j : ℕ). ns ++ numbers j rest) n q
          ∙ append_assoc list (count ∷ []) (numbers (if b then suc count else count) rest)
          ∙ ap (λ (x : Bool). list ++ numbers count (x ∷ rest)) e
          ∙ ap (λ (bs : List Bool). list ++ numbers count bs) (sym (drop_more marks i d l))
          ∙ w.so_far;
      few = by b q;
    }
  where
    by : (x : Bool) → next ≡ (if x then suc count else count) → next ≤ i + 1
    by true h = let f = w.few in omega arith
    by false h = let f = w.few in omega arith

drop_none : {A : Type 0} (xs : List A) (j : ℕ) → length xs ≤ j → drop j xs ≡ []
drop_none [] zero h = refl
drop_none [] (suc j) h = refl
drop_none (x ∷ xs) zero h = absurd (omega arith)
drop_none (x ∷ xs) (suc j) h = drop_none xs j (omega arith)

pub numbering_end : (list : List ℕ) (count i : ℕ) (marks : List Bool) → Numbering list count i marks → length marks ≤ i → list ≡ numbers 0 marks
numbering_end list count i marks w l =
    sym (append-nil list) ∙ ap (λ (bs : List Bool). list ++ numbers count bs) (sym (drop_none marks i l)) ∙ w.so_far

-- ---- a list mapped item by item

pub mapped_step : {A B : Type 0} (f : A → B) (xs : List A) (list new : List B) (i : ℕ) (x : A) (y : B) → list ≡ map f (take i xs) → i < length xs → x ≡ get_or xs i x → y ≡ f x → new ≡ list ++ y ∷ [] → new ≡ map f (take (i + 1) xs)
mapped_step f xs list new i x y w l e q n =
    n ∙ ap₂ (λ (ys : List _) (z : _). ys ++ z ∷ []) w q
    ∙ sym (map-append f (take i xs) (x ∷ []))
    ∙ ap (map f) (ap (λ (z : _). take i xs ++ z ∷ []) e ∙ sym (take_more xs i x l))

pub mapped_end : {A B : Type 0} (f : A → B) (xs : List A) (list : List B) (i : ℕ) → list ≡ map f (take i xs) → length xs ≤ i → list ≡ map f xs
mapped_end f xs list i w l = w ∙ ap (map f) (take_whole xs i l)
  where
    take_whole : {A : Type 0} (zs : List A) (j : ℕ) → length zs ≤ j → take j zs ≡ zs
    take_whole [] zero u = refl
    take_whole [] (suc j) u = refl
    take_whole (z ∷ zs) zero u = absurd (omega arith)
    take_whole (z ∷ zs) (suc j) u = ap (λ (ys : List _). z ∷ ys) (take_whole zs j (omega arith))
