-- Rows at other names.
use Rattle.std.specs.Prelude.{ℕ, zero, suc, ◌+◌, ◌^◌, ◌<◌, ◌≤◌, ◌≡◌, ℤ, pos, negsuc, neg_ℤ, nat_abs, Bool, true, false, IsTrue, cond, eqb, List, [], ◌∷◌, ◌++◌, take, get_or, length}
use Rattle.std.proofs.Common.{arith, ap, ap₂, ◌∙◌, sym, subst, refl}
use Rattle.std.proofs.lemmas.Bool.{eqb-true, eq-eqb, false≢true}
use Rattle.std.proofs.lemmas.List.{take_more}
use Rattle.lin_term.specs.Form.{Form, IsRow, AreTerms}
use Rattle.lin_term.specs.Linear.{Sort, Rat, Int, Below, BelowTerms, rename, rename_terms, times}
use Rattle.lin_term.specs.Literal.{AtLeast, gcd, gcd_terms, or_one}
use Rattle.lin_term.specs.Move.{Move, IsMove, move_divisor}
use Rattle.lin_term.specs.Definition.{rename_move, upper_literal, lower_literal}
use Rattle.lin_term.specs.PutIn.{occurs}
use Rattle.lin_term.specs.Rising.{IsRising, IsRisingAt, IsDefinable}
use Rattle.lin_term.specs.Upper.{upper_constant}
use Rattle.lin_term.proofs.Residues.{with_constant}
use Rattle.lin_term.proofs.Defining.{below_negated, upper_is, lower_is, kept_divisor}

take-all : {A : Type 0} (xs : List A) (i : ℕ) → length xs ≤ i → take i xs ≡ xs
take-all [] zero h = refl
take-all [] (suc i) h = refl
take-all (x ∷ xs) zero h = absurd (omega arith)
take-all (x ∷ xs) (suc i) h = ap (λ (ys : List _). x ∷ ys) (take-all xs i (omega arith))

rename-append : (names : List ℕ) (ts us : List (ℕ × ℤ)) → rename_terms names (ts ++ us) ≡ rename_terms names ts ++ rename_terms names us
rename-append names [] us = refl
rename-append names (t ∷ ts) us =
    ap (λ (x : List (ℕ × ℤ)). (get_or names t.0 0, t.1) ∷ x) (rename-append names ts us)

-- one more term is renamed
pub renamed_more : (names : List ℕ) (ts new : List (ℕ × ℤ)) (i : ℕ) → i < length ts → new ≡ rename_terms names (take i ts) → new ++ (get_or names (get_or ts i (0, pos 0)).0 0, (get_or ts i (0, pos 0)).1) ∷ [] ≡ rename_terms names (take (i + 1) ts)
renamed_more names ts new i l h =
    let t : ℕ × ℤ = get_or ts i (0, pos 0) in
    ap (λ (x : List (ℕ × ℤ)). x ++ (get_or names t.0 0, t.1) ∷ []) h
    ∙ sym (rename-append names (take i ts) (t ∷ []))
    ∙ ap (rename_terms names) (sym (take_more ts i (0, pos 0) l))

pub renamed_all : (names : List ℕ) (f : Form) (new : List (ℕ × ℤ)) (k : ℤ) (items : List (ℕ × ℤ)) (i : ℕ) → length items ≤ i → items ≡ f.terms → new ≡ rename_terms names (take i items) → k ≡ f.constant → with_constant new k ≡ rename names f
renamed_all names f new k items i l e h q =
    ap₂ with_constant (h ∙ ap (rename_terms names) (take-all items i l ∙ e)) q

pub below_index : (n : ℕ) (ts : List (ℕ × ℤ)) (i : ℕ) → BelowTerms n ts → i < length ts → (get_or ts i (0, pos 0)).0 < n
below_index n [] i b l = absurd (omega arith)
below_index n (u ∷ ts) zero b l = b.0
below_index n (u ∷ ts) (suc i) b l = below_index n ts i b.1 (omega arith)

pub same_coef : (new : List (ℕ × ℤ)) (v : ℕ) (k j : ℤ) → k ≡ j → new ++ (v, k) ∷ [] ≡ new ++ (v, j) ∷ []
same_coef new v k j e = ap (λ (z : ℤ). new ++ (v, z) ∷ []) e

pub rising_more : (names : List ℕ) (m n : ℕ) → m ≤ n → IsRising names m → IsRising names n
rising_more names m n h r = record { ascend = r.ascend; below = λ i l. let b = r.below i l in omega arith }

-- a variable that occurs is below the bound of all, and not below the first
occurs_below : (n : ℕ) (ts : List (ℕ × ℤ)) (i : ℕ) → BelowTerms n ts → IsTrue (occurs ts i) → i < n
occurs_below n [] i b h = absurd (false≢true h)
occurs_below n (t ∷ ts) i b h =
    by (eqb t.0 i) refl h (λ k. occurs_below n ts i b.1 k)
  where
    by : (e : Bool) → eqb t.0 i ≡ e → IsTrue (cond e true (occurs ts i)) → (IsTrue (occurs ts i) → i < n) → i < n
    by true e k f = let q : t.0 ≡ i = eqb-true t.0 i e in let l = b.0 in omega arith
    by false e k f = f k

occurs_least : (n : ℕ) (ts : List (ℕ × ℤ)) (i : ℕ) → AreTerms n ts → IsTrue (occurs ts i) → n ≤ i
occurs_least n [] i a h = absurd (false≢true h)
occurs_least n (t ∷ ts) i a h =
    by (eqb t.0 i) refl h (λ k. occurs_least (t.0 + 1) ts i a.4 k)
  where
    by : (e : Bool) → eqb t.0 i ≡ e → IsTrue (cond e true (occurs ts i)) → (IsTrue (occurs ts i) → t.0 + 1 ≤ i) → n ≤ i
    by true e k f = let q : t.0 ≡ i = eqb-true t.0 i e in let l = a.0 in omega arith
    by false e k f = let l = f k in let m = a.0 in omega arith

occurs_first : (t : ℕ × ℤ) (ts : List (ℕ × ℤ)) → IsTrue (occurs (t ∷ ts) t.0)
occurs_first t ts = ap (λ (e : Bool). cond e true (occurs ts t.0)) (eq-eqb t.0 t.0 refl)

occurs_later : (t : ℕ × ℤ) (ts : List (ℕ × ℤ)) (i : ℕ) → IsTrue (occurs ts i) → IsTrue (occurs (t ∷ ts) i)
occurs_later t ts i h =
    by (eqb t.0 i)
  where
    by : (e : Bool) → IsTrue (cond e true (occurs ts i))
    by true = refl
    by false = h

-- names that ascend ascend at each form's variables
pub rising_at : (names : List ℕ) (ts : List (ℕ × ℤ)) (n : ℕ) → IsRising names n → BelowTerms (length names) ts → IsRisingAt names ts n
rising_at names ts n r b = record {
  ascend = λ i j h k l. r.ascend i j l (occurs_below (length names) ts j b k);
  below = λ i h. r.below i (occurs_below (length names) ts i b h);
}

rising_rest : (names : List ℕ) (t : ℕ × ℤ) (ts : List (ℕ × ℤ)) (n : ℕ) → IsRisingAt names (t ∷ ts) n → IsRisingAt names ts n
rising_rest names t ts n r = record {
  ascend = λ i j h k l. r.ascend i j (occurs_later t ts i h) (occurs_later t ts j k) l;
  below = λ i h. r.below i (occurs_later t ts i h);
}

-- the terms keep their order at the names
pub renamed_terms_at : (names : List ℕ) (ts : List (ℕ × ℤ)) (k n : ℕ) → IsRisingAt names ts (2 ^ 20) → AreTerms k ts → ((i : ℕ) → IsTrue (occurs ts i) → n ≤ get_or names i 0) → AreTerms n (rename_terms names ts)
renamed_terms_at names [] k n r a h = tt
renamed_terms_at names (t ∷ ts) k n r a h = (
  h t.0 (occurs_first t ts),
  r.below t.0 (occurs_first t ts),
  a.2,
  a.3,
  renamed_terms_at names ts (t.0 + 1) (get_or names t.0 0 + 1) (rising_rest names t ts (2 ^ 20) r) a.4 (λ i o. let x = r.ascend t.0 i (occurs_first t ts) (occurs_later t ts i o) (let l = occurs_least (t.0 + 1) ts i a.4 o in omega arith) in omega arith),
)

pub renamed_row_at : (names : List ℕ) (f : Form) → IsRisingAt names f.terms (2 ^ 20) → IsRow f → IsRow (rename names f)
renamed_row_at names f r h = (renamed_terms_at names f.terms 0 0 r h.0 (λ i o. omega arith), h.1)

pub renamed_is_row : (names : List ℕ) (f : Form) → IsRising names (2 ^ 20) → IsRow f → Below (length names) f → IsRow (rename names f)
renamed_is_row names f r h b = renamed_row_at names f (rising_at names f.terms (2 ^ 20) r b) h

pub renamed_below : (names : List ℕ) (n : ℕ) (ts : List (ℕ × ℤ)) → IsRising names n → BelowTerms (length names) ts → BelowTerms n (rename_terms names ts)
renamed_below names n [] r b = tt
renamed_below names n (t ∷ ts) r b = (r.below t.0 b.0, renamed_below names n ts r b.1)

pub gcd_renamed : (names : List ℕ) (ts : List (ℕ × ℤ)) → gcd_terms (rename_terms names ts) ≡ gcd_terms ts
gcd_renamed names [] = refl
gcd_renamed names (t ∷ ts) = ap (gcd (nat_abs t.1)) (gcd_renamed names ts)

-- the divisor of a move does not depend on the names
pub divisor_renamed : (s : Sort) (names : List ℕ) (m : Move) → move_divisor s (rename_move names m) ≡ move_divisor s m
divisor_renamed Rat names m =
    ap (λ (n : ℕ). or_one (gcd m.div (gcd (nat_abs m.numer.constant) n))) (gcd_renamed names m.numer.terms)
divisor_renamed Int names m = ap (λ (n : ℕ). or_one (gcd m.div n)) (gcd_renamed names m.numer.terms)

pub move_renamed : (names : List ℕ) (m : Move) → IsRising names (2 ^ 20) → IsMove m → Below (length names) m.numer → IsMove (rename_move names m)
move_renamed names m r a b = (renamed_is_row names m.numer r a.0 b, a.1, a.2)

-- ---- the definition at other names, as it is worked out

pub few_rise : (s : Sort) (m : Move) (names : List ℕ) (v : ℕ) → IsDefinable s m names v → IsRising names (2 ^ 20)
few_rise s m names v h = let f = h.few in rising_more names v (2 ^ 20) (omega arith) h.rising

renamed_one : (s : Sort) (m : Move) (names : List ℕ) (v : ℕ) → IsDefinable s m names v → IsMove m → move_divisor s (rename_move names m) ≡ 1
renamed_one s m names v h a = divisor_renamed s names m ∙ kept_divisor s m a h.kept

pub row_below : (s : Sort) (m : Move) (names : List ℕ) (v : ℕ) (row : Form) → IsDefinable s m names v → row ≡ rename names m.numer → Below v row
row_below s m names v row h e = subst (λ (f : Form). Below v f) (sym e) (renamed_below names v m.numer.terms h.rising h.named)

pub up_below : (s : Sort) (m : Move) (names : List ℕ) (v : ℕ) (row up : Form) → IsDefinable s m names v → row ≡ rename names m.numer → up ≡ times (negsuc 0) row → Below v up
up_below s m names v row up h e i =
    subst (λ (f : Form). Below v f) (sym i) (below_negated v row.terms (row_below s m names v row h e))

pub upper_made : (s : Sort) (m : Move) (names : List ℕ) (v : ℕ) (row up last : Form) (d k : ℤ) → IsDefinable s m names v → IsMove m → row ≡ rename names m.numer → up ≡ times (negsuc 0) row → d ≡ pos m.div → k ≡ upper_constant s m.numer.constant m.div → last ≡ with_constant (up.terms ++ (v, d) ∷ []) k → AtLeast last ≡ upper_literal s (rename_move names m) v
upper_made s m names v row up last d k h a e i j l n =
    let r = move_renamed names m (few_rise s m names v h) a h.named in
    ap (λ (f : Form). AtLeast f) (n ∙ ap₂ with_constant (ap₂ (λ (f : Form) (z : ℤ). f.terms ++ (v, z) ∷ []) (i ∙ ap (times (negsuc 0)) e) j) l)
    ∙ sym (upper_is s (rename_move names m) v r.0.0 a.1 (renamed_below names v m.numer.terms h.rising h.named) (renamed_one s m names v h a))

pub lower_made : (s : Sort) (m : Move) (names : List ℕ) (v : ℕ) (row last : Form) (d k : ℤ) → IsDefinable s m names v → IsMove m → row ≡ rename names m.numer → d ≡ neg_ℤ (pos m.div) → k ≡ row.constant → last ≡ with_constant (row.terms ++ (v, d) ∷ []) k → AtLeast last ≡ lower_literal s (rename_move names m) v
lower_made s m names v row last d k h a e j l n =
    let r = move_renamed names m (few_rise s m names v h) a h.named in
    ap (λ (f : Form). AtLeast f) (n ∙ ap₂ with_constant (ap₂ (λ (f : Form) (z : ℤ). f.terms ++ (v, z) ∷ []) e j) (l ∙ ap (λ (f : Form). f.constant) e))
    ∙ sym (lower_is s (rename_move names m) v r.0.0 a.1 (renamed_below names v m.numer.terms h.rising h.named) (renamed_one s m names v h a))
