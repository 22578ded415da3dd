-- Numbers as words: what is read is spelled so, and what is spelled so is read.
use Rattle.std.proofs.Common.{◌≡◌, ◌≢◌, ℕ, ℤ, pos, negsuc, nat_abs, suc, ◌+◌, ◌^◌, ◌<◌, ◌≤◌, Bool, true, false, cond, ◌&&◌, ◌||◌, eqb, List, [], ◌∷◌, ◌++◌, length, Option, Some, Ok, refl, subst, arith, inl, inr, ◌⊎◌}
use Rattle.lin_term.specs.Form.{cap}
use Rattle.std.specs.Fmt.{decimal, signed_decimal}
use Rattle.std.specs.Char.{is_ascii_digit}
use Rattle.std.specs.List.{list_all, flat_map}
use Rattle.std.specs.Str.{bytes_eq}
use Rattle.std.specs.Str.Parse.{AllDigits}
use Rattle.std.proofs.lemmas.Bool.{ne_eqb}
use Rattle.std.proofs.lemmas.Fmt.{decimal_is_IsNumeral_wide}
use Rattle.std.proofs.lemmas.List.{length-append}
use Rattle.std.proofs.lemmas.List.Concat.{flat_map-cons}
use Rattle.std.proofs.lemmas.Slice.Eq.{bytes_eq-Decides}
use Rattle.std.proofs.lemmas.Str.Parse.{digit_from_value}
use Rattle.strat_words.specs.Number.{natural_of, signed_of, coef_of}
use Rattle.strat_words.specs.Spot.{Spot, Taken, ◌>>=◌, next, fits, is_of_word, begins_number, number_behind_space}
use Rattle.strat_words.specs.Taking as taking
use Rattle.strat_words.specs.Spelled as spelled
use Rattle.strat_words.proofs.Numbers.{own, natural_takes_word, natural_again_word, signed_takes_word, signed_again_word, coef_takes_word, coef_again_word}
use Rattle.strat_words.proofs.WordLaws.{bind_ok, fits_ok, Takes, Takes-then, Reads, IsWord, Parted, next_takes, next_again}

-- ---- numbers are words

of_word_digits : (ds : List ℕ) → AllDigits 10 ds → list_all is_of_word ds ≡ true
of_word_digits [] h = refl
of_word_digits (c ∷ cs) h =
    let r = digit_from_value c h.0 in
    let a : eqb c 32 ≡ false = ne_eqb c 32 (omega (arith, r)) in
    let b : eqb c 10 ≡ false = ne_eqb c 10 (omega (arith, r)) in
    rw (a, b, of_word_digits cs h.1) refl

pub decimal_word : (n : ℕ) → n < 10 ^ 64 → IsWord (decimal n)
decimal_word n lt = let k = decimal_is_IsNumeral_wide n lt in record { some = k.0.0; all = of_word_digits (decimal n) k.0.1 }

pub signed_word : (z : ℤ) → nat_abs z < 10 ^ 64 → IsWord (signed_decimal z)
signed_word (pos n) lt = decimal_word n lt
signed_word (negsuc n) lt = let k = decimal_word (suc n) lt in record { some = omega arith; all = k.all }

-- ---- a word that is a number

fits_again : {A : Type 0} (o : Option A) (x : A) (r : Taken (List ℕ)) (f : List ℕ → Option A) (w z : List ℕ) → Reads r w z → f w ≡ Some x → Reads (r >>= λ y. fits (f y.0) y.1) x z
fits_again o x r f w z h e = record { at = h.at; is = rw (h.is, e) refl; rest = h.rest }

pub natural_takes : (low limit : ℕ) (s : Spot) (x : ℕ × Spot) → taking.natural low limit s ≡ Ok x → Takes s (spelled.natural x.0) x.1 × (low ≤ x.0) × (x.0 < limit)
natural_takes low limit s x e =
    let w = bind_ok (next s) (λ w. fits (natural_of low limit w.0) w.1) x e in
    let f = fits_ok (natural_of low limit w.0.0) w.0.1 x w.2 in
    let k = natural_takes_word low limit w.0.0 x.0 f.0 in
    (subst (λ (y : List ℕ × Spot). Takes s (32 ∷ y.0) y.1) (λ i. (k.0 i, f.1 i)) (next_takes s w.0 w.1), k.1, k.2)

pub natural_again : (low limit : ℕ) (s : Spot) (n : ℕ) (z : List ℕ) → low ≤ n → n < limit → limit ≤ 10 ^ 32 → Parted z → s.rest ≡ spelled.natural n ++ z → Reads (taking.natural low limit s) n z
natural_again low limit s n z le lt small p e =
    fits_again (Some n) n (next s) (natural_of low limit) (decimal n) z (next_again s (decimal n) z (decimal_word n (omega (arith, lt, small))) p e) (natural_again_word low limit n le lt small)

pub signed_takes : (limit : ℕ) (s : Spot) (x : ℤ × Spot) → taking.signed limit s ≡ Ok x → Takes s (spelled.signed x.0) x.1 × (nat_abs x.0 < limit)
signed_takes limit s x e =
    let w = bind_ok (next s) (λ w. fits (signed_of limit w.0) w.1) x e in
    let f = fits_ok (signed_of limit w.0.0) w.0.1 x w.2 in
    let k = signed_takes_word limit w.0.0 x.0 f.0 in
    (subst (λ (y : List ℕ × Spot). Takes s (32 ∷ y.0) y.1) (λ i. (k.0 i, f.1 i)) (next_takes s w.0 w.1), k.1)

pub signed_again : (limit : ℕ) (s : Spot) (n : ℤ) (z : List ℕ) → nat_abs n < limit → limit ≤ 10 ^ 32 → Parted z → s.rest ≡ spelled.signed n ++ z → Reads (taking.signed limit s) n z
signed_again limit s n z lt small p e =
    fits_again (Some n) n (next s) (signed_of limit) (signed_decimal n) z (next_again s (signed_decimal n) z (signed_word n (omega (arith, lt, small))) p e) (signed_again_word limit n lt small)

pub coef_takes : (s : Spot) (x : ℤ × Spot) → taking.coef s ≡ Ok x → Takes s (spelled.signed x.0) x.1 × (nat_abs x.0 < cap + 1) × (x.0 ≢ pos 0)
coef_takes s x e =
    let w = bind_ok (next s) (λ w. fits (coef_of w.0) w.1) x e in
    let f = fits_ok (coef_of w.0.0) w.0.1 x w.2 in
    let k = coef_takes_word w.0.0 x.0 f.0 in
    (subst (λ (y : List ℕ × Spot). Takes s (32 ∷ y.0) y.1) (λ i. (k.0 i, f.1 i)) (next_takes s w.0 w.1), k.1, k.2)

pub coef_again : (s : Spot) (n : ℤ) (z : List ℕ) → nat_abs n ≤ cap → n ≢ pos 0 → Parted z → s.rest ≡ spelled.signed n ++ z → Reads (taking.coef s) n z
coef_again s n z le other p e =
    fits_again (Some n) n (next s) coef_of (signed_decimal n) z (next_again s (signed_decimal n) z (signed_word n (omega (arith, le))) p e) (coef_again_word n le other)

-- ---- a number begins with a digit or a minus

digits_begin : (ds z : List ℕ) → 0 < length ds → list_all is_ascii_digit ds ≡ true → begins_number (ds ++ z) ≡ true
digits_begin [] z some h = absurd (omega (arith, some))
digits_begin (c ∷ cs) z some h = digit_begins c (eqb c 45) (is_ascii_digit c) (list_all is_ascii_digit cs) h
  where
    digit_begins : (c : ℕ) (a b r : Bool) → (b && r) ≡ true → (a || b) ≡ true
    digit_begins c true b r h = refl
    digit_begins c false true r h = refl
    digit_begins c false false r h = absurd cc

pub natural_begins : (n : ℕ) (z : List ℕ) → n < 10 ^ 64 → number_behind_space (spelled.natural n ++ z) ≡ true
natural_begins n z lt = let k = decimal_is_IsNumeral_wide n lt in digits_begin (decimal n) z k.0.0 (own.from (decimal n) k.0.1)

pub signed_begins : (n : ℤ) (z : List ℕ) → nat_abs n < 10 ^ 64 → number_behind_space (spelled.signed n ++ z) ≡ true
signed_begins (pos n) z lt = natural_begins n z lt
signed_begins (negsuc n) z lt = refl

-- ---- rows of words

pub length_flat : {A : Type 0} (text : A → List ℕ) → ((x : A) → 1 ≤ length (text x)) → (xs : List A) → length xs ≤ length (flat_map text xs)
length_flat text some [] = omega arith
length_flat text some (x ∷ xs) = rw flat_map-cons (omega (arith, length-append (text x) (flat_map text xs), some x, length_flat text some xs))

-- there are no more of them than bytes
pub room : {A : Type 0} (text : A → List ℕ) → ((x : A) → 1 ≤ length (text x)) → (xs : List A) (s : Spot) (z : List ℕ) → s.rest ≡ flat_map text xs ++ z → length xs ≤ length s.rest
room text some xs s z e = rw e (omega (arith, length-append (flat_map text xs) z, length_flat text some xs))

pub chosen : {A : Type 0} (b : Bool) (x y z : A) → cond b x y ≡ z → ((b ≡ true) × (x ≡ z)) ⊎ ((b ≡ false) × (y ≡ z))
chosen true x y z e = inl (refl, e)
chosen false x y z e = inr (refl, e)

-- a mark that is the known one, and what stands behind it
pub marked : (lead : List ℕ) (s0 s s' : Spot) (mark known text : List ℕ) → bytes_eq mark known ≡ true → Takes s0 (lead ++ mark) s → Takes s text s' → Takes s0 (lead ++ known ++ text) s'
marked lead s0 s s' mark known text same t0 t =
    subst (λ (m : List ℕ). Takes s0 (lead ++ m ++ text) s') ((bytes_eq-Decides mark known).0 same) (Takes-then s0 (lead ++ mark) s text s' t0 t)
