-- A number that is read is the one that was written.
use Rattle.std.proofs.Common.{◌≡◌, ◌≢◌, ℕ, ℤ, pos, negsuc, neg_ℤ, nat_abs, zero, suc, ◌+◌, ◌*◌, ◌-◌, ◌/◌, ◌%◌, ◌^◌, ◌<◌, ◌≤◌, Bool, true, false, cond, not, ◌&&◌, ◌||◌, eqb, ltb, leb, List, [], ◌∷◌, ◌++◌, take, length, get_or, Option, Some, None, refl, sym, ap, ap₂, subst, ◌∙◌, append_assoc, arith}
use Rattle.std.proofs.lemmas.Bool.{ltb-false, ltb-true, le-ltb, lt-ltb, leb-false, lt-leb, eqb-true, eqb-false, ne_eqb}
use Rattle.std.proofs.lemmas.List.{append-nil, length-take-le}
use Rattle.std.proofs.lemmas.Int.Digits.{digits_value_more}
use Rattle.std.specs.Prelude.{slice_index}
use Rattle.std.specs.Option.{option_and_then, option_map}
use Rattle.std.specs.Int.{IsInRange}
use Rattle.std.specs.Fmt.{decimal, signed_decimal}
use Rattle.std.specs.Char.{is_ascii_digit, digit_value}
use Rattle.std.specs.List.{list_all}
use Rattle.std.specs.Str.Parse.{AllDigits, digits_value, digits_value_after}
use Rattle.std.proofs.lemmas.Str.{digit_value_digit}
use Rattle.std.proofs.lemmas.Str.Parse.{digit_from_value, IsDigitsTest, IsNumeralModel, numerals_by_value, digits_value_short, digit_at}
use Rattle.std.proofs.lemmas.Fmt.{decimal_step_wide, decimal_digit, decimal_is_IsNumeral_wide, length-decimal-le_wide, decimal_by_steps_wide}
use Rattle.lin_term.specs.Form.{cap}
use Rattle.strat_words.specs.Number.{is_plain, value_of_digits, magnitude_of, within, natural_of, signed_of, not_zero, coef_of}

-- ---- digits

tells : IsDigitsTest (λ ds. list_all is_ascii_digit ds ≡ true)
tells = record {
  empty = refl;
  parts = λ c cs h. grind arith;
  more = λ c cs r h. grind arith;
}

pub own : IsNumeralModel (λ ds. list_all is_ascii_digit ds ≡ true) (digits_value 10)
own = numerals_by_value _ tells

pub value_short : (ds : List ℕ) → list_all is_ascii_digit ds ≡ true → length ds < 33 → digits_value 10 ds < 10 ^ 32
value_short ds h short = digits_value_short own ds 32 h (omega arith)

le_value_after : (n : ℕ) (ds : List ℕ) → n ≤ digits_value_after 10 n ds
le_value_after n [] = omega arith
le_value_after n (c ∷ cs) = omega (arith, le_value_after (n * 10 + digit_value c) cs)

decimal_value_after : (n : ℕ) (ds : List ℕ) → 0 < n → AllDigits 10 ds → digits_value_after 10 n ds < 10 ^ 64 → decimal (digits_value_after 10 n ds) ≡ decimal n ++ ds
decimal_value_after n [] some d small = sym (append-nil (decimal n))
decimal_value_after n (c ∷ cs) some d small =
    let m : ℕ = n * 10 + digit_value c in
    let k = digit_value_digit c (digit_from_value c d.0) in
    let front : m / 10 ≡ n = omega (arith, d.0) in
    let end : 48 + m % 10 ≡ c = omega (arith, d.0) in
    decimal_value_after m cs (omega arith) d.1 small
    ∙ ap (λ x. x ++ cs) (decimal_step_wide m (omega arith) (omega (arith, le_value_after m cs)) ∙ (λ i. decimal (front i) ++ (end i ∷ [])))
    ∙ append_assoc (decimal n) (c ∷ []) cs

-- digits with no leading zero, or just `0`, are what `decimal` writes of their value
pub decimal_value_digits : (ds : List ℕ) → AllDigits 10 ds → 0 < length ds → (get_or ds 0 0 ≡ 48 → length ds ≡ 1) → digits_value 10 ds < 10 ^ 64 → decimal (digits_value 10 ds) ≡ ds
decimal_value_digits [] d some lead small = absurd (omega arith)
decimal_value_digits (c ∷ []) d some lead small =
    let k = digit_value_digit c (digit_from_value c d.0) in
    decimal_digit (0 * 10 + digit_value c) (omega (arith, d.0)) ∙ ap (λ x. x ∷ []) (omega arith)
decimal_value_digits (c ∷ e ∷ cs) d some lead small =
    let k = digit_value_digit c (digit_from_value c d.0) in
    let no : c ≡ 48 → ⊥ = λ z. omega (arith, lead z) in
    let is : 48 + (0 * 10 + digit_value c) ≡ c = omega arith in
    decimal_value_after (0 * 10 + digit_value c) (e ∷ cs) (omega arith) d.1 small
    ∙ ap (λ x. x ++ (e ∷ cs)) (decimal_digit (0 * 10 + digit_value c) (omega (arith, d.0)) ∙ ap (λ x. x ∷ []) is)

pub digit_here : (ds : List ℕ) (i : ℕ) → list_all is_ascii_digit ds ≡ true → i < length ds → (48 ≤ get_or ds i 0) × (digit_value (get_or ds i 0) + 48 ≡ get_or ds i 0)
digit_here ds i h lt =
    let r : IsInRange 48 57 (get_or ds i 0) = digit_at ds i (own.to ds h) lt in
    (omega (arith, r), digit_value_digit (get_or ds i 0) r)

-- ---- a short word, digit by digit

-- so far all are digits, and this is their value
pub record Valued (ds : List ℕ) (i n : ℕ) : Type 0 where
  pub digits : list_all is_ascii_digit (take i ds) ≡ true
  pub value : n ≡ digits_value 10 (take i ds)

pub valued_first : (ds : List ℕ) (n : ℕ) → n ≡ 0 → Valued ds 0 n
valued_first [] n e = record { digits = refl; value = e }
valued_first (c ∷ cs) n e = record { digits = refl; value = e }

one_digit : (c : ℕ) → is_ascii_digit c ≡ true → (48 ≤ c) × (c < 58) × (digit_value c + 48 ≡ c)
one_digit c h =
    let r : IsInRange 48 57 c = digit_at (c ∷ []) 0 (own.to (c ∷ []) (ap (λ (b : Bool). b && true) h)) (omega arith) in
    (omega (arith, r), omega (arith, r), digit_value_digit c r)

digits_more : (ds : List ℕ) (i : ℕ) → i < length ds → list_all is_ascii_digit (take i ds) ≡ true → is_ascii_digit (get_or ds i 0) ≡ true → list_all is_ascii_digit (take (suc i) ds) ≡ true
digits_more [] i lt a h = absurd (omega arith)
digits_more (c ∷ cs) zero lt a h = ap₂ (λ (a b : Bool). a && b) h (none_taken cs)
  where
    none_taken : (xs : List ℕ) → list_all is_ascii_digit (take 0 xs) ≡ true
    none_taken [] = refl
    none_taken (x ∷ xs) = refl
digits_more (c ∷ cs) (suc i) lt a h =
    let r = both_true (is_ascii_digit c) (list_all is_ascii_digit (take i cs)) a in
    ap₂ (λ (a b : Bool). a && b) r.0 (digits_more cs i (omega arith) r.1 h)
  where
    both_true : (a b : Bool) → (a && b) ≡ true → (a ≡ true) × (b ≡ true)
    both_true true b e = (refl, e)
    both_true false b e = absurd cc

short_below : (ds : List ℕ) (i n : ℕ) → length ds < 19 → i < length ds → Valued ds i n → n < 10 ^ 18
short_below ds i n short lt v =
    let h = digits_value_short own (take i ds) 18 v.digits (let l = length-take-le i ds (omega arith) in omega arith) in
    omega (arith, v.value, h)

pub short_room : (ds : List ℕ) (i n c : ℕ) → length ds < 19 → i < length ds → Valued ds i n → c ≡ get_or ds i 0 → is_ascii_digit c ≡ true → (n * 10 < 2 ^ 64) × (48 ≤ c) × (n * 10 + (c - 48) < 2 ^ 64)
short_room ds i n c short lt v e h =
    let d = one_digit c h in
    let b = short_below ds i n short lt v in
    (omega arith, d.0, omega (arith, d.1))

pub valued_more : (ds : List ℕ) (i n m c : ℕ) → i < length ds → Valued ds i n → c ≡ get_or ds i 0 → is_ascii_digit c ≡ true → m ≡ n * 10 + (c - 48) → Valued ds (i + 1) m
valued_more ds i n m c lt v e h f =
    let k : is_ascii_digit (get_or ds i 0) ≡ true = ap is_ascii_digit (sym e) ∙ h in
    let d = one_digit (get_or ds i 0) k in
    let p : i + 1 ≡ suc i = omega arith in
    record {
      digits = subst (λ (j : ℕ). list_all is_ascii_digit (take j ds) ≡ true) (sym p) (digits_more ds i lt v.digits k);
      value = let t = digits_value_more 10 ds i lt in omega (arith, t, d.2, v.value, e, f);
    }

no_digit : (ds : List ℕ) (i : ℕ) → i < length ds → is_ascii_digit (get_or ds i 0) ≡ false → list_all is_ascii_digit ds ≡ false
no_digit [] i lt h = absurd (omega arith)
no_digit (c ∷ cs) zero lt h = ap (λ (b : Bool). b && list_all is_ascii_digit cs) h
no_digit (c ∷ cs) (suc i) lt h = ap (λ (b : Bool). is_ascii_digit c && b) (no_digit cs i (omega arith) h) ∙ none (is_ascii_digit c)
  where
    none : (a : Bool) → (a && false) ≡ false
    none true = refl
    none false = refl

pub value_none : (ds : List ℕ) (i c : ℕ) → i < length ds → c ≡ get_or ds i 0 → is_ascii_digit c ≡ false → None ≡ value_of_digits ds
value_none ds i c lt e h = sym (ap (λ (b : Bool). cond b (Some (digits_value 10 ds)) None) (no_digit ds i lt (ap is_ascii_digit (sym e) ∙ h)))

taken_whole : (ds : List ℕ) (i : ℕ) → length ds ≤ i → take i ds ≡ ds
taken_whole [] zero h = refl
taken_whole [] (suc i) h = refl
taken_whole (c ∷ cs) zero h = absurd (omega arith)
taken_whole (c ∷ cs) (suc i) h = ap (λ (xs : List ℕ). c ∷ xs) (taken_whole cs i (omega arith))

pub value_some : (ds : List ℕ) (i n : ℕ) → length ds ≤ i → Valued ds i n → Some n ≡ value_of_digits ds
value_some ds i n h v =
    let t = taken_whole ds i h in
    ap Some (v.value ∙ ap (digits_value 10) t)
    ∙ sym (ap (λ (b : Bool). cond b (Some (digits_value 10 ds)) None) (ap (list_all is_ascii_digit) (sym t) ∙ v.digits))

-- which of the tests comes first does not matter
magnitude_by : (a b c d : Bool) (x : ℕ) → d ≡ true → cond (b && c) (cond a (Some x) None) None ≡ cond (a && b && c && d) (Some x) None
magnitude_by a b c false x e = absurd cc
magnitude_by true true true true x e = refl
magnitude_by true true false true x e = refl
magnitude_by true false c true x e = refl
magnitude_by false true true true x e = refl
magnitude_by false true false true x e = refl
magnitude_by false false c true x e = refl

pub magnitude_short : (ds : List ℕ) → length ds < 19 → cond (not (eqb (length ds) 0) && (eqb (length ds) 1 || not (eqb (slice_index ds 0) 48))) (value_of_digits ds) None ≡ magnitude_of ds
magnitude_short ds h =
    magnitude_by (list_all is_ascii_digit ds) (not (eqb (length ds) 0)) (eqb (length ds) 1 || not (eqb (slice_index ds 0) 48)) (ltb (length ds) 33) (digits_value 10 ds) (lt-ltb (length ds) 33 (omega arith))

-- ---- a word and its number

abbrev pub some : {A : Type 0} → A → Option A
some x = Some x

pub some_is : {A : Type 0} (x y : A) → some x ≡ some y → x ≡ y
some_is x y e = cc

guard_some : {A : Type 0} (b : Bool) (x y : A) → cond b (Some x) None ≡ some y → (b ≡ true) × (x ≡ y)
guard_some true x y e = (refl, some_is x y e)
guard_some false x y e = absurd cc

guard_none : {A : Type 0} (b : Bool) (x y : A) → cond b None (Some x) ≡ some y → (b ≡ false) × (x ≡ y)
guard_none true x y e = absurd cc
guard_none false x y e = (refl, some_is x y e)

and_then_ok : {A B : Type 0} (f : A → Option B) (o : Option A) (y : B) → option_and_then f o ≡ Some y → (x : A) × (o ≡ Some x) × (f x ≡ Some y)
and_then_ok f (Some x) y e = (x, refl, e)
and_then_ok f None y e = absurd cc

map_ok : {A B : Type 0} (f : A → B) (o : Option A) (y : B) → option_map f o ≡ Some y → (x : A) × (o ≡ Some x) × (f x ≡ y)
map_ok f (Some x) y e = (x, refl, some_is (f x) y e)
map_ok f None y e = absurd cc

both : (a b : Bool) → (a && b) ≡ true → (a ≡ true) × (b ≡ true)
both true b e = (refl, e)
both false b e = absurd cc

lead_of : (n c : ℕ) (a : Bool) → eqb n 1 ≡ a → (a || not (eqb c 48)) ≡ true → c ≡ 48 → n ≡ 1
lead_of n c true h e is = eqb-true n 1 h
lead_of n c false h e is = absurd (lead_no c (eqb c 48) refl e is)
  where
    lead_no : (c : ℕ) (b : Bool) → eqb c 48 ≡ b → not b ≡ true → c ≡ 48 → ⊥
    lead_no c true h e is = cc
    lead_no c false h e is = eqb-false c 48 h is

pub magnitude_takes : (ds : List ℕ) (n : ℕ) → magnitude_of ds ≡ Some n → ds ≡ decimal n
magnitude_takes ds n e =
    let g = guard_some (is_plain ds) (digits_value 10 ds) n e in
    let abc = both (list_all is_ascii_digit ds && not (eqb (length ds) 0) && (eqb (length ds) 1 || not (eqb (slice_index ds 0) 48))) (ltb (length ds) 33) g.0 in
    let ab = both (list_all is_ascii_digit ds && not (eqb (length ds) 0)) (eqb (length ds) 1 || not (eqb (slice_index ds 0) 48)) abc.0 in
    let a = both (list_all is_ascii_digit ds) (not (eqb (length ds) 0)) ab.0 in
    let short : length ds < 33 = ltb-true (length ds) 33 abc.1 in
    let small : digits_value 10 ds < 10 ^ 64 = omega (arith, value_short ds a.0 short) in
    sym (decimal_value_digits ds (own.to ds a.0) (not_zero_len ds a.1) (λ z. lead_of (length ds) (slice_index ds 0) (eqb (length ds) 1) refl ab.1 z) small) ∙ ap decimal g.1
  where
    not_zero_len : (ds : List ℕ) → not (eqb (length ds) 0) ≡ true → 0 < length ds
    not_zero_len [] h = absurd cc
    not_zero_len (c ∷ ds) h = omega arith

first_wide : (n : ℕ) → n < 10 ^ 64 → (0 < length (decimal n)) × (0 < n → 48 < get_or (decimal n) 0 0)
first_wide n h = decimal_by_steps_wide (λ n ds. (0 < length ds) × (0 < n → 48 < get_or ds 0 0)) (λ n lt. (omega arith, λ some. omega arith)) first_more n h
  where
    first_more : (n : ℕ) (ds : List ℕ) → 10 ≤ n → (0 < length ds) × (0 < n / 10 → 48 < get_or ds 0 0) → (0 < length (ds ++ ((48 + n % 10) ∷ []))) × (0 < n → 48 < get_or (ds ++ ((48 + n % 10) ∷ [])) 0 0)
    first_more n [] le h = absurd (omega (arith, h.0))
    first_more n (d ∷ ds) le h = (omega arith, λ some. h.1 (omega arith))

or_true : (b : Bool) → (b || true) ≡ true
or_true true = refl
or_true false = refl

plain_decimal : (n : ℕ) → n < 10 ^ 32 → is_plain (decimal n) ≡ true
plain_decimal n h =
    let k = decimal_is_IsNumeral_wide n (omega (arith, h)) in
    let a : list_all is_ascii_digit (decimal n) ≡ true = own.from (decimal n) k.0.1 in
    let b : eqb (length (decimal n)) 0 ≡ false = ne_eqb (length (decimal n)) 0 (omega (arith, k.0.0)) in
    let d : ltb (length (decimal n)) 33 ≡ true = lt-ltb (length (decimal n)) 33 (omega (arith, length-decimal-le_wide 32 n (omega arith) h (omega (arith, h)))) in
    rw (a, b, lead_ok n h, d) refl
  where
    lead_ok : (n : ℕ) → n < 10 ^ 32 → (eqb (length (decimal n)) 1 || not (eqb (slice_index (decimal n) 0) 48)) ≡ true
    lead_ok zero h = rw (decimal_digit 0 (omega arith)) refl
    lead_ok (suc n) h =
        let f = (first_wide (suc n) (omega (arith, h))).1 (omega arith) in
        let g : eqb (slice_index (decimal (suc n)) 0) 48 ≡ false = ne_eqb (slice_index (decimal (suc n)) 0) 48 (omega (arith, f)) in
        rw g (or_true (eqb (length (decimal (suc n))) 1))

pub magnitude_again : (n : ℕ) → n < 10 ^ 32 → magnitude_of (decimal n) ≡ Some n
magnitude_again n h = rw (plain_decimal n h, (decimal_is_IsNumeral_wide n (omega (arith, h))).1) refl

within_ok : (low limit n m : ℕ) → within low limit n ≡ Some m → (low ≤ n) × (n < limit) × (n ≡ m)
within_ok low limit n m e =
    let g = guard_none (ltb n low || leb limit n) n m e in
    let h = neither (ltb n low) (leb limit n) g.0 in
    (ltb-false n low h.0, leb-false limit n h.1, g.1)
  where
    neither : (a b : Bool) → (a || b) ≡ false → (a ≡ false) × (b ≡ false)
    neither true b e = absurd cc
    neither false b e = (refl, e)

pub natural_takes_word : (low limit : ℕ) (w : List ℕ) (n : ℕ) → natural_of low limit w ≡ Some n → (w ≡ decimal n) × (low ≤ n) × (n < limit)
natural_takes_word low limit w n e =
    let h = and_then_ok (within low limit) (magnitude_of w) n e in
    let k = within_ok low limit h.0 n h.2 in
    (magnitude_takes w h.0 h.1 ∙ ap decimal k.2, rw (← k.2) k.0, rw (← k.2) k.1)

pub natural_again_word : (low limit n : ℕ) → low ≤ n → n < limit → limit ≤ 10 ^ 32 → natural_of low limit (decimal n) ≡ Some n
natural_again_word low limit n le lt small =
    let a : ltb n low ≡ false = le-ltb n low le in
    let b : leb limit n ≡ false = lt-leb limit n lt in
    rw (magnitude_again n (omega (arith, lt, small)), a, b) refl

-- ---- with a sign

minus_takes : (limit : ℕ) (c : ℕ) (ds : List ℕ) (z : ℤ) → c ≡ 45 → option_map (λ n. neg_ℤ (pos n)) (natural_of 1 limit ds) ≡ Some z → (c ∷ ds ≡ signed_decimal z) × (nat_abs z < limit)
minus_takes limit c ds z is e =
    let h = map_ok (λ n. neg_ℤ (pos n)) (natural_of 1 limit ds) z e in
    let k = natural_takes_word 1 limit ds h.0 h.1 in
    subst (λ (y : ℤ). (c ∷ ds ≡ signed_decimal y) × (nat_abs y < limit)) h.2 (minus_is h.0 c ds limit is k.0 k.1 k.2)
  where
    minus_is : (n c : ℕ) (ds : List ℕ) (limit : ℕ) → c ≡ 45 → ds ≡ decimal n → 1 ≤ n → n < limit → (c ∷ ds ≡ signed_decimal (neg_ℤ (pos n))) × (nat_abs (neg_ℤ (pos n)) < limit)
    minus_is zero c ds limit is d some lt = absurd (omega (arith, some))
    minus_is (suc n) c ds limit is d some lt = ((λ i. is i ∷ d i), lt)

plus_takes : (limit : ℕ) (w : List ℕ) (z : ℤ) → option_map pos (natural_of 0 limit w) ≡ Some z → (w ≡ signed_decimal z) × (nat_abs z < limit)
plus_takes limit w z e =
    let h = map_ok pos (natural_of 0 limit w) z e in
    let k = natural_takes_word 0 limit w h.0 h.1 in
    subst (λ (y : ℤ). (w ≡ signed_decimal y) × (nat_abs y < limit)) h.2 (k.0, k.2)

sign_takes : (limit : ℕ) (c : ℕ) (ds : List ℕ) (z : ℤ) (b : Bool) → eqb c 45 ≡ b → cond b (option_map (λ n. neg_ℤ (pos n)) (natural_of 1 limit ds)) (option_map pos (natural_of 0 limit (c ∷ ds))) ≡ Some z → (c ∷ ds ≡ signed_decimal z) × (nat_abs z < limit)
sign_takes limit c ds z true h e = minus_takes limit c ds z (eqb-true c 45 h) e
sign_takes limit c ds z false h e = plus_takes limit (c ∷ ds) z e

pub signed_takes_word : (limit : ℕ) (w : List ℕ) (z : ℤ) → signed_of limit w ≡ Some z → (w ≡ signed_decimal z) × (nat_abs z < limit)
signed_takes_word limit [] z e = plus_takes limit [] z e
signed_takes_word limit (c ∷ ds) z e = sign_takes limit c ds z (eqb c 45) refl e

pub signed_again_word : (limit : ℕ) (z : ℤ) → nat_abs z < limit → limit ≤ 10 ^ 32 → signed_of limit (signed_decimal z) ≡ Some z
signed_again_word limit (pos n) lt small =
    let k = decimal_is_IsNumeral_wide n (omega (arith, lt, small)) in
    let d : IsInRange 48 57 (get_or (decimal n) 0 0) = digit_at (decimal n) 0 k.0.1 k.0.0 in
    let no : eqb (slice_index (decimal n) 0) 45 ≡ false = ne_eqb (slice_index (decimal n) 0) 45 (omega (arith, d)) in
    rw (no, natural_again_word 0 limit n (omega arith) lt small) refl
signed_again_word limit (negsuc n) lt small = rw (natural_again_word 1 limit (suc n) (omega arith) lt small) refl

pub coef_takes_word : (w : List ℕ) (z : ℤ) → coef_of w ≡ Some z → (w ≡ signed_decimal z) × (nat_abs z < cap + 1) × (z ≢ pos 0)
coef_takes_word w z e =
    let h = and_then_ok not_zero (signed_of (cap + 1) w) z e in
    let k = signed_takes_word (cap + 1) w h.0 h.1 in
    let n = not_zero_ok h.0 z h.2 in
    (k.0 ∙ ap signed_decimal n.0, rw (← n.0) k.1, n.1)
  where
    not_zero_ok : (y z : ℤ) → not_zero y ≡ Some z → (y ≡ z) × (z ≢ pos 0)
    not_zero_ok (pos zero) z e = absurd cc
    not_zero_ok (pos (suc n)) z e = let p = some_is (pos (suc n)) z e in (p, λ q. let r : pos (suc n) ≡ pos 0 = p ∙ q in cc)
    not_zero_ok (negsuc n) z e = let p = some_is (negsuc n) z e in (p, λ q. let r : negsuc n ≡ pos 0 = p ∙ q in cc)

not_zero_again : (z : ℤ) → z ≢ pos 0 → not_zero z ≡ Some z
not_zero_again (pos zero) other = absurd (other refl)
not_zero_again (pos (suc n)) other = refl
not_zero_again (negsuc n) other = refl

pub coef_again_word : (z : ℤ) → nat_abs z ≤ cap → z ≢ pos 0 → coef_of (signed_decimal z) ≡ Some z
coef_again_word z le other = rw (signed_again_word (cap + 1) z (omega (arith, le)) (omega arith)) (not_zero_again z other)
