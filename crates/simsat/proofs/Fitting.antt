-- What words in the grammar ask for fits.
use Rattle.std.proofs.Common.{◌≡◌, ◌≢◌, ℕ, ◌≤◌, ◌<◌, ◌+◌, ◌&&◌, ◌||◌, not, Bool, true, false, cond, List, [], ◌∷◌, Option, Some, None, refl, ap, sym, ◌∙◌, subst, arith}
use Rattle.std.specs.Option.{option_and_then, option_map}
use Rattle.std.specs.Str.{bytes_eq}
use Rattle.std.specs.List.{list_any, list_all}
use Rattle.std.specs.Prelude.{nat_lt, nat_le, is_none}
use Rattle.std.proofs.lemmas.Bool.{leb-false}
use Rattle.std.proofs.lemmas.Option.{option_and_then_some}
use Rattle.std.proofs.lemmas.Slice.Eq.{bytes_eq-Decides}
use Rattle.strat_words.specs.Number.{within, magnitude_of}
use Rattle.solve_words.specs.Words.{Word, Asking, solve, generate, Settings, is_name, differ, are_names, named, number, number_or, solving, generating, script_asks, size_asks, asks_by, asking_by, settings, pieces, words_of}
use Rattle.solve_words.specs.declared.Asking.{Asking as WrittenAsking}
use Rattle.solve_words.specs.Seen.{asking_of}
use Rattle.simsat.specs.Plan.{Fits}

of_some : {A : Type 0} → A → Option A → A
of_some {A} d None = d
of_some {A} d (Some x) = x

same_some : {A : Type 0} (x y : A) → Some x ≡ Some y → x ≡ y
unfolding of_some
same_some {A} x y e = ap (of_some x) e

-- ---- numbers

below : (b a : Bool) (n m limit : ℕ) → a ≡ nat_le limit n → cond (b || a) None (Some n) ≡ Some m → m < limit
below true a n m limit h e = absurd (cc)
below false true n m limit h e = absurd (cc)
below false false n m limit h e = let s = same_some n m e in let g = leb-false limit n (sym h) in omega (arith, s, g)

number_up_to : (low high : ℕ) (w : Word) (n : ℕ) → number low high w ≡ Some n → n ≤ high
number_up_to low high w n e =
    option_and_then_some (within low (high + 1)) (magnitude_of w) n e (λ m q h. let b = below (nat_lt m low) (nat_le (high + 1) m) m n (high + 1) refl h in let l : n ≤ high = omega (arith, b) in l)

number_or_up_to : (default low high : ℕ) (o : Option Word) (n : ℕ) → default ≤ high → number_or default low high o ≡ Some n → n ≤ high
number_or_up_to default low high None n d e = subst (λ k. k ≤ high) (same_some default n e) d
number_or_up_to default low high (Some w) n d e = number_up_to low high w n e

-- ---- names

and_both : (a b : Bool) → (a && b) ≡ true → (a ≡ true) × (b ≡ true)
and_both true b e = (refl, e)
and_both false b e = absurd (cc)

other_name : (strategy journal : Word) (rest : List Word) → differ (strategy ∷ journal ∷ rest) ≡ true → journal ≢ strategy
other_name strategy journal rest e h =
    let d = and_both (not (list_any (bytes_eq strategy) (journal ∷ rest))) (differ (journal ∷ rest)) e in
    let same : bytes_eq strategy journal ≡ true = (bytes_eq-Decides strategy journal).1 (sym h) in
    let one : not (bytes_eq strategy journal || list_any (bytes_eq strategy) rest) ≡ true = d.0 in
    let two : not (true || list_any (bytes_eq strategy) rest) ≡ true = subst (λ (b : Bool). not (b || list_any (bytes_eq strategy) rest) ≡ true) same one in
    absurd (cc)

names_differ : (script strategy : Word) (journal : Option Word) → are_names (script ∷ strategy ∷ named journal) ≡ true → (j : Word) → journal ≡ Some j → j ≢ strategy
names_differ script strategy None h j e = absurd (cc)
names_differ script strategy (Some x) h j e =
    let d = and_both (list_all is_name (script ∷ strategy ∷ x ∷ [])) (differ (script ∷ strategy ∷ x ∷ [])) h in
    let d' = and_both (not (list_any (bytes_eq script) (strategy ∷ x ∷ []))) (differ (strategy ∷ x ∷ [])) d.1 in
    subst (λ (w : Word). w ≢ strategy) (same_some x j e) (other_name strategy x [] d'.1)

-- ---- what is asked

solving_fits : (script strategy : Word) (journal : Option Word) (w r : Option ℕ) (a : Asking) → ((n : ℕ) → r ≡ Some n → n ≤ 4096) → solving script strategy journal w r ≡ Some a → Fits a
solving_fits script strategy journal None r a h e = absurd (cc)
solving_fits script strategy journal (Some w) None a h e = absurd (cc)
solving_fits script strategy journal (Some w) (Some r) a h e = by (are_names (script ∷ strategy ∷ named journal)) refl e
  where
    asked : Asking
    asked = solve (record { script = script; strategy = strategy; journal = journal; workers = w; rounds = r })

    by : (b : Bool) → are_names (script ∷ strategy ∷ named journal) ≡ b → cond b (Some asked) None ≡ Some a → Fits a
    by true q s = subst Fits (same_some asked a s) (h r refl, names_differ script strategy journal q)
    by false q s = absurd (cc)

generating_fits : (n r : Option ℕ) (a : Asking) → ((k : ℕ) → n ≡ Some k → k ≤ 64) → ((k : ℕ) → r ≡ Some k → k ≤ 4096) → generating n r ≡ Some a → Fits a
generating_fits None r a h k e = absurd (cc)
generating_fits (Some n) None a h k e = absurd (cc)
generating_fits (Some n) (Some r) a h k e = subst Fits (same_some (generate n r) a e) (h n refl, k r refl)

script_fits : (script : Word) (s : Option Word) (x : Settings) (a : Asking) → script_asks script s x ≡ Some a → Fits a
script_fits script None x a e = absurd (cc)
script_fits script (Some strategy) x a e =
    solving_fits script strategy x.journal (number_or 2 0 64 x.workers) (number_or 256 0 4096 x.rounds) a (λ n q. number_or_up_to 256 0 4096 x.rounds n (omega arith) q) e

size_fits : (size : Word) (x : Settings) (a : Asking) → size_asks size x ≡ Some a → Fits a
size_fits size x a e = by (is_none x.strategy && is_none x.journal && is_none x.workers) e
  where
    by : (b : Bool) → cond b (generating (number 1 64 size) (number_or 256 0 4096 x.rounds)) None ≡ Some a → Fits a
    by true s = generating_fits (number 1 64 size) (number_or 256 0 4096 x.rounds) a (λ n q. number_up_to 1 64 size n q) (λ n q. number_or_up_to 256 0 4096 x.rounds n (omega arith) q) s
    by false s = absurd (cc)

by_fits : (script generated : Option Word) (x : Settings) (a : Asking) → asks_by script generated x ≡ Some a → Fits a
by_fits None None x a e = absurd (cc)
by_fits None (Some size) x a e = size_fits size x a e
by_fits (Some script) None x a e = script_fits script x.strategy x a e
by_fits (Some script) (Some size) x a e = absurd (cc)

asking_fits : (x : Settings) (a : Asking) → asking_by x ≡ Some a → Fits a
unfolding asking_by
asking_fits x a e = by_fits x.script x.generate x a e

-- what the words ask for fits
pub asked_fits : (ws : List Word) (a : Asking) → words_of ws ≡ Some a → Fits a
unfolding words_of
asked_fits ws a e = option_and_then_some asking_by (option_and_then settings (pieces ws)) a e (λ x q h. asking_fits x a h)

-- what is found is what the words ask
pub asked_is : (found : Option WrittenAsking) (x y : WrittenAsking) (asking : Option Asking) → found ≡ Some x → x ≡ y → option_map asking_of found ≡ asking → asking ≡ Some (asking_of y)
asked_is found x y asking e q h = sym h ∙ ap (option_map asking_of) e ∙ ap (λ (z : WrittenAsking). let o : Option Asking = Some (asking_of z) in o) q
