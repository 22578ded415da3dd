-- Counts of facts: what counting and its contrary do to them.
use Rattle.std.specs.Prelude.{ℕ, zero, suc, ◌+◌, ◌-◌, ◌≤◌, ◌<◌, ◌≡◌, ◌≢◌, ◌⊎◌, nat_eq, Bool, true, false, not, ◌&&◌, ◌||◌, List, [], ◌∷◌, ◌++◌, length, take, drop, replicate, slice_index_or, slice_set}
use Rattle.std.proofs.Common.{arith, ap, ◌∙◌, sym, refl, inl, inr}
use Rattle.std.proofs.lemmas.Bool.Decides.{eqb_tells}
use Rattle.proof_prune.specs.Counting.{counted, uncounted, all_unread}

abbrev once_more : ℕ → List ℕ → List ℕ
once_more f cs = slice_set cs f (slice_index_or cs f 0 + 1)

abbrev once_less : ℕ → List ℕ → List ℕ
once_less f cs = slice_set cs f (slice_index_or cs f 0 - 1)

more_length : (f : ℕ) (cs : List ℕ) → length (once_more f cs) ≡ length cs
more_length f [] = refl
more_length zero (c ∷ cs) = refl
more_length (suc f) (c ∷ cs) = ap suc (more_length f cs)

more_more : (f g : ℕ) (cs : List ℕ) → once_more g (once_more f cs) ≡ once_more f (once_more g cs)
more_more f g [] = refl
more_more zero zero (c ∷ cs) = refl
more_more zero (suc g) (c ∷ cs) = refl
more_more (suc f) zero (c ∷ cs) = refl
more_more (suc f) (suc g) (c ∷ cs) = ap (λ (xs : List ℕ). c ∷ xs) (more_more f g cs)

less_more : (f : ℕ) (cs : List ℕ) → once_less f (once_more f cs) ≡ cs
less_more f [] = refl
less_more zero (c ∷ cs) = ap (λ (n : ℕ). n ∷ cs) (let o : c + 1 - 1 ≡ c = omega arith in o)
less_more (suc f) (c ∷ cs) = ap (λ (xs : List ℕ). c ∷ xs) (less_more f cs)

pub counted_length : (fs cs : List ℕ) → length (counted fs cs) ≡ length cs
counted_length [] cs = refl
counted_length (f ∷ fs) cs = counted_length fs (once_more f cs) ∙ more_length f cs

pub counted_append : (fs gs cs : List ℕ) → counted (fs ++ gs) cs ≡ counted gs (counted fs cs)
counted_append [] gs cs = refl
counted_append (f ∷ fs) gs cs = counted_append fs gs (once_more f cs)

pub uncounted_append : (fs gs cs : List ℕ) → uncounted (fs ++ gs) cs ≡ uncounted gs (uncounted fs cs)
uncounted_append [] gs cs = refl
uncounted_append (f ∷ fs) gs cs = uncounted_append fs gs (once_less f cs)

counted_more : (f : ℕ) (fs cs : List ℕ) → counted fs (once_more f cs) ≡ once_more f (counted fs cs)
counted_more f [] cs = refl
counted_more f (g ∷ fs) cs = ap (counted fs) (more_more f g cs) ∙ counted_more f fs (once_more g cs)

-- what was counted first is taken off again
pub uncounted_counted : (fs gs cs : List ℕ) → uncounted fs (counted gs (counted fs cs)) ≡ counted gs cs
uncounted_counted [] gs cs = refl
uncounted_counted (f ∷ fs) gs cs =
    ap (λ (xs : List ℕ). uncounted fs (once_less f (counted gs xs))) (counted_more f fs cs)
    ∙ ap (λ (xs : List ℕ). uncounted fs (once_less f xs)) (counted_more f gs (counted fs cs))
    ∙ ap (uncounted fs) (less_more f (counted gs (counted fs cs)))
    ∙ uncounted_counted fs gs cs

-- counts in front are counted alone
front_more : (f : ℕ) (cs ds : List ℕ) → (es : List ℕ) × (once_more f (cs ++ ds) ≡ once_more f cs ++ es)
front_more f [] ds = (once_more f ds, refl)
front_more zero (c ∷ cs) ds = (ds, refl)
front_more (suc f) (c ∷ cs) ds = let r = front_more f cs ds in (r.0, ap (λ (xs : List ℕ). c ∷ xs) r.1)

take_front : (cs ds : List ℕ) → take (length cs) (cs ++ ds) ≡ cs
take_front [] ds = refl
take_front (c ∷ cs) ds = ap (λ (xs : List ℕ). c ∷ xs) (take_front cs ds)

pub counted_front : (fs cs ds : List ℕ) → take (length cs) (counted fs (cs ++ ds)) ≡ counted fs cs
counted_front [] cs ds = take_front cs ds
counted_front (f ∷ fs) cs ds =
    let r = front_more f cs ds in
    ap (λ (xs : List ℕ). take (length cs) (counted fs xs)) r.1
    ∙ ap (λ (n : ℕ). take n (counted fs (once_more f cs ++ r.0))) (sym (more_length f cs))
    ∙ counted_front fs (once_more f cs) r.0

-- ---- whether facts are read

-- k is below m
abbrev pub under : ℕ → ℕ → Bool
under zero k = false
under (suc m) zero = true
under (suc m) (suc k) = under m k

pub under_true : (m k : ℕ) → k < m → under m k ≡ true
under_true zero k h = absurd (omega (arith, h))
under_true (suc m) zero h = refl
under_true (suc m) (suc k) h = under_true m k (omega (arith, h))

pub under_false : (m k : ℕ) → m ≤ k → under m k ≡ false
under_false zero k h = refl
under_false (suc m) zero h = absurd (omega (arith, h))
under_false (suc m) (suc k) h = under_false m k (omega (arith, h))

-- one of these is from n on and below m
abbrev pub reads_in : ℕ → ℕ → List ℕ → Bool
reads_in n m [] = false
reads_in n m (k ∷ ks) = (not (under n k) && under m k) || reads_in n m ks

more_zero : (c : ℕ) → nat_eq (c + 1) 0 ≡ false
more_zero c = by (eqb_tells (c + 1) 0)
  where
    by : ((nat_eq (c + 1) 0 ≡ true) × (c + 1 ≡ 0)) ⊎ ((nat_eq (c + 1) 0 ≡ false) × (c + 1 ≢ 0)) → nat_eq (c + 1) 0 ≡ false
    by (inl e) = let f = e.1 in absurd (omega (arith, f))
    by (inr e) = e.0

and_false : (b : Bool) → (b && false) ≡ false
and_false true = refl
and_false false = refl

and_and : (a b c : Bool) → (a && (b && c)) ≡ ((a && b) && c)
and_and true b c = refl
and_and false b c = refl

not_or : (a b c : Bool) → ((a && not b) && not c) ≡ (a && not (b || c))
not_or true true c = refl
not_or true false c = refl
not_or false b c = refl

unread_more : (f : ℕ) (cs : List ℕ) → all_unread (once_more f cs) ≡ (all_unread cs && not (under (length cs) f))
unread_more f [] = refl
unread_more zero (c ∷ cs) = ap (λ (b : Bool). b && all_unread cs) (more_zero c) ∙ sym (and_false (nat_eq c 0 && all_unread cs))
unread_more (suc f) (c ∷ cs) = ap (λ (b : Bool). nat_eq c 0 && b) (unread_more f cs) ∙ and_and (nat_eq c 0) (all_unread cs) (not (under (length cs) f))

drop_more : (n f : ℕ) (cs : List ℕ) → all_unread (drop n (once_more f cs)) ≡ (all_unread (drop n cs) && not (not (under n f) && under (length cs) f))
drop_more zero f cs = unread_more f cs
drop_more (suc n) f [] = ap (λ (b : Bool). true && not b) (sym (and_false (not (under (suc n) f))))
drop_more (suc n) zero (c ∷ cs) = sym (and_true (all_unread (drop n cs)))
  where
    and_true : (b : Bool) → (b && true) ≡ b
    and_true true = refl
    and_true false = refl
drop_more (suc n) (suc f) (c ∷ cs) = drop_more n f cs

-- of the facts from n on none is read where none was, and none of these is one of them
pub unread_counted : (n : ℕ) (fs cs : List ℕ) → all_unread (drop n (counted fs cs)) ≡ (all_unread (drop n cs) && not (reads_in n (length cs) fs))
unread_counted n [] cs = sym (and_true (all_unread (drop n cs)))
  where
    and_true : (b : Bool) → (b && true) ≡ b
    and_true true = refl
    and_true false = refl
unread_counted n (f ∷ fs) cs =
    unread_counted n fs (once_more f cs)
    ∙ ap (λ (m : ℕ). all_unread (drop n (once_more f cs)) && not (reads_in n m fs)) (more_length f cs)
    ∙ ap (λ (b : Bool). b && not (reads_in n (length cs) fs)) (drop_more n f cs)
    ∙ not_or (all_unread (drop n cs)) (not (under n f) && under (length cs) f) (reads_in n (length cs) fs)

zeros : (a : ℕ) → all_unread (replicate a 0) ≡ true
zeros zero = refl
zeros (suc a) = zeros a

drop_front : (cs ds : List ℕ) → drop (length cs) (cs ++ ds) ≡ ds
drop_front [] ds = refl
drop_front (c ∷ cs) ds = drop_front cs ds

zeros_length : (cs : List ℕ) (a : ℕ) → length (cs ++ replicate a 0) ≡ length cs + a
zeros_length [] zero = refl
zeros_length [] (suc a) = ap suc (zeros_length [] a) ∙ (let o : suc (0 + a) ≡ 0 + suc a = omega arith in o)
zeros_length (c ∷ cs) a = ap suc (zeros_length cs a) ∙ (let o : suc (length cs + a) ≡ suc (length cs) + a = omega arith in o)

pub unread_added : (fs cs : List ℕ) (a : ℕ) → all_unread (drop (length cs) (counted fs (cs ++ replicate a 0))) ≡ not (reads_in (length cs) (length cs + a) fs)
unread_added fs cs a =
    unread_counted (length cs) fs (cs ++ replicate a 0)
    ∙ ap (λ (b : List ℕ). all_unread b && not (reads_in (length cs) (length (cs ++ replicate a 0)) fs)) (drop_front cs (replicate a 0))
    ∙ ap (λ (b : Bool). b && not (reads_in (length cs) (length (cs ++ replicate a 0)) fs)) (zeros a)
    ∙ ap (λ (m : ℕ). not (reads_in (length cs) m fs)) (zeros_length cs a)
