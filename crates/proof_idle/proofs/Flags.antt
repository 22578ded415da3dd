-- Flags of facts: which are set by lines, by proofs, and what is left of them.
use Rattle.std.specs.Prelude.{ℕ, zero, suc, ◌≤◌, ◌<◌, ◌≡◌, ◌≢◌, ◌⊎◌, nat_eq, Bool, true, false, not, ◌&&◌, ◌||◌, if◌then◌else◌, List, [], ◌∷◌, ◌++◌, length, take, replicate, slice_index_or, slice_set}
use Rattle.std.specs.List.{list_any}
use Rattle.std.proofs.Common.{arith, ap, ◌∙◌, sym, refl, subst, inl, inr}
use Rattle.std.proofs.lemmas.List.{length-append}
use Rattle.std.proofs.lemmas.Bool.Decides.{eqb_tells}
use Rattle.cube_rules.specs.declared.Step.{Step}
use Rattle.cube_rules.specs.declared.Step.TheVariants.{Path, Def, Part, Cases, Sum, Split, Cube, Least, Learn, False}
use Rattle.cube_rules.specs.Closing.{Proof, line, Proofs, no_proof, proof}
use Rattle.proof_rules.specs.Idle.{reads, is_cube, uses, some_uses}
use Rattle.proof_idle.specs.Walk.{marked, all_marked, added}

abbrev pub flag : List Bool → ℕ → Bool
flag us k = slice_index_or us k false

-- a flag past the end is not set
pub set_past : (us : List Bool) (k : ℕ) → length us ≤ k → slice_set us k true ≡ us
set_past [] k h = refl
set_past (u ∷ us) zero h = absurd (omega (arith, h))
set_past (u ∷ us) (suc k) h = ap (λ (vs : List Bool). u ∷ vs) (set_past us k (omega (arith, h)))

set_length : (us : List Bool) (f : ℕ) → length (slice_set us f true) ≡ length us
set_length [] f = refl
set_length (u ∷ us) zero = refl
set_length (u ∷ us) (suc f) = ap suc (set_length us f)

or_false : (b : Bool) → (b || false) ≡ b
or_false true = refl
or_false false = refl

or_true : (b : Bool) → (b || true) ≡ true
or_true true = refl
or_true false = refl

or_or : (a b c : Bool) → ((a || b) || c) ≡ (a || (b || c))
or_or true b c = refl
or_or false b c = refl

set_same : (us : List Bool) (f : ℕ) → f < length us → flag (slice_set us f true) f ≡ true
set_same [] f h = absurd (omega (arith, h))
set_same (u ∷ us) zero h = refl
set_same (u ∷ us) (suc f) h = set_same us f (omega (arith, h))

set_other : (us : List Bool) (f k : ℕ) → f ≢ k → flag (slice_set us f true) k ≡ flag us k
set_other [] f k n = refl
set_other (u ∷ us) zero zero n = absurd (n refl)
set_other (u ∷ us) zero (suc k) n = refl
set_other (u ∷ us) (suc f) zero n = refl
set_other (u ∷ us) (suc f) (suc k) n = set_other us f k (λ e. n (ap suc e))

set_flag : (us : List Bool) (f k : ℕ) → k < length us → flag (slice_set us f true) k ≡ (flag us k || nat_eq f k)
set_flag us f k h = by (eqb_tells f k)
  where
    by : ((nat_eq f k ≡ true) × (f ≡ k)) ⊎ ((nat_eq f k ≡ false) × (f ≢ k)) → flag (slice_set us f true) k ≡ (flag us k || nat_eq f k)
    by (inl e) =
        subst (λ (n : ℕ). flag (slice_set us n true) k ≡ true) (sym e.1) (set_same us k h)
        ∙ sym (ap (λ (b : Bool). flag us k || b) e.0 ∙ or_true (flag us k))
    by (inr e) = set_other us f k e.1 ∙ sym (ap (λ (b : Bool). flag us k || b) e.0 ∙ or_false (flag us k))

all_length : (fs : List ℕ) (us : List Bool) → length (all_marked fs us) ≡ length us
all_length [] us = refl
all_length (f ∷ fs) us = all_length fs (slice_set us f true) ∙ set_length us f

all_flag : (fs : List ℕ) (us : List Bool) (k : ℕ) → k < length us → flag (all_marked fs us) k ≡ (flag us k || list_any (λ f. nat_eq f k) fs)
all_flag [] us k h = sym (or_false (flag us k))
all_flag (f ∷ fs) us k h =
    all_flag fs (slice_set us f true) k (subst (λ (n : ℕ). k < n) (sym (set_length us f)) h)
    ∙ ap (λ (b : Bool). b || list_any (λ g. nat_eq g k) fs) (set_flag us f k h)
    ∙ or_or (flag us k) (nat_eq f k) (list_any (λ g. nat_eq g k) fs)

-- a line sets no more than there are
pub marked_length : (l : Step) (us : List Bool) → length (marked l us) ≡ length us
marked_length (Path n) us = refl
marked_length (Def v i) us = refl
marked_length (Part f i) us = set_length us f
marked_length (Cases f n) us = set_length us f
marked_length (Sum p f q h g) us = set_length (slice_set us f true) h ∙ set_length us f
marked_length (Split x) us = refl
marked_length (Cube fs) us = all_length fs us
marked_length (Least v n) us = refl
marked_length (Learn ls) us = refl
marked_length (False f) us = set_length us f

-- and exactly what it reads
pub marked_flag : (l : Step) (us : List Bool) (k : ℕ) → k < length us → flag (marked l us) k ≡ (flag us k || reads l k)
marked_flag (Path n) us k h = sym (or_false (flag us k))
marked_flag (Def v i) us k h = sym (or_false (flag us k))
marked_flag (Part f i) us k h = set_flag us f k h
marked_flag (Cases f n) us k h = set_flag us f k h
marked_flag (Sum p f q g d) us k h =
    set_flag (slice_set us f true) g k (subst (λ (n : ℕ). k < n) (sym (set_length us f)) h)
    ∙ ap (λ (b : Bool). b || nat_eq g k) (set_flag us f k h)
    ∙ or_or (flag us k) (nat_eq f k) (nat_eq g k)
marked_flag (Split x) us k h = sym (or_false (flag us k))
marked_flag (Cube fs) us k h = all_flag fs us k h
marked_flag (Least v n) us k h = sym (or_false (flag us k))
marked_flag (Learn ls) us k h = sym (or_false (flag us k))
marked_flag (False f) us k h = set_flag us f k h

-- ---- parts of a list of flags

pub front_flag : (us vs : List Bool) (k : ℕ) → k < length us → flag (us ++ vs) k ≡ flag us k
front_flag [] vs k h = absurd (omega (arith, h))
front_flag (u ∷ us) vs zero h = refl
front_flag (u ∷ us) vs (suc k) h = front_flag us vs k (omega (arith, h))

unread_flag : (n k : ℕ) → flag (replicate n false) k ≡ false
unread_flag zero k = refl
unread_flag (suc n) zero = refl
unread_flag (suc n) (suc k) = unread_flag n k

pub behind_flag : (us : List Bool) (n : ℕ) → flag (us ++ replicate n false) (length us) ≡ false
behind_flag [] n = unread_flag n 0
behind_flag (u ∷ us) n = behind_flag us n

pub kept_flag : (n : ℕ) (us : List Bool) (k : ℕ) → k < n → n ≤ length us → flag (take n us ++ false ∷ []) k ≡ flag us k
kept_flag zero us k h l = absurd (omega (arith, h))
kept_flag (suc n) [] k h l = absurd (omega (arith, l))
kept_flag (suc n) (u ∷ us) zero h l = refl
kept_flag (suc n) (u ∷ us) (suc k) h l = kept_flag n us k (omega (arith, h)) (omega (arith, l))

pub kept_length : (n : ℕ) (us : List Bool) → n ≤ length us → length (take n us ++ false ∷ []) ≡ suc n
kept_length zero us l = refl
kept_length (suc n) [] l = absurd (omega (arith, l))
kept_length (suc n) (u ∷ us) l = ap suc (kept_length n us (omega (arith, l)))

pub new_flag : (n : ℕ) (us : List Bool) → n ≤ length us → flag (take n us ++ false ∷ []) n ≡ false
new_flag zero us l = refl
new_flag (suc n) [] l = absurd (omega (arith, l))
new_flag (suc n) (u ∷ us) l = new_flag n us (omega (arith, l))

-- ---- whole subproofs

-- the flags behind a subproof that begins with these, and behind those that follow it, each of which begins with n facts and one
abbrev mutual
  pub after : Proof → List Bool → List Bool
  after (line l no_proof) us = marked l us
  after (line l (proof t ts)) us = if is_cube l then marked l us else after_rest ts (length us) (after t (marked l us ++ replicate (added l) false))

  pub after_rest : Proofs → ℕ → List Bool → List Bool
  after_rest no_proof n us = us
  after_rest (proof t ts) n us = after_rest ts n (after t (take n us ++ false ∷ []))

pub cube_after : (l : Step) (t : Proof) (ts : Proofs) (us : List Bool) (b : Bool) → is_cube l ≡ b → after (line l (proof t ts)) us ≡ (if b then marked l us else after_rest ts (length us) (after t (marked l us ++ replicate (added l) false)))
cube_after l t ts us b e = ap (λ (c : Bool). if c then marked l us else after_rest ts (length us) (after t (marked l us ++ replicate (added l) false))) e

begun_length : (l : Step) (us : List Bool) → length us ≤ length (marked l us ++ replicate (added l) false)
begun_length l us = let a = marked_length l us in let b = length-append (marked l us) (replicate (added l) false) in omega (arith, a, b)

line_length : (l : Step) (t : Proof) (ts : Proofs) (us : List Bool) (b : Bool) → is_cube l ≡ b → length us ≤ length (after_rest ts (length us) (after t (marked l us ++ replicate (added l) false))) → length us ≤ length (after (line l (proof t ts)) us)
line_length l t ts us true e h = subst (λ (vs : List Bool). length us ≤ length vs) (sym (cube_after l t ts us true e)) (let a = marked_length l us in omega (arith, a))
line_length l t ts us false e h = subst (λ (vs : List Bool). length us ≤ length vs) (sym (cube_after l t ts us false e)) h

mutual
  -- a subproof takes no flag away
  pub after_length : (t : Proof) (us : List Bool) → length us ≤ length (after t us)
  after_length (line l no_proof) us = let a = marked_length l us in omega (arith, a)
  after_length (line l (proof t ts)) us =
      let a = begun_length l us in
      let h = after_length t (marked l us ++ replicate (added l) false) in
      line_length l t ts us (is_cube l) refl (rest_length ts (length us) (after t (marked l us ++ replicate (added l) false)) (omega (arith, a, h)))

  pub rest_length : (ts : Proofs) (n : ℕ) (us : List Bool) → n ≤ length us → n ≤ length (after_rest ts n us)
  rest_length no_proof n us l = l
  rest_length (proof t ts) n us l =
      let a = kept_length n us l in
      let h = after_length t (take n us ++ false ∷ []) in
      rest_length ts n (after t (take n us ++ false ∷ [])) (omega (arith, a, h))

nothing_more : (a b : Bool) → (a || (b && false)) ≡ a
nothing_more a true = or_false a
nothing_more a false = or_false a

line_flag : (l : Step) (t : Proof) (ts : Proofs) (us : List Bool) (k : ℕ) → k < length us → (b : Bool) → is_cube l ≡ b
    → flag (after_rest ts (length us) (after t (marked l us ++ replicate (added l) false))) k ≡ (flag (after t (marked l us ++ replicate (added l) false)) k || some_uses ts k)
    → flag (after t (marked l us ++ replicate (added l) false)) k ≡ (flag (marked l us ++ replicate (added l) false) k || uses t k)
    → flag (after (line l (proof t ts)) us) k ≡ (flag us k || (reads l k || (not (is_cube l) && (uses t k || some_uses ts k))))
line_flag l t ts us k h true e r f =
    ap (λ (vs : List Bool). flag vs k) (cube_after l t ts us true e) ∙ marked_flag l us k h
    ∙ ap (λ (b : Bool). flag us k || b) (sym (or_false (reads l k)) ∙ ap (λ (b : Bool). reads l k || (not b && (uses t k || some_uses ts k))) (sym e))
line_flag l t ts us k h false e r f =
    let m = marked_length l us in
    let m' : k < length (marked l us) = omega (arith, m, h) in
    ap (λ (vs : List Bool). flag vs k) (cube_after l t ts us false e)
    ∙ r
    ∙ ap (λ (b : Bool). b || some_uses ts k) (
    f
    ∙ ap (λ (b : Bool). b || uses t k) (front_flag (marked l us) (replicate (added l) false) k m' ∙ marked_flag l us k h)
    ∙ or_or (flag us k) (reads l k) (uses t k))
    ∙ or_or (flag us k) (reads l k || uses t k) (some_uses ts k)
    ∙ ap (λ (b : Bool). flag us k || b) (or_or (reads l k) (uses t k) (some_uses ts k) ∙ ap (λ (b : Bool). reads l k || (not b && (uses t k || some_uses ts k))) (sym e))

mutual
  -- and sets exactly those that it reads
  pub after_flag : (t : Proof) (us : List Bool) (k : ℕ) → k < length us → flag (after t us) k ≡ (flag us k || uses t k)
  after_flag (line l no_proof) us k h = marked_flag l us k h ∙ ap (λ (b : Bool). flag us k || b) (sym (nothing_more (reads l k) (not (is_cube l))))
  after_flag (line l (proof t ts)) us k h =
      let a = begun_length l us in
      let g = after_length t (marked l us ++ replicate (added l) false) in
      line_flag l t ts us k h (is_cube l) refl
      (rest_flag ts (length us) (after t (marked l us ++ replicate (added l) false)) k h (omega (arith, a, g)))
      (after_flag t (marked l us ++ replicate (added l) false) k (omega (arith, a, h)))

  pub rest_flag : (ts : Proofs) (n : ℕ) (us : List Bool) (k : ℕ) → k < n → n ≤ length us → flag (after_rest ts n us) k ≡ (flag us k || some_uses ts k)
  rest_flag no_proof n us k h l = sym (or_false (flag us k))
  rest_flag (proof t ts) n us k h l =
      let a = kept_length n us l in
      let g = after_length t (take n us ++ false ∷ []) in
      rest_flag ts n (after t (take n us ++ false ∷ [])) k h (omega (arith, a, g))
      ∙ ap (λ (b : Bool). b || some_uses ts k) (after_flag t (take n us ++ false ∷ []) k (omega (arith, a, h)) ∙ ap (λ (b : Bool). b || uses t k) (kept_flag n us k h l))
      ∙ or_or (flag us k) (uses t k) (some_uses ts k)
