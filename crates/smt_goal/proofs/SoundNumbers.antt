-- Numbers that were read are kept: within the cap, and in lowest terms.
use Prim.Native.Nat.{◌∣◌}
use Rattle.std.proofs.Common.{◌≡◌, ℕ, zero, suc, ◌+◌, ◌*◌, ◌/◌, ◌^◌, ◌≤◌, pos, Bool, true, false, ◌&&◌, cond, length, Option, Some, None, Ok, Err, refl, sym, ap, subst, ◌∙◌, arith}
use Rattle.std.specs.Prelude.{nat_le}
use Rattle.std.proofs.Math.Nat.{eq-zero_of_zero-dvd}
use Rattle.ss_names.specs.declared.FaultKind.{FaultKind}
use Rattle.lin_term.specs.Form.{cap}
use Rattle.lin_term.specs.declared.Sort.{Sort}
use Rattle.lin_term.specs.declared.Sort.TheVariants.{Rat, Int}
use Rattle.lin_term.specs.Linear.{Value, IsValue, floor_div}
use Rattle.lin_term.specs.Literal.{gcd, or_one}
use Rattle.lin_term.proofs.Divisors.{gcd_one}
use Rattle.lin_term.proofs.Lowest.{scaled_gcd}
use Rattle.lin_term.proofs.PrimitiveLemmas.{gcd_is, or_one_pos, or_one_divides, whole_div}
use Rattle.lin_truth.specs.Worked.{lowest, is_within, kept}
use Rattle.term_table.specs.Sound.{Sorts, Sound}
use Rattle.term_table.specs.Placed.{Typed}
use Rattle.term_table.specs.Worth.{value_known}
use Rattle.term_table.proofs.SoundLemmas.{sound-number}
use Rattle.smt_lex.specs.Lexeme.{Lexeme}
use Rattle.smt_lex.specs.Place.{Place}
use Rattle.smt_term.specs.Reading.{Read, ◌>>=◌, unless, place_of}
use Rattle.smt_term.specs.Numeral.{number_of, numeral, decimal, decimal_value, kept_or_fault, whole_digits, fraction_digits, number_behind, most_digits}
use Rattle.smt_term.specs.Apply.{worth_here, is_wide}
use Rattle.smt_term.specs.Terms.{number_term, whole_value, whole_number, decimal_term}

-- ---- readings that gave something

pub bind_ok : {A B : Type 0} (r : Read A) (f : A → Read B) (y : B) → (r >>= f) ≡ Ok y → (x : A) × (r ≡ Ok x) × (f x ≡ Ok y)
bind_ok (Ok x) f y e = (x, refl, e)
bind_ok (Err g) f y e = absurd cc

pub unless_ok : {A : Type 0} (b : Bool) (k : FaultKind) (p : Place) (r : Read A) (y : A) → unless b k p r ≡ Ok y → (b ≡ true) × (r ≡ Ok y)
unless_ok true k p r y e = (refl, e)
unless_ok false k p r y e = absurd cc

pub same_ok : {A : Type 0} (x y : A) → ◌≡◌ {A = Read A} (Ok x) (Ok y) → x ≡ y
same_ok {A} x y e = ap back e
  where
    back : Read A → A
    back (Ok z) = z
    back (Err f) = x

pub and_true : (a b : Bool) → (a && b) ≡ true → (a ≡ true) × (b ≡ true)
and_true true b e = (refl, e)
and_true false b e = absurd cc

-- ---- lowest terms

nat_le_true : (a b : ℕ) → a ≤ b → nat_le a b ≡ true
nat_le_true a b le = search (arith, le)

pub le_of_true : (a b : ℕ) → nat_le a b ≡ true → a ≤ b
le_of_true a b is = search (arith, is)

and_both : (a b : Bool) → a ≡ true → b ≡ true → (a && b) ≡ true
and_both true true p q = refl
and_both true false p q = q
and_both false b p q = p

abbrev fraction : ℕ → ℕ → Value
fraction n d = record { num = pos n; den = d }

by_one : (n d : ℕ) → record { num = floor_div (pos n) (or_one 1); den = d / or_one 1 } ≡ fraction n d
by_one n d =
    let p : n / 1 ≡ n = omega arith in
    let q : d / 1 ≡ d = omega arith in
    λ k. record { num = pos (p k); den = q k }

-- a fraction in lowest terms is its own lowest form
lowest_is : (n d : ℕ) → gcd d n ≡ 1 → lowest (fraction n d) ≡ fraction n d
lowest_is n d e = (λ k. record { num = floor_div (pos n) (or_one (e k)); den = d / or_one (e k) }) ∙ by_one n d

-- one that is kept
pub record IsLowest (n d : ℕ) : Type 0 where
  pub common : gcd d n ≡ 1
  pub num : n ≤ cap
  pub den : d ≤ cap
  pub some : 1 ≤ d

abbrev keep : Bool → Value → Option Value
keep b v = cond b (Some v) None

kept_is : (n d : ℕ) → IsLowest n d → kept (record { num = pos n; den = d }) ≡ Some (record { num = pos n; den = d })
kept_is n d is =
    (λ k. keep (is_within (lowest_is n d is.common k)) (lowest_is n d is.common k))
    ∙ ap (λ (b : Bool). keep b (fraction n d)) (and_both (nat_le n cap) (nat_le d cap && nat_le 1 d) (nat_le_true n cap is.num) (and_both (nat_le d cap) (nat_le 1 d) (nat_le_true d cap is.den) (nat_le_true 1 d is.some)))

divisor_pos : (d m : ℕ) → 1 ≤ d → 1 ≤ gcd d m
divisor_pos d m o = from (gcd d m) (gcd_is d m).0
  where
    from : (g : ℕ) → g ∣ d → 1 ≤ g
    from zero h = let e = eq-zero_of_zero-dvd h in absurd (omega arith)
    from (suc g) h = omega arith

one_is : (g : ℕ) → 1 ≤ g → or_one g ≡ g
one_is zero o = absurd (omega arith)
one_is (suc g) o = refl

times_one : (g x : ℕ) → 1 ≤ g → g * x ≡ g → x ≡ 1
times_one g zero o e = absurd (omega (arith, e))
times_one g (suc zero) o e = refl
times_one g (suc (suc x)) o e = absurd (let f : g * suc (suc x) ≡ g + g + g * x = omega arith in omega (arith, e, f))

-- what is kept of a fraction is in lowest terms
lowest_common : (m d : ℕ) → 1 ≤ d → gcd (d / or_one (gcd d m)) (m / or_one (gcd d m)) ≡ 1
lowest_common m d o =
    let g = gcd d m in
    let h = divisor_pos d m o in
    let r = or_one g in
    let e : r * (d / r) ≡ d = whole_div r d (or_one_pos g) (or_one_divides g d (gcd_is d m).0) in
    let f : r * (m / r) ≡ m = whole_div r m (or_one_pos g) (or_one_divides g m (gcd_is d m).1) in
    let all : r * gcd (d / r) (m / r) ≡ g = sym (scaled_gcd r (d / r) (m / r) (or_one_pos g)) ∙ (λ k. gcd (e k) (f k)) in
    times_one r (gcd (d / r) (m / r)) (or_one_pos g) (all ∙ sym (one_is g h))

lowest_some : (m d : ℕ) → 1 ≤ d → 1 ≤ d / or_one (gcd d m)
lowest_some m d o =
    let g = gcd d m in
    let r = or_one g in
    let e : r * (d / r) ≡ d = whole_div r d (or_one_pos g) (or_one_divides g d (gcd_is d m).0) in
    from (d / r) e
  where
    from : (x : ℕ) → or_one (gcd d m) * x ≡ d → 1 ≤ x
    from zero e = absurd (omega (arith, e))
    from (suc x) e = omega arith

kept_lowest : (m d : ℕ) (u : Value) → 1 ≤ d → kept (record { num = pos m; den = d }) ≡ Some u → (n e : ℕ) × (u ≡ record { num = pos n; den = e }) × IsLowest n e
kept_lowest m d u o is = by (is_within (lowest (fraction m d))) refl is
  where
    some_is : (v w : Value) → Some v ≡ Some w → v ≡ w
    some_is v w e = cc

    by : (b : Bool) → is_within (lowest (fraction m d)) ≡ b → keep b (lowest (fraction m d)) ≡ Some u → (n e : ℕ) × (u ≡ record { num = pos n; den = e }) × IsLowest n e
    by true within is =
        let both = and_true (nat_le (m / or_one (gcd d m)) cap) (nat_le (d / or_one (gcd d m)) cap && nat_le 1 (d / or_one (gcd d m))) within in
        let dens = and_true (nat_le (d / or_one (gcd d m)) cap) (nat_le 1 (d / or_one (gcd d m))) both.1 in (
          m / or_one (gcd d m),
          d / or_one (gcd d m),
          sym (some_is (lowest (fraction m d)) u is),
          record {
            common = lowest_common m d o;
            num = le_of_true (m / or_one (gcd d m)) cap both.0;
            den = le_of_true (d / or_one (gcd d m)) cap dens.0;
            some = lowest_some m d o;
          },
        )
    by false within is = absurd cc

-- ---- numbers as terms

-- a term of a scope that is no constant term past the cap
pub record Good (s : Sort) (scope : Sorts) (t : Typed) : Type 0 where
  pub sound : Sound s scope t
  pub narrow : is_wide (worth_here t) ≡ false

number_good : (s : Sort) (scope : Sorts) (n d : ℕ) → IsLowest n d → IsValue s (record { num = pos n; den = d }) → Good s scope (number_term (record { num = pos n; den = d }))
number_good s scope n d is value = record {
  sound = sound-number s scope (record { num = pos n; den = d }) value (is.num, is.some, is.den, is.common);
  narrow = ap (λ (o : Option Value). is_wide (value_known o)) (kept_is n d is);
}

pub whole_good : (s : Sort) (scope : Sorts) (t : Lexeme) (x : Typed) → whole_number t ≡ Ok x → Good s scope x
whole_good s scope t x e =
    let m = bind_ok (numeral t) (λ n. Ok (number_term (whole_value n))) x e in
    let n = unless_ok (nat_le (number_of t.text) cap) _ _ _ m.0 m.1 in
    let le : m.0 ≤ cap = subst (λ (k : ℕ). k ≤ cap) (same_ok (number_of t.text) m.0 n.1) (le_of_true (number_of t.text) cap n.0) in
    subst (Good s scope) (same_ok (number_term (whole_value m.0)) x m.2)
    (number_good s scope m.0 1 (record { common = gcd_one 1 m.0 refl; num = le; den = omega arith; some = omega arith }) (value s m.0))
  where
    value : (s : Sort) (n : ℕ) → IsValue s (record { num = pos n; den = 1 })
    value Rat n = omega arith
    value Int n = refl

power_pos : (n : ℕ) → 1 ≤ 10 ^ n
power_pos zero = omega arith
power_pos (suc n) = let e : 10 ^ suc n ≡ 10 * 10 ^ n = omega arith in omega (arith, e, power_pos n)

pub decimal_good : (s : Sort) (scope : Sorts) (t : Lexeme) (x : Typed) → decimal_term s t ≡ Ok x → Good s scope x
decimal_good Int scope t x e = absurd cc
decimal_good Rat scope t x e =
    let m = bind_ok (decimal t) (λ v. Ok (number_term v)) x e in
    let n = unless_ok (nat_le (length (whole_digits t.text) + length (fraction_digits t.text)) most_digits) _ _ _ m.0 m.1 in
    let k = of_kept (place_of t) (kept (decimal_value t.text)) m.0 n.1 in
    let low = kept_lowest (number_behind (number_of (whole_digits t.text)) (fraction_digits t.text)) (10 ^ length (fraction_digits t.text)) m.0 (power_pos (length (fraction_digits t.text))) k in
    subst (Good Rat scope) (same_ok (number_term m.0) x m.2)
    (subst (λ (v : Value). Good Rat scope (number_term v)) (sym low.2) (number_good Rat scope low.0 low.1 low.3 low.3.some))
  where
    of_kept : (p : Place) (o : Option Value) (v : Value) → kept_or_fault p o ≡ Ok v → o ≡ Some v
    of_kept p None v e = absurd cc
    of_kept p (Some w) v e = ap (λ (x : Value). Some x) (same_ok w v e)
