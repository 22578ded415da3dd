-- What is kept of a value: its lowest terms, where both numbers are within the cap.
use Rattle.std.proofs.Common.{◌≡◌, ℕ, zero, suc, ◌/◌, ◌≤◌, Bool, true, false, ◌&&◌, Some, None, ℤ, pos, negsuc, ◌≤ℤ◌, ◌<ℤ◌, nat_abs, refl, sym, ap, subst, ◌∙◌, arith}
use Rattle.std.specs.Prelude.{nat_le, if◌then◌else◌, Ok, Err}
use Rattle.std.proofs.lemmas.Int.{ints}
use Rattle.std.proofs.lemmas.Bool.{false≢true}
use Rattle.lin_term.specs.Form.{cap}
use Rattle.lin_term.specs.Linear.{Value}
use Rattle.lin_term.specs.Literal.{gcd, or_one}
use Rattle.lin_term.specs.Fraction.{lowest_value, value_numbers}
use Rattle.lin_term.specs.Wide.{CappedWide}
use Rattle.lin_term.specs.declared.Wide.{Wide}
use Rattle.lin_truth.specs.View.{den_of}
use Rattle.lin_truth.specs.Worked.{kept, lowest}

zero_over : (x : ℕ) → 0 / x ≡ 0
zero_over zero = omega arith
zero_over (suc x) = omega arith

some_den : (d : ℕ) → 1 ≤ d → nat_le 1 d ≡ true
some_den d o = search (arith, o)

no_den : (d : ℕ) → d ≡ 0 → nat_le 1 d ≡ false
no_den d e = search (arith, e)

-- with a denominator of 0 there is none
none_by : (a b c : Bool) (v : Value) → c ≡ false → None ≡ (if a && (b && c) then Some v else None)
none_by true true true v e = absurd (false≢true (sym e))
none_by true true false v e = refl
none_by true false c v e = refl
none_by false b c v e = refl

pub none-kept : (n d : ℤ) → d <ℤ pos 1 → None ≡ kept (record { num = n; den = den_of d })
none-kept n d h =
    let v : Value = record { num = n; den = den_of d } in
    none_by (nat_le (nat_abs (lowest v).num) cap) (nat_le (lowest v).den cap) (nat_le 1 (lowest v).den) (lowest v)
    (no_den (lowest v).den (ap (λ (k : ℕ). k / or_one (gcd v.den (nat_abs v.num))) (gone d h) ∙ zero_over (or_one (gcd v.den (nat_abs v.num)))))
  where
    gone : (d : ℤ) → d <ℤ pos 1 → den_of d ≡ 0
    gone (pos zero) h = refl
    gone (pos (suc k)) h = absurd (omega (arith, ints))
    gone (negsuc k) h = refl

pub written-den : (d : ℤ) → pos 1 ≤ℤ d → nat_abs d ≡ den_of d
written-den (pos k) h = refl
written-den (negsuc k) h = absurd (omega (arith, ints))

-- what a call that takes the lowest form answers
ok_by : (a b c : Bool) (n d : ℤ) (v x : Value) → c ≡ true → (if a then (if b then None else Some d) else Some n) ≡ None → x ≡ v → Some x ≡ (if a && (b && c) then Some v else None)
ok_by true true true n d v x e h i = ap Some i
ok_by true true false n d v x e h i = absurd (false≢true e)
ok_by true false c n d v x e h i = absurd (let f : Some d ≡ None = h in cc)
ok_by false b c n d v x e h i = absurd (let f : Some n ≡ None = h in cc)

pub kept-ok : (v x : Value) → 1 ≤ x.den → CappedWide (value_numbers (lowest_value v)) (lowest_value v) (Ok x) → Some x ≡ kept v
kept-ok v x o h =
    ok_by (nat_le (nat_abs (lowest v).num) cap) (nat_le (lowest v).den cap) (nat_le 1 (lowest v).den) (lowest v).num (pos (lowest v).den) (lowest v) x
    (some_den (lowest v).den (subst (λ (y : Value). 1 ≤ y.den) h.1 o)) h.0 h.1

err_by : (a b c : Bool) (n d w : ℤ) (v : Value) → (if a then (if b then None else Some d) else Some n) ≡ Some w → None ≡ (if a && (b && c) then Some v else None)
err_by true true c n d w v h = absurd (let f : None ≡ Some w = h in cc)
err_by true false c n d w v h = refl
err_by false b c n d w v h = refl

pub kept-err : (v : Value) (w : Wide) → CappedWide {A = Value} (value_numbers (lowest_value v)) (lowest_value v) (Err w) → None ≡ kept v
kept-err v w h =
    err_by (nat_le (nat_abs (lowest v).num) cap) (nat_le (lowest v).den cap) (nat_le 1 (lowest v).den) (lowest v).num (pos (lowest v).den) w.number (lowest v) h
