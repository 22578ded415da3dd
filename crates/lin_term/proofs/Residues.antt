-- The primitive form of a divisibility, from the reduced terms of a sum.
use Prim.Native.Nat.{◌∣◌}
use Rattle.std.specs.Prelude.{ℕ, zero, suc, ◌/◌, ◌<◌, ◌≤◌, ◌≡◌, ℤ, pos, negsuc, nat_abs, false, ◌≤ℤ◌, Some, None, Result, Err, List, ◌∷◌}
use Rattle.std.proofs.Common.{arith, refl, subst, sym, ap, ◌∙◌}
use Rattle.std.proofs.lemmas.Int.{ints}
use Rattle.std.proofs.lemmas.Nat.Gcd.{dvd_trans, le_of_dvd}
use Rattle.std.proofs.Math.Nat.{eq-zero_of_zero-dvd}
use Rattle.lin_term.specs.Form.{AreTerms, cap}
use Rattle.lin_term.specs.Linear.{Sort, Rat, Int, Form, times, floor_div}
use Rattle.lin_term.specs.Literal.{gcd, gcd_terms, quotient_terms, reduce, reduce_terms, residue, common_divisor, modulus_of, residue_form, Lit, AtLeast, Above, Divides, NotDivides, prim, neg, IsPrimitive}
use Rattle.lin_term.specs.Wide.{Capped, lit_numbers, fits, coefficients, first_past, form_numbers}
use Rattle.lin_term.specs.Blend.{reduce_by, residue_by, sum_terms}
use Rattle.lin_term.specs.Settle.{CappedResidues}
use Rattle.lin_term.specs.declared.fault.Short.{Short}
use Rattle.lin_term.specs.declared.fault.Short.TheVariants as short
use Rattle.lin_term.specs.declared.fault.Wide.{Wide}
use Rattle.lin_term.proofs.Divisors.{gcd_assoc}
use Rattle.lin_term.proofs.PrimitiveLemmas.{DividesTerms, gcd_is, gcd_divides, divides_weaker}
use Rattle.lin_term.proofs.Capping.{past-within, past-past, past_from}
use Rattle.lin_term.proofs.Ascending.{Ascend, are_from, quotient_ascend, reduce_ascend}
use Rattle.lin_term.proofs.Settling.{sum_ascend}

abbrev pub with_constant : List (ℕ × ℤ) → ℤ → Form
with_constant ts z = record { terms = ts; constant = z }

nonzero_divides : (g d : ℕ) → 1 ≤ d → g ∣ d → 1 ≤ g
nonzero_divides zero d o h = let e = eq-zero_of_zero-dvd h in absurd (omega arith)
nonzero_divides (suc g) d o h = omega arith

pub three_least : (d a b : ℕ) → 1 ≤ d → 1 ≤ gcd (gcd d a) b
three_least d a b o = nonzero_divides (gcd (gcd d a) b) d o (dvd_trans (gcd (gcd d a) b) (gcd_is (gcd d a) b).0 (gcd_is d a).0)

pub three_greatest : (d a b : ℕ) → 1 ≤ d → gcd (gcd d a) b ≤ d
three_greatest d a b o = le_of_dvd (omega arith) (dvd_trans (gcd (gcd d a) b) (gcd_is (gcd d a) b).0 (gcd_is d a).0)

by_common : (d : ℕ) (ts : List (ℕ × ℤ)) (c : ℤ) (g : ℕ) → 1 ≤ d → g ≡ gcd (gcd d (nat_abs (residue_by d c))) (gcd_terms (reduce_by d ts)) → g ≡ common_divisor d (reduce d (record { terms = ts; constant = c }))
by_common zero ts c g o e = absurd (omega arith)
by_common (suc n) ts c g o e = e ∙ gcd_assoc (suc n) (residue c (suc n)) (gcd_terms (reduce_terms (suc n) ts))

pub residue_modulus : (d : ℕ) (ts : List (ℕ × ℤ)) (c : ℤ) (g : ℕ) → 1 ≤ d → g ≡ gcd (gcd d (nat_abs (residue_by d c))) (gcd_terms (reduce_by d ts)) → d / g ≡ modulus_of d (record { terms = ts; constant = c })
residue_modulus zero ts c g o e = absurd (omega arith)
residue_modulus (suc n) ts c g o e = ap (λ (k : ℕ). suc n / k) (by_common (suc n) ts c g o e)

pub residue_terms : (d : ℕ) (ts : List (ℕ × ℤ)) (c : ℤ) (g : ℕ) → 1 ≤ d → g ≡ gcd (gcd d (nat_abs (residue_by d c))) (gcd_terms (reduce_by d ts)) → (z : ℤ) → z ≡ floor_div (residue_by d c) g → with_constant (quotient_terms (reduce_by d ts) g) z ≡ residue_form d (record { terms = ts; constant = c })
residue_terms zero ts c g o e z h = absurd (omega arith)
residue_terms (suc n) ts c g o e z h =
    ap (with_constant (quotient_terms (reduce_terms (suc n) ts) g)) h
    ∙ ap (λ (k : ℕ). with_constant (quotient_terms (reduce_terms (suc n) ts) k) (floor_div (pos (residue c (suc n))) k)) (by_common (suc n) ts c g o e)

reduced_ascend : (d n : ℕ) (ts : List (ℕ × ℤ)) → Ascend n ts → Ascend n (reduce_by d ts)
reduced_ascend zero n ts a = a
reduced_ascend (suc d) n ts a = reduce_ascend n (suc d) ts a

-- the divided terms are a row's where they fit
pub residue_are : (d : ℕ) (p : ℤ) (ls : List (ℕ × ℤ)) (q : ℤ) (rs : List (ℕ × ℤ)) (x : ℕ) (a g : ℕ) → 1 ≤ d → AreTerms 0 ls → AreTerms 0 rs → g ≡ gcd (gcd d a) (gcd_terms (reduce_by d (sum_terms p ls q rs x))) → first_past (coefficients (quotient_terms (reduce_by d (sum_terms p ls q rs x)) g)) ≡ None → AreTerms 0 (quotient_terms (reduce_by d (sum_terms p ls q rs x)) g)
residue_are d p ls q rs x a g o l r e f =
    let ts : List (ℕ × ℤ) = reduce_by d (sum_terms p ls q rs x) in
    let v : DividesTerms (gcd (gcd d a) (gcd_terms ts)) ts = divides_weaker (gcd (gcd d a) (gcd_terms ts)) (gcd_terms ts) ts (gcd_is (gcd d a) (gcd_terms ts)).1 (gcd_divides ts) in
    are_from 0 (quotient_terms ts g) (subst (λ (k : ℕ). Ascend 0 (quotient_terms ts k)) (sym e) (quotient_ascend 0 ts (gcd (gcd d a) (gcd_terms ts)) (three_least d a (gcd_terms ts) o) v (reduced_ascend d 0 (sum_terms p ls q rs x) (sum_ascend p ls q rs x l r)))) f

pub wide_modulus : (d : ℕ) (f : Form) (z : ℤ) → z ≡ pos (modulus_of d f) → fits z ≡ false → first_past (pos (modulus_of d f) ∷ form_numbers (residue_form d f)) ≡ Some z
wide_modulus d f z e h =
    subst (λ (y : ℤ). first_past (y ∷ form_numbers (residue_form d f)) ≡ Some z) e (past-past z (form_numbers (residue_form d f)) (past_from z h))

pub residues_err : (d : ℕ) (f : Form) (fault : Short Wide) → modulus_of d f ≤ cap → Capped {A = Form} (form_numbers (residue_form d f)) (residue_form d f) (Err fault) → CappedResidues d f (Err fault)
residues_err d f (short.Fault w) h k = past-within (pos (modulus_of d f)) (form_numbers (residue_form d f)) h ∙ k
residues_err d f short.Memory h k = tt

-- the modulus that is left
pub number_is : (modulus g n : ℤ) (G : ℕ) → pos 1 ≤ℤ modulus → g ≡ pos G → n ≡ floor_div modulus (nat_abs g) → n ≡ pos (nat_abs modulus / G)
number_is (pos m) g n G o e h = h ∙ ap (λ (z : ℤ). floor_div (pos m) (nat_abs z)) e
number_is (negsuc m) g n G o e h = absurd (omega (arith, ints))

-- in primitive form a divisibility has its own modulus
pub own_modulus : (s : Sort) (d : ℕ) (f : Form) → IsPrimitive s (Divides d f) → modulus_of d f ≡ d
own_modulus Rat d f p = absurd p.0
own_modulus Int d f p = let e = p.1 in cc

pub own_modulus_not : (s : Sort) (d : ℕ) (f : Form) → IsPrimitive s (NotDivides d f) → modulus_of d f ≡ d
own_modulus_not Rat d f p = absurd p.0
own_modulus_not Int d f p = let e = p.1 in cc

pub one_modulus : (s : Sort) (d : ℕ) (f : Form) → IsPrimitive s (Divides d f) → 1 ≤ d
one_modulus Rat d f p = absurd p.0
one_modulus Int d f p = p.0

pub one_modulus_not : (s : Sort) (d : ℕ) (f : Form) → IsPrimitive s (NotDivides d f) → 1 ≤ d
one_modulus_not Rat d f p = absurd p.0
one_modulus_not Int d f p = p.0

pub neg_divides : (s : Sort) (d : ℕ) (f : Form) (r : Result Lit (Short Wide)) → IsPrimitive s (Divides d f) → Capped (lit_numbers (NotDivides (modulus_of d f) (residue_form d f))) (NotDivides (modulus_of d f) (residue_form d f)) r → Capped (lit_numbers (neg s (Divides d f))) (neg s (Divides d f)) r
neg_divides Rat d f r p h = absurd p.0
neg_divides Int d f r p h = h

pub neg_not_divides : (s : Sort) (d : ℕ) (f : Form) (r : Result Lit (Short Wide)) → IsPrimitive s (NotDivides d f) → Capped (lit_numbers (Divides (modulus_of d f) (residue_form d f))) (Divides (modulus_of d f) (residue_form d f)) r → Capped (lit_numbers (neg s (NotDivides d f))) (neg s (NotDivides d f)) r
neg_not_divides Rat d f r p h = absurd p.0
neg_not_divides Int d f r p h = h

pub past_modulus : (d : ℕ) (f : Form) → modulus_of d f ≡ d → cap < d → first_past (pos (modulus_of d f) ∷ form_numbers (residue_form d f)) ≡ Some (pos d)
past_modulus d f e h =
    subst (λ (k : ℕ). first_past (pos k ∷ form_numbers (residue_form d f)) ≡ Some (pos d)) (sym e) (past-past (pos d) (form_numbers (residue_form d f)) h)

-- the negation of an inequality is the primitive form of one
pub neg_at_least : (s : Sort) (f : Form) → prim s (Above (times (negsuc 0) f)) ≡ neg s (AtLeast f)
neg_at_least Rat f = refl
neg_at_least Int f = refl

pub neg_above : (s : Sort) (f : Form) → prim s (AtLeast (times (negsuc 0) f)) ≡ neg s (Above f)
neg_above Rat f = refl
neg_above Int f = refl
