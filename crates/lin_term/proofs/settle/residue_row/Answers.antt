use Rattle.std.specs.Prelude.{Ok, false, ◌≤◌, ◌≤ℤ◌}
use Rattle.std.proofs.Common.{ℕ, ℤ, List, ◌≡◌, ◌∙◌, pos, nat_abs, ap, sym, subst, arith, w64, SFits, to_z-of_z, to_z, of_z}
use mir.Syntax.{w128}
use Rattle.std.proofs.lemmas.Int.{ints}
use Rattle.lin_term.specs.Form.{AreTerms}
use Rattle.lin_term.specs.Linear.{Form, floor_div}
use Rattle.lin_term.specs.Literal.{gcd, gcd_terms, quotient_terms, modulus_of}
use Rattle.lin_term.specs.Blend.{reduce_by, residue_by, sum_terms}
use Rattle.lin_term.specs.Items.{CappedTerms}
use Rattle.lin_term.specs.Settle.{sum_form}
use Rattle.lin_term.specs.Wide.{Capped, form_numbers, fits}
use Rattle.lin_term.proofs.Terms.{two_words}
use Rattle.lin_term.proofs.Residues.{number_is, residue_modulus, residue_terms, residue_are, wide_modulus}
use Rattle.lin_term.proofs.settle.residue_row.Goals as goal

-- the divisor of the modulus and of the reduced numbers
abbrev divisor_at : ℕ → ℤ → ℤ → List (ℕ × ℤ) → ℤ → List (ℕ × ℤ) → ℕ → ℕ
divisor_at d rest p ls q rs x = gcd (gcd d (nat_abs rest)) (gcd_terms (reduce_by d (sum_terms p ls q rs x)))

least : (m : ℤ) → pos 1 ≤ℤ m → 1 ≤ nat_abs m
least m h = omega (arith, ints)

modulus_is : (m rest g n : ℤ) (p : ℤ) (ls : List (ℕ × ℤ)) (q : ℤ) (rs : List (ℕ × ℤ)) (x : ℕ) (c : ℤ) → pos 1 ≤ℤ m → rest ≡ residue_by (nat_abs m) c → g ≡ pos (divisor_at (nat_abs m) rest p ls q rs x) → n ≡ floor_div m (nat_abs g) → n ≡ pos (modulus_of (nat_abs m) (sum_form p ls q rs x c))
modulus_is m rest g n p ls q rs x c o r e h =
    number_is m g n (divisor_at (nat_abs m) rest p ls q rs x) o e h
    ∙ ap pos (residue_modulus (nat_abs m) (sum_terms p ls q rs x) c (divisor_at (nat_abs m) rest p ls q rs x) (least m o) (ap (λ (z : ℤ). divisor_at (nat_abs m) z p ls q rs x) r))

pub returns-then-not-is_within : goal.returns-then-not-is_within
returns-then-not-is_within c =
    let fm : SFits w128 c.args.modulus = c.ranges.modulus in
    let fc : SFits w128 c.args.constant = c.ranges.constant in
    let fp : SFits w64 c.args.p = c.ranges.p in
    let fq : SFits w64 c.args.q = c.ranges.q in
    let fr = two_words c.reduced-rest.result c.reduced-rest.type_inv in
    let fg = two_words c.residue_divisor-g.result c.residue_divisor-g.type_inv in
    let fn = two_words c.floor_quotient-number.result c.floor_quotient-number.type_inv in
    let r = simp to_z-of_z at c.reduced-rest.ensures in
    let g = simp (to_z-of_z, fr) at c.residue_divisor-g.ensures.value in
    let n = simp (to_z-of_z, fg) at c.floor_quotient-number.ensures in
    let m = modulus_is c.args.modulus c.reduced-rest.result c.residue_divisor-g.result c.floor_quotient-number.result c.args.p c.args.left.now c.args.q c.args.right.now c.args.skip c.args.constant c.requires.modulus_least r g n in
    let b : fits (to_z w128 (of_z w128 c.floor_quotient-number.result)) ≡ false = sym c.is_within.ensures ∙ c.if-not-is_within.true in
    wide_modulus (nat_abs c.args.modulus) (sum_form c.args.p c.args.left.now c.args.q c.args.right.now c.args.skip c.args.constant) (to_z w128 (of_z w128 c.floor_quotient-number.result)) (fn ∙ m) b

pub row_of_terms-requires : goal.row_of_terms-requires
row_of_terms-requires c = λ v e.
    let fm : SFits w128 c.args.modulus = c.ranges.modulus in
    let fc : SFits w128 c.args.constant = c.ranges.constant in
    let fp : SFits w64 c.args.p = c.ranges.p in
    let fq : SFits w64 c.args.q = c.ranges.q in
    let fr = two_words c.reduced-rest.result c.reduced-rest.type_inv in
    let fg = two_words c.residue_divisor-g.result c.residue_divisor-g.type_inv in
    let g = simp (to_z-of_z, fr) at c.residue_divisor-g.ensures.value in
    let ts = quotient_terms (reduce_by (nat_abs (to_z w128 (of_z w128 c.args.modulus))) (sum_terms (to_z w64 (of_z w64 c.args.p)) c.args.left.now (to_z w64 (of_z w64 c.args.q)) c.args.right.now c.args.skip)) (nat_abs (to_z w128 (of_z w128 c.residue_divisor-g.result))) in
    let k : CappedTerms ts (Ok v) = subst (λ r. CappedTerms ts r) e c.quotients_of_sum-coefs.ensures in
    let k0 = simp (to_z-of_z, fg) at k.0 in
    let k1 = simp (to_z-of_z, fg) at k.1 in
    subst (λ (us : List (ℕ × ℤ)). AreTerms 0 us) (sym k1)
    (residue_are (nat_abs c.args.modulus) c.args.p c.args.left.now c.args.q c.args.right.now c.args.skip (nat_abs c.reduced-rest.result) (nat_abs c.residue_divisor-g.result) (least c.args.modulus c.requires.modulus_least) c.requires.left_kept c.requires.right_kept (ap nat_abs g) k0)

pub with_modulus-requires-clause-least : goal.with_modulus-requires-clause-least
with_modulus-requires-clause-least c =
    let fm : SFits w128 c.args.modulus = c.ranges.modulus in
    let fc : SFits w128 c.args.constant = c.ranges.constant in
    let fp : SFits w64 c.args.p = c.ranges.p in
    let fq : SFits w64 c.args.q = c.ranges.q in
    let fr = two_words c.reduced-rest.result c.reduced-rest.type_inv in
    let fg = two_words c.residue_divisor-g.result c.residue_divisor-g.type_inv in
    let fn = two_words c.floor_quotient-number.result c.floor_quotient-number.type_inv in
    let r = simp to_z-of_z at c.reduced-rest.ensures in
    let g = simp (to_z-of_z, fr) at c.residue_divisor-g.ensures.value in
    let n = simp (to_z-of_z, fg) at c.floor_quotient-number.ensures in
    let m = modulus_is c.args.modulus c.reduced-rest.result c.residue_divisor-g.result c.floor_quotient-number.result c.args.p c.args.left.now c.args.q c.args.right.now c.args.skip c.args.constant c.requires.modulus_least r g n in
    let e = fn ∙ m in
    omega (arith, ints)

pub returns : goal.returns
returns c =
    let fm : SFits w128 c.args.modulus = c.ranges.modulus in
    let fc : SFits w128 c.args.constant = c.ranges.constant in
    let fp : SFits w64 c.args.p = c.ranges.p in
    let fq : SFits w64 c.args.q = c.ranges.q in
    let fr = two_words c.reduced-rest.result c.reduced-rest.type_inv in
    let fg = two_words c.residue_divisor-g.result c.residue_divisor-g.type_inv in
    let fn = two_words c.floor_quotient-number.result c.floor_quotient-number.type_inv in
    let fz = two_words c.floor_quotient.result c.floor_quotient.type_inv in
    let D = nat_abs c.args.modulus in
    let T = sum_terms c.args.p c.args.left.now c.args.q c.args.right.now c.args.skip in
    let f : Form = sum_form c.args.p c.args.left.now c.args.q c.args.right.now c.args.skip c.args.constant in
    let r = simp to_z-of_z at c.reduced-rest.ensures in
    let g = simp (to_z-of_z, fr) at c.residue_divisor-g.ensures.value in
    let n = simp (to_z-of_z, fg) at c.floor_quotient-number.ensures in
    let z = simp (fr, fg) at c.floor_quotient.ensures in
    let m = modulus_is c.args.modulus c.reduced-rest.result c.residue_divisor-g.result c.floor_quotient-number.result c.args.p c.args.left.now c.args.q c.args.right.now c.args.skip c.args.constant c.requires.modulus_least r g n in
    let same = residue_terms D T c.args.constant (nat_abs c.residue_divisor-g.result) (least c.args.modulus c.requires.modulus_least) (ap nat_abs g ∙ ap (λ (y : ℤ). divisor_at D y c.args.p c.args.left.now c.args.q c.args.right.now c.args.skip) r) (to_z w128 (of_z w128 c.floor_quotient.result)) (fz ∙ z ∙ ap (λ (y : ℤ). floor_div y (nat_abs c.residue_divisor-g.result)) r) in
    let terms : quotient_terms (reduce_by (nat_abs (to_z w128 (of_z w128 c.args.modulus))) (sum_terms (to_z w64 (of_z w64 c.args.p)) c.args.left.now (to_z w64 (of_z w64 c.args.q)) c.args.right.now c.args.skip)) (nat_abs (to_z w128 (of_z w128 c.residue_divisor-g.result))) ≡ quotient_terms (reduce_by D T) (nat_abs c.residue_divisor-g.result) = simp (to_z-of_z, fg) in
    let k = subst (λ (ts : List (ℕ × ℤ)). CappedTerms ts c.quotients_of_sum-coefs.result) terms c.quotients_of_sum-coefs.ensures in
    let row = c.row_of_terms.ensures (quotient_terms (reduce_by D T) (nat_abs c.residue_divisor-g.result)) k in
    c.with_modulus.ensures D f (ap nat_abs (fn ∙ m)) (subst (λ (h : Form). Capped {A = Form} (form_numbers h) h c.row_of_terms.result) same row)
