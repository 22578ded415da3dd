use Rattle.std.specs.Prelude.{ℕ, ℤ, ◌≡◌, ◌≤◌, ◌≤ℤ◌, pos, nat_abs}
use Rattle.std.proofs.Common.{arith, ap, ap₂, ◌∙◌, sym, subst, SFits, to_z, to_z-of_z}
use mir.Syntax.{w128}
use Rattle.std.proofs.lemmas.Int.{ints, to_z_pos}
use Rattle.lin_term.specs.Literal.{gcd}
use Rattle.lin_term.proofs.Fractions.{divisor_some, divisor_most}
use Rattle.lin_term.proofs.fraction.divisor_of.Goals as goal
use Rattle.lin_term.proofs.fraction.divisor_of.Goals.{After-gcd_of}

some : (c : After-gcd_of) → 1 ≤ nat_abs c.args.den
some c = let l = c.requires in omega (arith, ints)

number : (c : After-gcd_of) → c.gcd_of.result ≡ gcd (nat_abs c.args.den) (nat_abs c.args.num)
number c =
    let fn : SFits w128 c.args.num = c.ranges.num in
    let fd : SFits w128 c.args.den = c.ranges.den in
    let b : c.unsigned_abs-below.result ≡ nat_abs c.args.den = simp to_z-of_z at c.unsigned_abs-below.ensures.value in
    let a : c.unsigned_abs-above.result ≡ nat_abs c.args.num = simp to_z-of_z at c.unsigned_abs-above.ensures.value in
    c.gcd_of.ensures ∙ ap₂ (λ (x y : ℕ). gcd x y) b a

most : (c : After-gcd_of) → c.gcd_of.result ≤ nat_abs c.args.den
most c = let w = divisor_most (nat_abs c.args.den) (nat_abs c.args.num) (some c) in omega (arith, number c, w)

pub overflow_cast-result : goal.overflow_cast-result
overflow_cast-result c =
    let fd : SFits w128 c.args.den = c.ranges.den in
    let l = c.requires in
    let m = most c in
    omega (arith, ints)

value : (c : After-gcd_of) → to_z w128 c.gcd_of.result ≡ pos (gcd (nat_abs c.args.den) (nat_abs c.args.num))
value c =
    let fd : SFits w128 c.args.den = c.ranges.den in
    let l = c.requires in
    let m = most c in
    to_z_pos w128 c.gcd_of.result (omega (arith, ints)) ∙ ap pos (number c)

pub returns-clause-value : goal.returns-clause-value
returns-clause-value c = value c

pub returns-clause-least : goal.returns-clause-least
returns-clause-least c =
    subst (λ (z : ℤ). pos 1 ≤ℤ z) (sym (value c)) (let p = divisor_some (nat_abs c.args.den) (nat_abs c.args.num) (some c) in omega (arith, ints))
