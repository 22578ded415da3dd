use Rattle.std.specs.Prelude.{◌≡◌, ◌<ℤ◌, ◌≤ℤ◌, ◌-ℤ◌, ◌*ℤ◌, nat_abs}
use Rattle.std.specs.Ordering.{int_cmp}
use Rattle.std.proofs.Common.{arith, w64, SFits, to_z, of_z, to_z-of_z}
use mir.Syntax.{w128}
use Rattle.std.proofs.lemmas.Int.{ints}
use Rattle.lin_term.specs.Linear.{floor_div}
use Rattle.lin_term.proofs.Fractions.{cmp_less, cmp_greater, cmp_rests}
use Rattle.lin_term.proofs.Terms.{two_words, word_wide}
use Rattle.lin_term.proofs.fraction.compare_fractions.Goals as goal

pub returns-then-left-right : goal.returns-then-left-right
returns-then-left-right c =
    let fa : SFits w128 c.args.a = c.ranges.a in
    let fb : SFits w64 c.args.b = c.ranges.b in
    let fc : SFits w128 c.args.c = c.ranges.c in
    let fd : SFits w64 c.args.d = c.ranges.d in
    let wb = word_wide c.args.b fb in
    let wd = word_wide c.args.d fd in
    let wl = two_words c.floor_quotient-left.result c.floor_quotient-left.type_inv in
    let wr = two_words c.floor_quotient-right.result c.floor_quotient-right.type_inv in
    let l : c.floor_quotient-left.result ≡ floor_div c.args.a (nat_abs c.args.b) = simp (to_z-of_z, wb) at c.floor_quotient-left.ensures in
    let r : c.floor_quotient-right.result ≡ floor_div c.args.c (nat_abs c.args.d) = simp (to_z-of_z, wd) at c.floor_quotient-right.ensures in
    let h : to_z w128 (of_z w128 c.floor_quotient-left.result) <ℤ to_z w128 (of_z w128 c.floor_quotient-right.result) = omega (arith, ints, c.if-left-right.true) in
    let k : c.floor_quotient-left.result <ℤ c.floor_quotient-right.result = omega (arith, ints, h, wl, wr) in
    cmp_less c.args.a c.args.b c.args.c c.args.d c.floor_quotient-left.result c.floor_quotient-right.result c.requires.b_least c.requires.d_least l r k

pub returns-then-right-left : goal.returns-then-right-left
returns-then-right-left c =
    let fa : SFits w128 c.args.a = c.ranges.a in
    let fb : SFits w64 c.args.b = c.ranges.b in
    let fc : SFits w128 c.args.c = c.ranges.c in
    let fd : SFits w64 c.args.d = c.ranges.d in
    let wb = word_wide c.args.b fb in
    let wd = word_wide c.args.d fd in
    let wl = two_words c.floor_quotient-left.result c.floor_quotient-left.type_inv in
    let wr = two_words c.floor_quotient-right.result c.floor_quotient-right.type_inv in
    let l : c.floor_quotient-left.result ≡ floor_div c.args.a (nat_abs c.args.b) = simp (to_z-of_z, wb) at c.floor_quotient-left.ensures in
    let r : c.floor_quotient-right.result ≡ floor_div c.args.c (nat_abs c.args.d) = simp (to_z-of_z, wd) at c.floor_quotient-right.ensures in
    let h : to_z w128 (of_z w128 c.floor_quotient-right.result) <ℤ to_z w128 (of_z w128 c.floor_quotient-left.result) = omega (arith, ints, c.if-right-left.true) in
    let k : c.floor_quotient-right.result <ℤ c.floor_quotient-left.result = omega (arith, ints, h, wl, wr) in
    cmp_greater c.args.a c.args.b c.args.c c.args.d c.floor_quotient-left.result c.floor_quotient-right.result c.requires.b_least c.requires.d_least l r k

pub returns : goal.returns
returns c =
    let fa : SFits w128 c.args.a = c.ranges.a in
    let fb : SFits w64 c.args.b = c.ranges.b in
    let fc : SFits w128 c.args.c = c.ranges.c in
    let fd : SFits w64 c.args.d = c.ranges.d in
    let wb = word_wide c.args.b fb in
    let wd = word_wide c.args.d fd in
    let wl = two_words c.floor_quotient-left.result c.floor_quotient-left.type_inv in
    let wr = two_words c.floor_quotient-right.result c.floor_quotient-right.type_inv in
    let wx = two_words c.rest_of-r.result c.rest_of-r.type_inv in
    let wy = two_words c.rest_of-s.result c.rest_of-s.type_inv in
    let l : c.floor_quotient-left.result ≡ floor_div c.args.a (nat_abs c.args.b) = simp (to_z-of_z, wb) at c.floor_quotient-left.ensures in
    let r : c.floor_quotient-right.result ≡ floor_div c.args.c (nat_abs c.args.d) = simp (to_z-of_z, wd) at c.floor_quotient-right.ensures in
    let h : to_z w128 (of_z w128 c.floor_quotient-right.result) ≤ℤ to_z w128 (of_z w128 c.floor_quotient-left.result) = omega (arith, ints, c.if-left-right.false) in
    let k : to_z w128 (of_z w128 c.floor_quotient-left.result) ≤ℤ to_z w128 (of_z w128 c.floor_quotient-right.result) = omega (arith, ints, c.if-right-left.false) in
    let x : c.rest_of-r.result ≡ c.args.a -ℤ c.args.b *ℤ floor_div c.args.a (nat_abs c.args.b) = simp to_z-of_z at c.rest_of-r.ensures.value in
    let y : c.rest_of-s.result ≡ c.args.c -ℤ c.args.d *ℤ floor_div c.args.c (nat_abs c.args.d) = simp to_z-of_z at c.rest_of-s.ensures.value in
    let e : c.compare_rests.result ≡ int_cmp (c.rest_of-r.result *ℤ c.args.d) (c.rest_of-s.result *ℤ c.args.b) = simp (to_z-of_z, wx, wy) at c.compare_rests.ensures in
    cmp_rests c.args.a c.args.b c.args.c c.args.d c.floor_quotient-left.result c.floor_quotient-right.result c.rest_of-r.result c.rest_of-s.result c.compare_rests.result c.requires.b_least c.requires.d_least l r (omega (arith, ints, h, wl, wr)) (omega (arith, ints, k, wl, wr)) x y e
