use Rattle.std.proofs.Common.{◌≡◌, ℤ, pos, nat_abs, arith, ap, ◌∙◌, sym, w64, SFits, to_z, of_z, to_z-of_z}
use mir.Syntax.{w128}
use Rattle.std.proofs.lemmas.Int.{ints}
use Rattle.lin_truth.specs.Value.{v_over}
use Rattle.lin_truth.specs.Worked.{kept}
use Rattle.term_table.proofs.Multiples.{kept_at, over-none}
use Rattle.term_table.proofs.ratio.over.Goals as goal

pub returns-then-below-eq0 : goal.returns-then-below-eq0
returns-then-below-eq0 c =
    let x = c.args.x in
    let y = c.args.y in
    let fb : SFits w64 c.num-below.result = omega (arith, ints, c.num-below.ensures.kept) in
    let fn : SFits w64 c.num.result = omega (arith, ints, c.num.ensures.kept) in
    let fw : SFits w128 c.num.result = omega (arith, ints, c.num.ensures.kept) in
    let fd : SFits w64 c.den.result = omega (arith, ints, c.den.ensures.kept) in
    let wb = to_z-of_z fb in
    let z : c.num-below.result ≡ pos 0 = omega (arith, ints, c.if-below-eq0.true, wb) in
    let h : c.made.result ≡ kept (record { num = c.num.result; den = nat_abs c.den.result }) = simp to_z-of_z at c.made.ensures in
    h ∙ kept_at c.num.result x.num (nat_abs c.den.result) x.den c.num.ensures.value (ap nat_abs c.den.ensures.value)
    ∙ ap kept (sym (over-none x y.num y.den (sym c.num-below.ensures.value ∙ z)))

pub returns : goal.returns
returns c = c.kept.ensures (v_over c.args.x c.args.y) c.quotient.ensures
