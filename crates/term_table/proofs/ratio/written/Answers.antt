use Rattle.std.specs.Prelude.{◌≤ℤ◌, ◌<ℤ◌, pos}
use Rattle.std.proofs.Common.{◌≡◌, ℤ, nat_abs, arith, ap, ◌∙◌, to_z, of_z, w64, SFits, to_z-of_z}
use Rattle.std.proofs.lemmas.Int.{ints}
use Rattle.lin_truth.specs.View.{den_of}
use Rattle.lin_truth.specs.Worked.{kept}
use Rattle.lin_term.proofs.Terms.{word_wide}
use Rattle.lin_truth.proofs.Keeping.{none-kept, written-den}
use Rattle.term_table.proofs.ratio.written.Goals as goal

pub returns-then-den-lt1 : goal.returns-then-den-lt1
returns-then-den-lt1 c =
    let fd : SFits w64 c.args.den = c.ranges.den in
    none-kept c.args.num c.args.den (omega (arith, ints, c.if-den-lt1.true))

pub returns : goal.returns
returns c =
    let fn : SFits w64 c.args.num = c.ranges.num in
    let fd : SFits w64 c.args.den = c.ranges.den in
    let wn = word_wide c.args.num fn in
    let o : pos 1 ≤ℤ c.args.den = omega (arith, ints, c.if-den-lt1.false) in
    let h : c.made.result ≡ kept (record { num = c.args.num; den = nat_abs c.args.den }) = simp (to_z-of_z, wn) at c.made.ensures in
    h ∙ ap (λ d. kept (record { num = c.args.num; den = d })) (written-den c.args.den o)
