use Rattle.std.proofs.Common.{◌≡◌, ℤ, arith, ◌∙◌, refl, w64, SFits, to_z-of_z}
use mir.Syntax.{w128}
use Rattle.std.proofs.lemmas.Int.{ints}
use Rattle.lin_truth.specs.Value.{whole_div}
use Rattle.lin_truth.specs.Worked.{kept}
use Rattle.term_table.proofs.Multiples.{kept_at}
use Rattle.term_table.proofs.ratio.div.Goals as goal

pub returns : goal.returns
returns c =
    let q = c.whole_quotient.result in
    let f1 : SFits w64 c.num.result = omega (arith, ints, c.num.ensures.kept) in
    let f2 : SFits w64 c.num-2.result = omega (arith, ints, c.num-2.ensures.kept) in
    let f3 : SFits w64 q = omega (arith, ints, c.whole_quotient.ensures.small) in
    let f4 : SFits w128 q = omega (arith, ints, c.whole_quotient.ensures.small) in
    let v : q ≡ whole_div c.num.result c.num-2.result = simp to_z-of_z at c.whole_quotient.ensures.value in
    let h : c.made.result ≡ kept (record { num = q; den = 1 }) = simp to_z-of_z at c.made.ensures in
    h ∙ kept_at q (whole_div c.args.x.num c.args.y.num) 1 1 (v ∙ (λ k. whole_div (c.num.ensures.value k) (c.num-2.ensures.value k))) refl
