use Rattle.std.specs.Prelude.{ℤ, ◌≡◌, ◌*ℤ◌, ◌≤ℤ◌, pos}
use Rattle.std.proofs.Common.{arith, ◌∙◌, sym, subst, w64, SFits, to_z-of_z}
use Rattle.lin_term.proofs.Fractions.{dens_least}
use Rattle.lin_term.proofs.Terms.{wide_of}
use Rattle.term_table.proofs.ratio.common.Goals as goal

pub returns-clause-least : goal.returns-clause-least
returns-clause-least c =
    let fa : SFits w64 c.args.a = c.ranges.a in
    let fb : SFits w64 c.args.b = c.ranges.b in
    let v : c.product.result ≡ c.args.a *ℤ c.args.b = simp to_z-of_z at c.product.ensures.value in
    subst (λ (z : ℤ). pos 1 ≤ℤ z) (sym (wide_of c.product.result (omega (arith, c.product.ensures.size)) ∙ v)) (dens_least c.args.a c.args.b c.requires.a_least c.requires.b_least)
