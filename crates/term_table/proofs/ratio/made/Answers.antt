use Rattle.std.proofs.Common.{◌≡◌, nat_abs, to_z, of_z, w64, SFits, to_z-of_z, subst, ap, ◌∙◌, ℤ}
use mir.Syntax.{w128}
use Rattle.lin_term.specs.Linear.{Value}
use Rattle.lin_term.specs.Fraction.{lowest_value, value_numbers}
use Rattle.lin_term.specs.Wide.{CappedWide}
use Rattle.lin_term.proofs.Fractions.{value_with}
use Rattle.lin_term.proofs.Terms.{word_wide}
use Rattle.std.proofs.Common.{ap₂}
use Rattle.term_table.proofs.ratio.made.Goals as goal

pub returns : goal.returns
returns c =
    let fn : SFits w128 c.args.num = c.ranges.num in
    let fd : SFits w64 c.args.den = c.ranges.den in
    let wd : to_z w128 (of_z w128 (to_z w64 (of_z w64 c.args.den))) ≡ c.args.den = ap (λ (z : ℤ). to_z w128 (of_z w128 z)) (to_z-of_z fd) ∙ word_wide c.args.den fd in
    let wn = to_z-of_z fn in
    let same : value_with (to_z w128 (of_z w128 c.args.num)) (nat_abs (to_z w128 (of_z w128 (to_z w64 (of_z w64 c.args.den))))) ≡ value_with c.args.num (nat_abs c.args.den) = ap₂ value_with wn (ap nat_abs wd) in
    c.kept.ensures (value_with c.args.num (nat_abs c.args.den)) (subst (λ (v : Value). CappedWide (value_numbers (lowest_value v)) (lowest_value v) c.make.result) same c.make.ensures)
