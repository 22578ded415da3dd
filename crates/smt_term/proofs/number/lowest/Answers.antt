use Rattle.std.specs.Prelude.{◌≤◌, pos, nat_abs, Some, None, Option, Ok, Err}
use Rattle.std.proofs.Common.{◌≡◌, ℕ, ℤ, arith, ap, ap₂, ◌∙◌, sym, subst, w64, to_z, of_z}
use mir.Syntax.{w128}
use Rattle.std.proofs.lemmas.Int.{ints, to_z_pos}
use Rattle.lin_term.specs.Linear.{Value}
use Rattle.lin_term.specs.Fraction.{lowest_value, value_numbers}
use Rattle.lin_term.specs.Wide.{CappedWide}
use Rattle.lin_term.proofs.Fractions.{value_with}
use Rattle.lin_term.proofs.Terms.{word_of}
use Rattle.lin_truth.specs.View.{den_of}
use Rattle.lin_truth.specs.Worked.{kept}
use Rattle.lin_truth.proofs.Keeping.{kept-ok, kept-err}
use Rattle.smt_term.specs.View.{IsKeptExpression}
use Rattle.smt_term.proofs.number.lowest.Goals as goal

pub returns-in-Ok : goal.returns-in-Ok
returns-in-Ok c =
    let n : to_z w128 c.args.num ≡ pos c.args.num = to_z_pos w128 c.args.num (omega (arith, c.requires.num_small)) in
    let d : to_z w128 c.args.den ≡ pos c.args.den = to_z_pos w128 c.args.den (omega (arith, c.requires.den_small)) in
    let same : value_with (to_z w128 c.args.num) (nat_abs (to_z w128 c.args.den)) ≡ value_with (pos c.args.num) c.args.den = ap₂ value_with n (ap nat_abs d) in
    let h : CappedWide (value_numbers (lowest_value (value_with (pos c.args.num) c.args.den))) (lowest_value (value_with (pos c.args.num) c.args.den)) (Ok c.in-Ok.x) = subst (λ (v : Value). CappedWide (value_numbers (lowest_value v)) (lowest_value v) (Ok c.in-Ok.x)) same c.in-Ok.ensures in
    let o : 1 ≤ c.in-Ok.x.den = omega (arith, ints, c.den.ensures.least, c.den.ensures.value) in
    let p : to_z w64 (of_z w64 c.num.result) ≡ c.in-Ok.x.num = word_of c.num.result c.num.ensures.kept ∙ c.num.ensures.value in
    let q : to_z w64 (of_z w64 c.den.result) ≡ pos c.in-Ok.x.den = word_of c.den.result c.den.ensures.kept ∙ c.den.ensures.value in
    subst (λ (e : Option Value). IsKeptExpression e (Some (to_z w64 (of_z w64 c.num.result), to_z w64 (of_z w64 c.den.result)))) (kept-ok (value_with (pos c.args.num) c.args.den) c.in-Ok.x o h)
    (ap₂ value_with (sym p) (ap den_of (sym q)))

pub returns-in-Err : goal.returns-in-Err
returns-in-Err c =
    let n : to_z w128 c.args.num ≡ pos c.args.num = to_z_pos w128 c.args.num (omega (arith, c.requires.num_small)) in
    let d : to_z w128 c.args.den ≡ pos c.args.den = to_z_pos w128 c.args.den (omega (arith, c.requires.den_small)) in
    let same : value_with (to_z w128 c.args.num) (nat_abs (to_z w128 c.args.den)) ≡ value_with (pos c.args.num) c.args.den = ap₂ value_with n (ap nat_abs d) in
    let m = c.make.ensures in
    subst (λ (e : Option Value). IsKeptExpression e None) (kept-err (value_with (pos c.args.num) c.args.den) _ (subst (λ r. CappedWide (value_numbers (lowest_value (value_with (pos c.args.num) c.args.den))) (lowest_value (value_with (pos c.args.num) c.args.den)) r) c.in-Err.is (subst (λ (v : Value). CappedWide (value_numbers (lowest_value v)) (lowest_value v) c.make.result) same m))) tt
