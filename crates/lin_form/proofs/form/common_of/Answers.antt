use Rattle.std.proofs.Common.{ℕ, ℤ, ◌≡◌, ◌∙◌, ap, arith, nat_abs, List, w64, SFits, to_z-of_z}
use Rattle.lin_term.specs.Linear.{plus_terms, times_terms}
use Rattle.lin_term.specs.Literal.{gcd, gcd_terms, or_one}
use Rattle.lin_term.specs.Blend.{sum_terms}
use Rattle.lin_form.proofs.Dividing.{sum_none, common_value, common_least, common_greatest}
use Rattle.lin_form.proofs.Whole.{gcd_one}
use Rattle.lin_form.proofs.form.common_of.Goals as goal

value : (c : goal.After-common_of_sum) → c.common_of_sum.result ≡ or_one (gcd c.args.den (gcd (nat_abs c.args.constant) (gcd_terms (plus_terms (times_terms c.args.p c.args.left.now) (times_terms c.args.q c.args.right.now)))))
value c =
    let fp : SFits w64 c.args.p = c.ranges.p in
    let fq : SFits w64 c.args.q = c.ranges.q in
    let fc : SFits mir.Syntax.w128 c.args.constant = c.ranges.constant in
    let s : c.gcd_of-start.result ≡ gcd c.args.den (nat_abs c.args.constant) = simp to_z-of_z at (c.gcd_of-start.ensures ∙ ap (gcd c.args.den) c.unsigned_abs.ensures.value) in
    let r : c.common_of_sum.result ≡ gcd c.gcd_of-start.result (gcd_terms (sum_terms c.args.p c.args.left.now c.args.q c.args.right.now 4294967295)) = simp to_z-of_z at c.common_of_sum.ensures in
    common_value c.args.den (nat_abs c.args.constant) c.gcd_of-start.result (gcd_terms (plus_terms (times_terms c.args.p c.args.left.now) (times_terms c.args.q c.args.right.now))) c.common_of_sum.result c.requires.den_least s
    (r ∙ ap (λ (ts : List (ℕ × ℤ)). gcd c.gcd_of-start.result (gcd_terms ts)) (sum_none c.args.p c.args.left.now c.args.q c.args.right.now 4294967295 (omega arith) c.requires.right_kept))

pub returns-clause-value : goal.returns-clause-value
returns-clause-value c = value c

pub returns-clause-least : goal.returns-clause-least
returns-clause-least c = common_least c.args.den _ c.common_of_sum.result c.requires.den_least (value c)

pub returns-clause-greatest : goal.returns-clause-greatest
returns-clause-greatest c = common_greatest c.args.den _ c.common_of_sum.result c.requires.den_least (value c)

pub returns-then-den-eq1-clause-value : goal.returns-then-den-eq1-clause-value
returns-then-den-eq1-clause-value c =
    gcd_one c.args.den (gcd (nat_abs c.args.constant) (gcd_terms (plus_terms (times_terms c.args.p c.args.left.now) (times_terms c.args.q c.args.right.now)))) (omega (arith, c.if-den-eq1.true))
