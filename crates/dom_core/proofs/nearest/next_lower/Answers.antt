use Rattle.std.proofs.Common.{◌∙◌, [], ◌∷◌, arith, ap, sym, subst}
use Rattle.std.specs.Prelude.{Option}
use Rattle.std.specs.Option.{option_map}
use Rattle.std.proofs.lemmas.Int.{ints}
use Rattle.dom_core.specs.Pick.{lowers}
use Rattle.dom_core.specs.Bound.{IsLowerBound, lower_of, greatest_from}
use Rattle.dom_core.specs.declared.bound.Bound.{Bound}
use Rattle.dom_core.proofs.Bounding.{lower_next, next_is_lower, lower_is_bound}
use Rattle.dom_core.proofs.nearest.next_lower.Goals as goal

pub returns-in-Some-clause-is : goal.returns-in-Some-clause-is
returns-in-Some-clause-is c =
    let e = sym c.is_lower.ensures ∙ c.if-not-is_lower.false in
    next_is_lower c.args.sort c.args.var c.args.point.now c.in-Some.old c.lower_bound_at-next.result c.greater.result
    (subst (λ (o : Option Bound). IsLowerBound c.args.sort c.args.var c.args.point.now o) c.in-Some.is c.requires.is)
    (lower_is_bound c.args.sort c.args.var c.args.point.now c.args.lit.now c.lower_bound_at-next.result e c.lower_bound_at-next.ensures.same c.lower_bound_at-next.ensures.value)
    c.greater.ensures

pub returns-in-Some-clause-step : goal.returns-in-Some-clause-step
returns-in-Some-clause-step c =
    let e = sym c.is_lower.ensures ∙ c.if-not-is_lower.false in
    let h = subst (λ (o : Option Bound). IsLowerBound c.args.sort c.args.var c.args.point.now o) c.in-Some.is c.requires.is in
    lower_next c.args.sort c.args.var c.args.point.now c.args.lit.now c.in-Some.old c.lower_bound_at-next.result c.greater.result
    (omega (arith, ints, c.den-den.ensures.value, c.den-den.ensures.least)) e c.lower_bound_at-next.ensures.same h.1 c.lower_bound_at-next.ensures.value c.greater.ensures
    ∙ ap (λ (o : Option Bound). greatest_from c.args.sort c.args.point.now (option_map (lower_of c.args.sort c.args.var) o) (lowers c.args.sort c.args.var (c.args.lit.now ∷ []))) (sym c.in-Some.is)
