use Rattle.std.proofs.Common.{◌∙◌, [], ◌∷◌, arith, ap, sym, subst}
use Rattle.std.specs.Prelude.{Option}
use Rattle.std.specs.Option.{option_map}
use Rattle.std.proofs.lemmas.Int.{ints}
use Rattle.dom_core.specs.Pick.{uppers}
use Rattle.dom_core.specs.Bound.{IsUpperBound, upper_of, least_from}
use Rattle.dom_core.specs.declared.bound.Bound.{Bound}
use Rattle.dom_core.proofs.Bounding.{upper_next, next_is_upper, upper_is_bound}
use Rattle.dom_core.proofs.nearest.next_upper.Goals as goal

pub returns-in-Some-clause-is : goal.returns-in-Some-clause-is
returns-in-Some-clause-is c =
    let e = sym c.is_upper.ensures ∙ c.if-not-is_upper.false in
    next_is_upper c.args.sort c.args.var c.args.point.now c.in-Some.old c.upper_bound_at-next.result c.lesser.result
    (subst (λ (o : Option Bound). IsUpperBound c.args.sort c.args.var c.args.point.now o) c.in-Some.is c.requires.is)
    (upper_is_bound c.args.sort c.args.var c.args.point.now c.args.lit.now c.upper_bound_at-next.result e c.upper_bound_at-next.ensures.same c.upper_bound_at-next.ensures.value)
    c.lesser.ensures

pub returns-in-Some-clause-step : goal.returns-in-Some-clause-step
returns-in-Some-clause-step c =
    let e = sym c.is_upper.ensures ∙ c.if-not-is_upper.false in
    let h = subst (λ (o : Option Bound). IsUpperBound c.args.sort c.args.var c.args.point.now o) c.in-Some.is c.requires.is in
    upper_next c.args.sort c.args.var c.args.point.now c.args.lit.now c.in-Some.old c.upper_bound_at-next.result c.lesser.result
    (omega (arith, ints, c.den-den.ensures.value, c.den-den.ensures.least)) e c.upper_bound_at-next.ensures.same h.1 c.upper_bound_at-next.ensures.value c.lesser.ensures
    ∙ ap (λ (o : Option Bound). least_from c.args.sort c.args.point.now (option_map (upper_of c.args.var) o) (uppers c.args.var (c.args.lit.now ∷ []))) (sym c.in-Some.is)
