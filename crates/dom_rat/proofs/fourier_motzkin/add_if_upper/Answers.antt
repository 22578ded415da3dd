use Rattle.std.proofs.Common.{List, [], ◌∷◌, ◌∙◌, sym, subst}
use Rattle.lin_term.specs.declared.Lit.{Lit}
use Rattle.dom_core.specs.Adding.{AddsCube}
use Rattle.dom_core.specs.Elimination.{resolvent}
use Rattle.dom_rat.proofs.Summing.{one_sum, adds_one}
use Rattle.dom_rat.proofs.fourier_motzkin.add_if_upper.Goals as goal

pub returns : goal.returns
returns c =
    let r = resolvent c.args.var c.args.lower.now c.args.lit.now in
    let made = adds_one c.args.out.now c.add_made.new.out r c.add_made.result (c.add_made.ensures.adds r c.resolvent.ensures) in
    subst (λ (ls : List Lit). AddsCube c.args.out.now c.add_made.new.out ls c.add_made.result) (sym (one_sum c.args.var c.args.lower.now c.args.lit.now (sym c.is_upper.ensures ∙ c.if-not-is_upper.false))) made
