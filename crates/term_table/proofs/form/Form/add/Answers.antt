use Rattle.std.proofs.Common.{◌∙◌, ap, subst, List}
use Rattle.term_table.specs.declared.amount.Weight.{Weight}
use Rattle.term_table.specs.Scale.{Near, amount, ring, weight}
use Rattle.term_table.specs.Form.{Linear, dot, value}
use Rattle.term_table.proofs.Amounts.{together}
use Rattle.term_table.proofs.FormLemmas.{adds-form}
use Rattle.term_table.proofs.form.Form.add.Goals as goal

pub returns : goal.returns
returns c =
    λ s gs. let w = c.args.weight in
    let uses : Near s (dot s c.add_uses.new.uses.items gs) ((ring s).plus (dot s c.self.inside.uses.items gs) ((ring s).times (weight s w) (dot s c.part.inside.uses.items gs))) =
    subst (λ (ps : List Weight). Near s (dot s c.add_uses.new.uses.items gs) ((ring s).plus (dot s c.self.inside.uses.items gs) ((ring s).times (weight s w) (dot s ps gs)))) c.as_slice.ensures.value (c.in_ok-add_uses.ensures s gs) in
    let here = adds-form s c.self.inside.own c.plus-self-inside.result c.part.inside.own w c.self.inside.uses.items c.add_uses.new.uses.items c.part.inside.uses.items gs (c.plus-self-inside.ensures ∙ ap (together c.self.inside.own) c.scaled.ensures) uses in
    let old = subst (λ (f : Linear). Near s ((ring s).plus (amount s c.plus-self-inside.result) (dot s c.add_uses.new.uses.items gs)) ((ring s).plus (value s f gs) ((ring s).times (weight s w) ((ring s).plus (amount s c.part.inside.own) (dot s c.part.inside.uses.items gs))))) c.self.view_is here in
    subst (λ (f : Linear). Near s ((ring s).plus (amount s c.plus-self-inside.result) (dot s c.add_uses.new.uses.items gs)) ((ring s).plus (value s c.args.self.now gs) ((ring s).times (weight s w) (value s f gs)))) c.part.view_is old
