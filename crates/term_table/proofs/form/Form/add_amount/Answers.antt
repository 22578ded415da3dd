use Rattle.std.proofs.Common.{◌∙◌, ap, subst}
use Rattle.term_table.specs.Scale.{Near, amount, ring, weight}
use Rattle.term_table.specs.Form.{Linear, value}
use Rattle.term_table.proofs.Amounts.{together}
use Rattle.term_table.proofs.FormLemmas.{adds-amount}
use Rattle.term_table.proofs.form.Form.add_amount.Goals as goal

pub returns : goal.returns
returns c =
    λ s gs. subst (λ (old : Linear). Near s (value s (record { own = c.plus-self-inside.result; uses = c.self.inside.uses.items }) gs) ((ring s).plus (value s old gs) ((ring s).times (weight s c.args.weight) (amount s c.args.size)))) c.self.view_is
    (adds-amount s c.self.inside.own c.plus-self-inside.result c.args.size c.args.weight c.self.inside.uses.items gs (c.plus-self-inside.ensures ∙ ap (together c.self.inside.own) c.scaled.ensures))
